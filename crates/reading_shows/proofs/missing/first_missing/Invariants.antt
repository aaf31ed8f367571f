use Rattle.std.proofs.Common.{◌≡◌, None, not, take}
use Rattle.std.specs.List.{find}
use Rattle.image_reader.specs.Views.{reading_view}
use Rattle.reading_shows.specs.Missing.{is_there}
use Rattle.reading_shows.proofs.missing.first_missing.Given as goal

abbrev pub invariant-loop-name : goal.invariant-loop-name
invariant-loop-name l = find (λ name. not (is_there (reading_view l.reading) name)) (take l.name-index l.name-items) ≡ None
