use Rattle.std.proofs.Common.{◌≡◌, ◌++◌, take}
use Rattle.std.specs.List.{flat_map}
use Rattle.image_reader.specs.Views.{bad_view}
use Rattle.reading_shows.specs.Showing.{bad_sentence}
use Rattle.reading_shows.proofs.ending.put_all_bad.Given as goal

abbrev pub invariant-loop-bad : goal.invariant-loop-bad
invariant-loop-bad l = l.text.items ≡ l.initial.text.items ++ flat_map (λ bad. bad_sentence (bad_view bad)) (take l.bad-index l.all)
