use Rattle.std.proofs.Common.{◌≡◌, None, take}
use Rattle.std.specs.List.{find}
use Rattle.image_reader.specs.Views.{histogram_view}
use Rattle.reading_shows.specs.Since.{is_same}
use Rattle.reading_shows.proofs.since.counts_before.Given as goal

abbrev pub invariant-loop-earlier : goal.invariant-loop-earlier
invariant-loop-earlier l = find (λ one. is_same (histogram_view l.hist) (histogram_view one)) (take l.earlier-index l.since.hists.now) ≡ None
