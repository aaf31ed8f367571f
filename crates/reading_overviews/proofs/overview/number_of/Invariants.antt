use Rattle.std.proofs.Common.{◌≡◌, ◌≤◌, map, take}
use Rattle.std.specs.List.{count_by}
use Rattle.image_reader.specs.Views.{histogram_view}
use Rattle.reading_overviews.specs.Overview.{is_of_kind}
use Rattle.reading_overviews.proofs.overview.number_of.Given as goal

abbrev pub invariant-loop-hist : goal.invariant-loop-hist
invariant-loop-hist l = (l.number ≡ count_by (is_of_kind l.word) (map histogram_view (take l.hist-index l.hists))) × (l.number ≤ l.hist-index)
