use Rattle.std.proofs.Common.{◌≡◌, map, min, sum_by, take}
use Rattle.image_reader.specs.Views.{histogram_view}
use Rattle.reading_overviews.specs.Spent.{spent_by}
use Rattle.reading_overviews.proofs.spent.spent.Given as goal

-- what the histograms so far have used
abbrev pub invariant-loop-hist : goal.invariant-loop-hist
invariant-loop-hist l = l.spent ≡ min (sum_by (spent_by l.frozen) (map histogram_view (take l.hist-index l.hists))) 18446744073709551615
