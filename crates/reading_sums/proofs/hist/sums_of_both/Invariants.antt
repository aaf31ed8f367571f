use Rattle.std.proofs.Common.{◌+◌, ◌++◌, length, map}
use Rattle.std.specs.List.{All, Contains}
use Rattle.std.specs.List.Sorted.{IsStrictlySortedBy}
use Rattle.reading_sums.specs.declared.hist.HistSum.{HistSum}
use Rattle.reading_sums.specs.Orders.{hist_cmp}
use Rattle.reading_sums.specs.Totals.{SameTotals}
use Rattle.reading_sums.specs.Views.{part_of}
use Rattle.reading_sums.specs.Whole.{IsInRange, IsWholeHist}
use Rattle.reading_sums.proofs.hist.sums_of_both.Given as goal

-- the histograms so far, with what is left of both lists, have the totals of both; if both lists are whole they ascend with what is left of
-- each, and all of them are whole and in range; and what is left of a list is of that list
abbrev pub invariant-loop-left_rest : goal.invariant-loop-left_rest
invariant-loop-left_rest l =
    SameTotals (map part_of l.hists.items ++ (map part_of l.left_rest ++ map part_of l.right_rest)) (map part_of l.left ++ map part_of l.right)
    × (IsStrictlySortedBy hist_cmp l.left → IsStrictlySortedBy hist_cmp l.right
    → IsStrictlySortedBy hist_cmp (l.hists.items ++ l.left_rest) × IsStrictlySortedBy hist_cmp (l.hists.items ++ l.right_rest))
    × (All IsWholeHist l.left → All IsWholeHist l.right
    → All IsWholeHist l.hists.items × All IsWholeHist l.left_rest × All IsWholeHist l.right_rest)
    × (All IsInRange l.left → All IsInRange l.right
    → All IsInRange l.hists.items × All IsInRange l.left_rest × All IsInRange l.right_rest)
    × ((x : HistSum) → Contains l.left_rest x → Contains l.left x)
    × ((x : HistSum) → Contains l.right_rest x → Contains l.right x)

abbrev pub decreases-loop-left_rest : goal.decreases-loop-left_rest
decreases-loop-left_rest l = length l.left_rest + length l.right_rest
