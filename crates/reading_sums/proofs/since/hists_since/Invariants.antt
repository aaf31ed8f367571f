use Rattle.std.proofs.Common.{◌+◌, ◌-◌, ◌≤◌, ◌++◌, map, length, take, drop}
use Rattle.std.specs.List.{All}
use Rattle.std.specs.List.Sorted.{IsStrictlySortedBy}
use Rattle.reading_sums.specs.Orders.{hist_cmp}
use Rattle.reading_sums.specs.Since.{AreSince, IsNoReason}
use Rattle.reading_sums.specs.Views.{part_of}
use Rattle.reading_sums.specs.Whole.{IsInRange, IsWholeHist}
use Rattle.reading_sums.proofs.since.hists_since.Given as goal

-- the histograms so far are what the later ones so far have more than the earlier ones so far, which are settled; and the later ones so far
-- continue to ascend with the rest of the earlier ones
abbrev pub invariant-loop-i : goal.invariant-loop-i
invariant-loop-i l = record {
  later : l.i ≤ length l.later;
  earlier : l.j ≤ length l.earlier;
  since : AreSince (map part_of (take l.i l.later)) (map part_of (take l.j l.earlier)) (map part_of l.hists.items);
  ordered : IsStrictlySortedBy hist_cmp l.later → IsStrictlySortedBy hist_cmp l.earlier
      → IsStrictlySortedBy hist_cmp (take l.i l.later ++ drop l.j l.earlier);
  whole : All IsWholeHist l.later → All IsWholeHist l.hists.items;
  range : All IsInRange l.later → All IsInRange l.hists.items;
  settled : IsStrictlySortedBy hist_cmp l.later → IsStrictlySortedBy hist_cmp l.earlier → All (IsNoReason l.later) (take l.j l.earlier);
}

abbrev pub decreases-loop-i : goal.decreases-loop-i
decreases-loop-i l = (length l.later - l.i) + (length l.earlier - l.j)
