use Rattle.std.proofs.Common.{◌+◌, ◌-◌, ◌≤◌, ◌++◌, length, take, drop}
use Rattle.std.specs.List.Sorted.{IsStrictlySortedBy}
use Rattle.reading_sums.specs.Orders.{key_cmp}
use Rattle.reading_sums.specs.Since.{AreKeysSince}
use Rattle.reading_sums.specs.Whole.{AreMarksInRange}
use Rattle.reading_sums.proofs.since.keys_since.Given as goal

-- the keys so far are what the later ones so far have more than the earlier ones so far; and those continue to ascend with the rest of
-- these
abbrev pub invariant-loop-i : goal.invariant-loop-i
invariant-loop-i l = record {
  later : l.i ≤ length l.later;
  earlier : l.j ≤ length l.earlier;
  since : AreKeysSince (take l.i l.later) (take l.j l.earlier) l.keys.items;
  ordered : IsStrictlySortedBy key_cmp l.later → IsStrictlySortedBy key_cmp l.earlier
      → IsStrictlySortedBy key_cmp (take l.i l.later ++ drop l.j l.earlier);
  range : AreMarksInRange l.later → AreMarksInRange l.keys.items;
}

abbrev pub decreases-loop-i : goal.decreases-loop-i
decreases-loop-i l = (length l.later - l.i) + (length l.earlier - l.j)
