use Rattle.std.proofs.Common.{◌≡◌, ◌+◌, ◌++◌, length}
use Rattle.std.specs.List.Sorted.{IsStrictlySortedBy}
use Rattle.reading_sums.specs.Keys.{SameKeys}
use Rattle.reading_sums.specs.Orders.{key_cmp}
use Rattle.reading_sums.specs.Whole.{units_of}
use Rattle.reading_sums.proofs.key.keys_of_both.Given as goal

-- the keys so far, with what is left of both lists, are those of both; they ascend with what is left of each; and all units
-- are there
abbrev pub invariant-loop-left_rest : goal.invariant-loop-left_rest
invariant-loop-left_rest l = SameKeys (l.keys.items ++ (l.left_rest ++ l.right_rest)) (l.left ++ l.right)
    × (IsStrictlySortedBy key_cmp l.left → IsStrictlySortedBy key_cmp l.right
    → IsStrictlySortedBy key_cmp (l.keys.items ++ l.left_rest) × IsStrictlySortedBy key_cmp (l.keys.items ++ l.right_rest))
    × (units_of (l.keys.items ++ (l.left_rest ++ l.right_rest)) ≡ units_of (l.left ++ l.right))

abbrev pub decreases-loop-left_rest : goal.decreases-loop-left_rest
decreases-loop-left_rest l = length l.left_rest + length l.right_rest
