-- Keys with units, in the order of their keys.
use Rattle.std.specs.Prelude.{ℕ, ◌≤◌, ℤ, List, map, sum_by, if◌then◌else◌}
use Rattle.std.specs.List.Sorted.{IsPermutation, IsStrictlySortedBy}
use Rattle.std.specs.Ordering.{int_cmp, int_eq}

-- no key comes twice
abbrev pub NoKeyRepeats : List (ℤ × ℕ) → Type 0
NoKeyRepeats counts = (key : ℤ) → sum_by (λ count. if int_eq count.0 key then 1 else 0) counts ≤ 1

-- the same keys with units, in ascending order if no key comes twice
pub record AreSorted (old new : List (ℤ × ℕ)) : Type 0 where
  pub moved : IsPermutation old new
  pub ascending : NoKeyRepeats old → IsStrictlySortedBy int_cmp (map (λ count. count.0) new)
