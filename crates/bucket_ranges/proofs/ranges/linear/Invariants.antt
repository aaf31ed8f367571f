use Rattle.std.proofs.Common.{◌≡◌, ◌-◌, ◌∷◌, map, length}
use Rattle.std.specs.List.{range_with_len}
use Rattle.bucket_ranges.specs.Ranges.{AreValues, inner_boundary}
use Rattle.bucket_ranges.proofs.ranges.linear.Given as goal

-- The boundaries so far: 0, and those before boundary `i`.
abbrev pub invariant-loop-i : goal.invariant-loop-i
invariant-loop-i l = record {
  so_far : l.boundaries.items ≡ 0 ∷ map (inner_boundary l.min l.max l.n) (range_with_len 1 (l.i - 1));
  len : length l.boundaries.items ≡ l.i;
  small : AreValues l.boundaries.items;
}
