use Rattle.std.proofs.Common.{◌≡◌, ◌-◌, ◌≤◌, pos, map, slice_index, length, vec_capacity}
use Rattle.std.specs.List.{range_with_len}
use Rattle.bucket_ranges.proofs.samples.empty_buckets.Given as goal

-- The buckets below `i`, and room for all.
abbrev pub invariant-loop-i : goal.invariant-loop-i
invariant-loop-i l = record {
  so_far : l.counts.items ≡ map (λ i. (pos (slice_index l.ranges i), 0)) (range_with_len 0 l.i);
  room : length l.ranges - 1 ≤ vec_capacity l.counts;
}
