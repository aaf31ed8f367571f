use Rattle.std.proofs.Common.{◌≡◌, ◌*◌, ◌≤◌, take}
use Rattle.std.specs.Int.RustNames.{unsigned_abs}
use Rattle.bucket_ranges.specs.Tally.{units_of, sum_of}
use Rattle.bucket_ranges.proofs.samples.sum_of.Given as goal

-- The sum of the samples so far, which their units bound.
abbrev pub invariant-loop-value : goal.invariant-loop-value
invariant-loop-value l = record {
  so_far : l.sum ≡ sum_of l.ranges (take l.value-index l.samples);
  small : unsigned_abs l.sum ≤ 2147483648 * units_of (take l.value-index l.samples);
}
