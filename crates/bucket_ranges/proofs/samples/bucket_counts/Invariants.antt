use Rattle.std.proofs.Common.{◌≡◌, take}
use Rattle.bucket_ranges.specs.Tally.{bucket_counts}
use Rattle.bucket_ranges.proofs.samples.bucket_counts.Given as goal

-- The counts of the samples so far.
abbrev pub invariant-loop-value : goal.invariant-loop-value
invariant-loop-value l = l.counts.items ≡ bucket_counts l.ranges (take l.value-index l.samples)
