use Rattle.std.proofs.Common.{◌-◌}
use Rattle.bucket_ranges.proofs.Buckets.{IsAmong}
use Rattle.bucket_ranges.proofs.ranges.Ranges.bucket_of_clamped.Given as goal

-- the value lies in one of the next `count` buckets
abbrev pub invariant-loop-count : goal.invariant-loop-count
invariant-loop-count l = IsAmong l.self-inside.boundaries.items l.value l.low l.count

abbrev pub decreases-loop-count : goal.decreases-loop-count
decreases-loop-count l = l.count - 1
