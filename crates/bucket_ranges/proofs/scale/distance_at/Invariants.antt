use Rattle.std.proofs.Common.{◌+◌, ◌-◌}
use Rattle.bucket_ranges.proofs.Scales.{IsDoubled}
use Rattle.bucket_ranges.proofs.scale.distance_at.Given as goal

-- The distance is a power of two that is not too large.
abbrev pub invariant-loop-distance : goal.invariant-loop-distance
invariant-loop-distance l = IsDoubled l.bits l.number l.distance

abbrev pub decreases-loop-distance : goal.decreases-loop-distance
decreases-loop-distance l = l.number + 1 - l.distance
