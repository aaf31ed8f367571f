use Rattle.std.proofs.Common.{◌-◌}
use Rattle.bucket_ranges.proofs.ScaleTurns.{CountsTo}
use Rattle.bucket_ranges.proofs.scale.is_too_long.Given as goal

-- The count is that of the values before this one, and one more.
abbrev pub invariant-loop-value : goal.invariant-loop-value
invariant-loop-value l = CountsTo l.bits l.min l.last l.value l.count

abbrev pub decreases-loop-value : goal.decreases-loop-value
decreases-loop-value l = l.last - l.value
