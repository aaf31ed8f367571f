use Rattle.std.proofs.Common.{◌-◌}
use Rattle.bucket_ranges.proofs.ScaleTurns.{ListsTo}
use Rattle.bucket_ranges.proofs.scale.scale_list.Given as goal

-- The values before this one.
abbrev pub invariant-loop-value : goal.invariant-loop-value
invariant-loop-value l = ListsTo l.bits l.min l.last l.value l.values.items

abbrev pub decreases-loop-value : goal.decreases-loop-value
decreases-loop-value l = l.last - l.value
