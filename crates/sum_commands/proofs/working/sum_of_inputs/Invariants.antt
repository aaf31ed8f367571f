use Rattle.std.proofs.Common.{◌-◌, ◌≤◌}
use Rattle.sum_commands.specs.Sources.{IsSumBefore}
use Rattle.sum_commands.proofs.working.sum_of_inputs.Given as goal

-- it is a sum of inputs that come before the end
abbrev pub invariant-loop-all : goal.invariant-loop-all
invariant-loop-all g l = IsSumBefore (g.S.Source.are_whole l.source) (g.S.Source.may_be l.source) l.how.is_strict l.inputs l.all × (l.place ≤ l.inputs)

abbrev pub decreases-loop-all : goal.decreases-loop-all
decreases-loop-all g l = l.inputs - l.place
