use Rattle.std.proofs.Common.{◌≢◌, take}
use Rattle.std.specs.List.{All}
use Rattle.sum_commands.specs.declared.fault.InputFault.TheVariants.{TooMany}
use Rattle.sum_commands.specs.declared.summing.Left.{Left}
use Rattle.sum_commands.proofs.summing.Summed.has_too_many.Given as goal

-- none so far has that fault
abbrev pub invariant-loop-left : goal.invariant-loop-left
invariant-loop-left l = All (λ (left : Left). left.fault ≢ TooMany) (take l.left-index l.left-items)
