-- Each fault may be returned.
use Rattle.sum_commands.proofs.Taking.{any-fault}
use Rattle.sum_commands.proofs.sums.any_fault_may_come.Goals as goal

pub returns : goal.returns
returns c = record { cause = λ before. any-fault before c.args._added.now }
