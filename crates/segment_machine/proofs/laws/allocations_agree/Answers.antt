use Rattle.segment_machine.proofs.Stages.Allocations.{allocations_agree}
use Rattle.segment_machine.proofs.laws.allocations_agree.Goals as goal

pub returns : goal.returns
returns c = allocations_agree
