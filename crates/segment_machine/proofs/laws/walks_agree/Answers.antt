use Rattle.segment_machine.proofs.Stages.Walks.{walks_agree}
use Rattle.segment_machine.proofs.laws.walks_agree.Goals as goal

pub returns : goal.returns
returns c = walks_agree
