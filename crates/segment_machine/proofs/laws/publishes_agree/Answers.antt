use Rattle.segment_machine.proofs.Stages.Publishes.{publishes_agree}
use Rattle.segment_machine.proofs.laws.publishes_agree.Goals as goal

pub returns : goal.returns
returns c = publishes_agree
