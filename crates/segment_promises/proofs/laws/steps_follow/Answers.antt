use Rattle.segment_promises.proofs.Steps.{steps_follow}
use Rattle.segment_promises.proofs.laws.steps_follow.Goals as goal

pub returns : goal.returns
returns c = steps_follow
