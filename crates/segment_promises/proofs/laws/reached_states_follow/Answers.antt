use Rattle.segment_promises.proofs.Reached.{reached_states_follow}
use Rattle.segment_promises.proofs.laws.reached_states_follow.Goals as goal

pub returns : goal.returns
returns c = reached_states_follow
