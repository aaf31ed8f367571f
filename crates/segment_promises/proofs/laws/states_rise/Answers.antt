use Rattle.segment_promises.proofs.Reached.{states_rise}
use Rattle.segment_promises.proofs.laws.states_rise.Goals as goal

pub returns : goal.returns
returns c = states_rise
