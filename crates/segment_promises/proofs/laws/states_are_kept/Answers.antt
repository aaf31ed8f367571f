use Rattle.segment_promises.proofs.Reached.{states_are_kept}
use Rattle.segment_promises.proofs.laws.states_are_kept.Goals as goal

pub returns : goal.returns
returns c = states_are_kept
