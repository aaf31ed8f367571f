use Rattle.segment_promises.proofs.Deltas.{deltas_take_accepted}
use Rattle.segment_promises.proofs.laws.deltas_take_accepted.Goals as goal

pub returns : goal.returns
returns c = deltas_take_accepted
