use Rattle.segment_promises.proofs.Joined.{lone_deltas_take_all}
use Rattle.segment_promises.proofs.laws.lone_deltas_take_all.Goals as goal

pub returns : goal.returns
returns c = lone_deltas_take_all
