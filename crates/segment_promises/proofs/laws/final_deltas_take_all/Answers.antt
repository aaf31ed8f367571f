use Rattle.segment_promises.proofs.Joined.{final_deltas_take_all}
use Rattle.segment_promises.proofs.laws.final_deltas_take_all.Goals as goal

pub returns : goal.returns
returns c = final_deltas_take_all
