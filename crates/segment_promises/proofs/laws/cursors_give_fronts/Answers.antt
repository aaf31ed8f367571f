use Rattle.segment_promises.proofs.Lists.{cursors_give_fronts}
use Rattle.segment_promises.proofs.laws.cursors_give_fronts.Goals as goal

pub returns : goal.returns
returns c = cursors_give_fronts
