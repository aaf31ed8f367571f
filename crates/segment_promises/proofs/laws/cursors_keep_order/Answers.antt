use Rattle.segment_promises.proofs.Lists.{cursors_keep_order}
use Rattle.segment_promises.proofs.laws.cursors_keep_order.Goals as goal

pub returns : goal.returns
returns c = cursors_keep_order
