use Rattle.segment_invariant.proofs.Recorders.Lends.{lends_keep}
use Rattle.segment_invariant.proofs.laws.lends_keep.Goals as goal

pub returns : goal.returns
returns c = lends_keep
