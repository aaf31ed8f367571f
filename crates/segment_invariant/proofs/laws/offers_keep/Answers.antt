use Rattle.segment_invariant.proofs.Recorders.Lends.{offers_keep}
use Rattle.segment_invariant.proofs.laws.offers_keep.Goals as goal

pub returns : goal.returns
returns c = offers_keep
