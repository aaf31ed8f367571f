use Rattle.segment_invariant.proofs.Recorders.Lends.{pours_keep}
use Rattle.segment_invariant.proofs.laws.pours_keep.Goals as goal

pub returns : goal.returns
returns c = pours_keep
