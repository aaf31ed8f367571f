use Rattle.segment_invariant.proofs.Recorders.Lends.{returns_keep}
use Rattle.segment_invariant.proofs.laws.returns_keep.Goals as goal

pub returns : goal.returns
returns c = returns_keep
