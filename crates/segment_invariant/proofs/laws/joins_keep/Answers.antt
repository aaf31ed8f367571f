use Rattle.segment_invariant.proofs.Recorders.Joins.{joins_keep}
use Rattle.segment_invariant.proofs.laws.joins_keep.Goals as goal

pub returns : goal.returns
returns c = joins_keep
