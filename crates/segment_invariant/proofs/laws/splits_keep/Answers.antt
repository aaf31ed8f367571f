use Rattle.segment_invariant.proofs.Recorders.Splits.{splits_keep}
use Rattle.segment_invariant.proofs.laws.splits_keep.Goals as goal

pub returns : goal.returns
returns c = splits_keep
