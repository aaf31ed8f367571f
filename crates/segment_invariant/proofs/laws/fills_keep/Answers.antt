use Rattle.segment_invariant.proofs.Recorders.Purses.{fills_keep}
use Rattle.segment_invariant.proofs.laws.fills_keep.Goals as goal

pub returns : goal.returns
returns c = fills_keep
