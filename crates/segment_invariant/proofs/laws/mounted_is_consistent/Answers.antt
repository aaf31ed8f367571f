use Rattle.segment_invariant.proofs.Examples.Mounted as whole
use Rattle.segment_invariant.proofs.laws.mounted_is_consistent.Goals as goal

pub returns : goal.returns
returns c = whole.mounted_is_consistent
