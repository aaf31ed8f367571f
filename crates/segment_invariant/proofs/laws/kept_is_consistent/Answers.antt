use Rattle.segment_invariant.proofs.Consistency.Whole as implied
use Rattle.segment_invariant.proofs.laws.kept_is_consistent.Goals as goal

pub returns : goal.returns
returns c = implied.is_consistent
