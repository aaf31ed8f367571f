use Rattle.segment_invariant.proofs.Consistency.Chain as implied
use Rattle.segment_invariant.proofs.laws.kept_is_chain.Goals as goal

pub returns : goal.returns
returns c = implied.list_is_chain
