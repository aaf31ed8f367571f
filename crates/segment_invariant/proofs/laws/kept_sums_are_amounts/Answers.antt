use Rattle.segment_invariant.proofs.Consistency.Amounts as implied
use Rattle.segment_invariant.proofs.laws.kept_sums_are_amounts.Goals as goal

pub returns : goal.returns
returns c = implied.sums_are_amounts
