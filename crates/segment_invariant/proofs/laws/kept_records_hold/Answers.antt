use Rattle.segment_invariant.proofs.Consistency.Made as implied
use Rattle.segment_invariant.proofs.laws.kept_records_hold.Goals as goal

pub returns : goal.returns
returns c = implied.records_hold
