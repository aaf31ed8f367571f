use Rattle.segment_invariant.proofs.Consistency.Flags as implied
use Rattle.segment_invariant.proofs.laws.kept_flags_are_set.Goals as goal

pub returns : goal.returns
returns c = implied.flags_are_set
