use Rattle.segment_invariant.proofs.Consistency.Units as implied
use Rattle.segment_invariant.proofs.laws.kept_units_are_kept.Goals as goal

pub returns : goal.returns
returns c = implied.units_are_kept
