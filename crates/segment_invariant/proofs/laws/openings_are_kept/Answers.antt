use Rattle.segment_invariant.proofs.Openings.Recorders.{openings_are_kept}
use Rattle.segment_invariant.proofs.laws.openings_are_kept.Goals as goal

pub returns : goal.returns
returns c = openings_are_kept
