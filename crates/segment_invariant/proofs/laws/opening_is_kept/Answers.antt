use Rattle.segment_invariant.proofs.Openings.Segments as opening
use Rattle.segment_invariant.proofs.laws.opening_is_kept.Goals as goal

pub returns : goal.returns
returns c = opening.opening_is_kept
