use Rattle.segment_invariant.proofs.Openings.Segments as opening
use Rattle.segment_invariant.proofs.laws.new_is_opening.Goals as goal

pub returns : goal.returns
returns c = opening.new_is_opening
