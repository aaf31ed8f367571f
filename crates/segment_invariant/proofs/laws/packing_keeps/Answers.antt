use Rattle.segment_invariant.proofs.Packing.Keeps as events
use Rattle.segment_invariant.proofs.laws.packing_keeps.Goals as goal

pub returns : goal.returns
returns c = events.packing_keeps
