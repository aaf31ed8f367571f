use Rattle.segment_invariant.proofs.Allocating.Keeps as events
use Rattle.segment_invariant.proofs.laws.allocating_keeps.Goals as goal

pub returns : goal.returns
returns c = events.allocating_keeps
