use Rattle.segment_invariant.proofs.Taking.Keeps as events
use Rattle.segment_invariant.proofs.laws.taking_keeps.Goals as goal

pub returns : goal.returns
returns c = events.taking_keeps
