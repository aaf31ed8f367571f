use Rattle.segment_invariant.proofs.Walking.Keeps as events
use Rattle.segment_invariant.proofs.laws.walking_keeps.Goals as goal

pub returns : goal.returns
returns c = events.walking_keeps
