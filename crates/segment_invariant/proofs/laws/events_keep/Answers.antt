use Rattle.segment_invariant.proofs.Events as events
use Rattle.segment_invariant.proofs.laws.events_keep.Goals as goal

pub returns : goal.returns
returns c = events.events_keep
