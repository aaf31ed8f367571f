use Rattle.segment_invariant.proofs.Publishing.Keeps as events
use Rattle.segment_invariant.proofs.laws.publishing_keeps.Goals as goal

pub returns : goal.returns
returns c = events.publishing_keeps
