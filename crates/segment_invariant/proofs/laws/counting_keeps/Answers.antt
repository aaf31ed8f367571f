use Rattle.segment_invariant.proofs.Counting.Keeps as events
use Rattle.segment_invariant.proofs.laws.counting_keeps.Goals as goal

pub returns : goal.returns
returns c = events.counting_keeps
