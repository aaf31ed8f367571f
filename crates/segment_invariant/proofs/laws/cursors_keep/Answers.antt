use Rattle.segment_invariant.proofs.Cursors.Keeps as events
use Rattle.segment_invariant.proofs.laws.cursors_keep.Goals as goal

pub returns : goal.returns
returns c = events.cursors_keep
