use Rattle.segment_invariant.proofs.Notes.Keeps as notes
use Rattle.segment_invariant.proofs.laws.notes_keep.Goals as goal

pub returns : goal.returns
returns c = notes.notes_keep
