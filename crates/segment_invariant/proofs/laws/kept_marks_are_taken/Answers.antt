use Rattle.segment_invariant.proofs.Consistency.Marks as implied
use Rattle.segment_invariant.proofs.laws.kept_marks_are_taken.Goals as goal

pub returns : goal.returns
returns c = implied.marks_are_taken
