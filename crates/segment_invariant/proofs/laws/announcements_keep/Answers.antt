use Rattle.segment_invariant.proofs.Notes.Announcements.{announcements_keep}
use Rattle.segment_invariant.proofs.laws.announcements_keep.Goals as goal

pub returns : goal.returns
returns c = announcements_keep
