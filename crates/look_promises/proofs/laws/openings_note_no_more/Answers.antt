use Rattle.look_promises.proofs.Kept.Openings.{openings_note_no_more}
use Rattle.look_promises.proofs.laws.openings_note_no_more.Goals as goal

pub returns : goal.returns
returns c = openings_note_no_more
