use Rattle.look_promises.proofs.Kept.Then.{readings_note_no_more}
use Rattle.look_promises.proofs.laws.readings_note_no_more.Goals as goal

pub returns : goal.returns
returns c = readings_note_no_more
