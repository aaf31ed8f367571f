use Rattle.segment_promises.proofs.Parts.{parts_add_up}
use Rattle.segment_promises.proofs.laws.parts_add_up.Goals as goal

pub returns : goal.returns
returns c = parts_add_up
