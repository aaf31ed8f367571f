use Rattle.std.proofs.Common.{refl}
use Rattle.segment_machine.proofs.laws.tails_stay.Goals as goal

pub returns : goal.returns
returns c = (refl, refl)
