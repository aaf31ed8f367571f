use Rattle.std.proofs.Common.{refl}
use Rattle.segment_machine.proofs.laws.corrupt_stays.Goals as goal

pub returns : goal.returns
returns c = (refl, refl, refl, refl, refl)
