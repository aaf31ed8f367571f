use Rattle.std.proofs.Common.{refl}
use Rattle.segment_machine.proofs.laws.first_entries_apart.Goals as goal

pub returns : goal.returns
returns c = (refl, refl)
