use Rattle.std.proofs.Common.{refl}
use Rattle.segment_machine.proofs.laws.swaps_add.Goals as goal

pub returns : goal.returns
returns c = refl
