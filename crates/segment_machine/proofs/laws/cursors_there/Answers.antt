use Rattle.std.proofs.Common.{refl, arith}
use Rattle.segment_machine.proofs.laws.cursors_there.Goals as goal

pub returns : goal.returns
returns c = ((refl, omega arith), λ may. let below = may.1 in omega (arith, below))
