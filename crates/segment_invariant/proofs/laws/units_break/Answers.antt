use Rattle.std.proofs.Common.{arith}
use Rattle.segment_invariant.proofs.laws.units_break.Goals as goal

pub returns : goal.returns
returns c units = let e = units.pool in absurd (omega (arith, e))
