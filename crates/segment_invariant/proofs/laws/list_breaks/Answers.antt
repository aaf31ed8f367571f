use Rattle.std.proofs.Common.{arith}
use Rattle.segment_invariant.proofs.laws.list_breaks.Goals as goal

pub returns : goal.returns
returns c chain list = let e = list.zeros 50 (omega arith) (omega arith) in absurd (omega (arith, e))
