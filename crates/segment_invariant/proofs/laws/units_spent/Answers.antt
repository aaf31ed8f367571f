use Rattle.std.proofs.Common.{arith}
use Rattle.segment_machine.specs.Examples.{letter_a}
use Rattle.segment_invariant.proofs.laws.units_spent.Goals as goal

pub returns : goal.returns
returns c calls = let spent = calls.spent letter_a in omega (arith, spent)
