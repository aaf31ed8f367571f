use Rattle.std.proofs.Common.{ℕ, List, ap, arith}
use Rattle.std.specs.Prelude.{slice_index}
use Rattle.segment_machine.proofs.laws.records_alone.Goals as goal

pub returns : goal.returns
returns c (letters, are, is) = let counts = ap (λ (list : List ℕ). slice_index list 4) is in omega (arith, counts)
