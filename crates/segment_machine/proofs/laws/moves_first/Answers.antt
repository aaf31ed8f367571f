use Rattle.std.proofs.Common.{⊎_elim, true≢false}
use Rattle.segment_machine.proofs.laws.moves_first.Goals as goal

pub returns : goal.returns
returns c (counted, known, first, named, units, either) = ⊎_elim (λ t. cc t.2.0) (λ t. true≢false t.1) either
