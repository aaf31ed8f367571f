use Rattle.std.proofs.Common.{⊎_elim, arith}
use Rattle.segment_machine.proofs.laws.words_since.Goals as goal

pub returns : goal.returns
returns c (least, takes, either) = ⊎_elim (λ t. let below = t.4.1 in omega (arith, below)) (λ t. cc t.4) either
