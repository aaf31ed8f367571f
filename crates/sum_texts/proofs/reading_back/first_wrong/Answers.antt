use Rattle.std.proofs.Common.{arith}
use Rattle.sum_texts.proofs.Formed.{none-formed}
use Rattle.sum_texts.proofs.reading_back.first_wrong.Goals as goal

pub loop-wrong-init : goal.loop-wrong-init
loop-wrong-init c = (omega arith, omega arith, λ whole fits is not. (none-formed, not))
