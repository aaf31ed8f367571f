use Rattle.look_promises.proofs.Copies.Units.{counts_start_at_zero}
use Rattle.look_promises.proofs.laws.counts_start_at_zero.Goals as goal

pub returns : goal.returns
returns c = counts_start_at_zero
