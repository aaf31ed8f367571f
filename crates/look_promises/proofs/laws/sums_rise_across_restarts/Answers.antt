use Rattle.look_promises.proofs.Lives.Sums.{sums_rise_across_restarts}
use Rattle.look_promises.proofs.laws.sums_rise_across_restarts.Goals as goal

pub returns : goal.returns
returns c = sums_rise_across_restarts
