use Rattle.look_promises.proofs.Lives.Beyond.{readings_rise_across_restarts}
use Rattle.look_promises.proofs.laws.readings_rise_across_restarts.Goals as goal

pub returns : goal.returns
returns c = readings_rise_across_restarts
