use Rattle.look_promises.proofs.Lives.Beyond.{readings_rise_to_the_stop}
use Rattle.look_promises.proofs.laws.readings_rise_to_the_stop.Goals as goal

pub returns : goal.returns
returns c = readings_rise_to_the_stop
