use Rattle.look_promises.proofs.Looked.Rises.{readings_rise}
use Rattle.look_promises.proofs.laws.readings_rise.Goals as goal

pub returns : goal.returns
returns c = readings_rise
