use Rattle.look_promises.proofs.Kept.Sums.{readings_say_their_sums}
use Rattle.look_promises.proofs.laws.readings_say_their_sums.Goals as goal

pub returns : goal.returns
returns c = readings_say_their_sums
