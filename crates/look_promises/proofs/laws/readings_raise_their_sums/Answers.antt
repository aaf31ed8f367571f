use Rattle.look_promises.proofs.Kept.SumsRise.{readings_raise_their_sums}
use Rattle.look_promises.proofs.laws.readings_raise_their_sums.Goals as goal

pub returns : goal.returns
returns c = readings_raise_their_sums
