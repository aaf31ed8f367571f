use Rattle.look_promises.proofs.Kept.Means.{readings_tell_their_means}
use Rattle.look_promises.proofs.laws.readings_tell_their_means.Goals as goal

pub returns : goal.returns
returns c = readings_tell_their_means
