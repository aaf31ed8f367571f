use Rattle.look_promises.proofs.Kept.Then.{readings_tell_their_moment}
use Rattle.look_promises.proofs.laws.readings_tell_their_moment.Goals as goal

pub returns : goal.returns
returns c = readings_tell_their_moment
