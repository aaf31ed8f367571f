use Rattle.look_promises.proofs.Lives.Moments.{lives_tell_moments}
use Rattle.look_promises.proofs.laws.lives_tell_moments.Goals as goal

pub returns : goal.returns
returns c = lives_tell_moments
