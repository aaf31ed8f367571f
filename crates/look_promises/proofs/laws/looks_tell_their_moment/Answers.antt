use Rattle.look_promises.proofs.Kept.Certificate.{looks_tell_their_moment}
use Rattle.look_promises.proofs.laws.looks_tell_their_moment.Goals as goal

pub returns : goal.returns
returns c = looks_tell_their_moment
