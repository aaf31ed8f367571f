use Rattle.look_promises.proofs.Copies.Following.{looks_follow}
use Rattle.look_promises.proofs.laws.looks_follow.Goals as goal

pub returns : goal.returns
returns c = looks_follow
