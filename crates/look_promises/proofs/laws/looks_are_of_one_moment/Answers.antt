use Rattle.look_promises.proofs.Amounts.OneMoment.{looks_are_of_one_moment}
use Rattle.look_promises.proofs.laws.looks_are_of_one_moment.Goals as goal

pub returns : goal.returns
returns c = looks_are_of_one_moment
