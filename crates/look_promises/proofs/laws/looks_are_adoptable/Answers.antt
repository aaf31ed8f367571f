use Rattle.look_promises.proofs.Looked.Adopted.{looks_are_adoptable}
use Rattle.look_promises.proofs.laws.looks_are_adoptable.Goals as goal

pub returns : goal.returns
returns c = looks_are_adoptable
