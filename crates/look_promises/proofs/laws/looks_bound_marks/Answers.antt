use Rattle.look_promises.proofs.Amounts.Marks.{looks_bound_marks}
use Rattle.look_promises.proofs.laws.looks_bound_marks.Goals as goal

pub returns : goal.returns
returns c = looks_bound_marks
