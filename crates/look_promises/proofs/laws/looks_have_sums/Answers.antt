use Rattle.look_promises.proofs.Amounts.Sums.{looks_have_sums}
use Rattle.look_promises.proofs.laws.looks_have_sums.Goals as goal

pub returns : goal.returns
returns c = looks_have_sums
