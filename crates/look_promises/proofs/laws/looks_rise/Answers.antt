use Rattle.look_promises.proofs.Amounts.Rising.{looks_rise}
use Rattle.look_promises.proofs.laws.looks_rise.Goals as goal

pub returns : goal.returns
returns c = looks_rise
