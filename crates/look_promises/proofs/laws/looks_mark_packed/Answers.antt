use Rattle.look_promises.proofs.Amounts.Unpacked.{looks_mark_packed}
use Rattle.look_promises.proofs.laws.looks_mark_packed.Goals as goal

pub returns : goal.returns
returns c = looks_mark_packed
