use Rattle.look_promises.proofs.Amounts.Calls.{looks_count_calls}
use Rattle.look_promises.proofs.laws.looks_count_calls.Goals as goal

pub returns : goal.returns
returns c = looks_count_calls
