use Rattle.look_promises.proofs.Amounts.Values.{looks_count_values}
use Rattle.look_promises.proofs.laws.looks_count_values.Goals as goal

pub returns : goal.returns
returns c = looks_count_values
