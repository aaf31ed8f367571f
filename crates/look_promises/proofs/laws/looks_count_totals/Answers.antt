use Rattle.look_promises.proofs.Amounts.Totals.{looks_count_totals}
use Rattle.look_promises.proofs.laws.looks_count_totals.Goals as goal

pub returns : goal.returns
returns c = looks_count_totals
