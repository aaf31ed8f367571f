use Rattle.look_promises.proofs.Copies.Units.{looks_count_units}
use Rattle.look_promises.proofs.laws.looks_count_units.Goals as goal

pub returns : goal.returns
returns c = looks_count_units
