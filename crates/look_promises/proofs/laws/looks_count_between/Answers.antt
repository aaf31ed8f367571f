use Rattle.look_promises.proofs.Copies.Between.{looks_count_between}
use Rattle.look_promises.proofs.laws.looks_count_between.Goals as goal

pub returns : goal.returns
returns c = looks_count_between
