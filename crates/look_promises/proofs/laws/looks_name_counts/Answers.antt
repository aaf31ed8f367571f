use Rattle.look_promises.proofs.Copies.References.{looks_name_counts}
use Rattle.look_promises.proofs.laws.looks_name_counts.Goals as goal

pub returns : goal.returns
returns c = looks_name_counts
