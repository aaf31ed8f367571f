use Rattle.look_promises.proofs.Amounts.Samples.{looks_bound_samples}
use Rattle.look_promises.proofs.laws.looks_bound_samples.Goals as goal

pub returns : goal.returns
returns c = looks_bound_samples
