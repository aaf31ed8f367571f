use Rattle.look_promises.proofs.Words.Cleared.{looks_end_in_zeros}
use Rattle.look_promises.proofs.laws.looks_end_in_zeros.Goals as goal

pub returns : goal.returns
returns c = looks_end_in_zeros
