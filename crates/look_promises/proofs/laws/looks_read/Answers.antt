use Rattle.look_promises.proofs.Kept.Reads.{looks_read}
use Rattle.look_promises.proofs.laws.looks_read.Goals as goal

pub returns : goal.returns
returns c = looks_read
