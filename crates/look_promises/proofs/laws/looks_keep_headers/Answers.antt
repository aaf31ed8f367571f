use Rattle.look_promises.proofs.Words.Starting.{looks_keep_headers}
use Rattle.look_promises.proofs.laws.looks_keep_headers.Goals as goal

pub returns : goal.returns
returns c = looks_keep_headers
