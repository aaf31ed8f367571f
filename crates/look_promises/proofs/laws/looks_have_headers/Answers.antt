use Rattle.look_promises.proofs.Copies.Headers.{looks_have_headers}
use Rattle.look_promises.proofs.laws.looks_have_headers.Goals as goal

pub returns : goal.returns
returns c = looks_have_headers
