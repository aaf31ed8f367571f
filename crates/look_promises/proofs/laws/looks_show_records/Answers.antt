use Rattle.look_promises.proofs.Words.Images.{looks_show_records}
use Rattle.look_promises.proofs.laws.looks_show_records.Goals as goal

pub returns : goal.returns
returns c = looks_show_records
