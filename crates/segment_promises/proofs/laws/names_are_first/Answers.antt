use Rattle.segment_promises.proofs.Names.{names_are_first}
use Rattle.segment_promises.proofs.laws.names_are_first.Goals as goal

pub returns : goal.returns
returns c = names_are_first
