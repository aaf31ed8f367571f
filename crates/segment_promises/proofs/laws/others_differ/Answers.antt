use Rattle.segment_promises.proofs.Names.{others_differ}
use Rattle.segment_promises.proofs.laws.others_differ.Goals as goal

pub returns : goal.returns
returns c = others_differ
