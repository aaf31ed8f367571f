use Rattle.segment_promises.proofs.Tables.{tables_announce}
use Rattle.segment_promises.proofs.laws.tables_announce.Goals as goal

pub returns : goal.returns
returns c _ = tables_announce _
