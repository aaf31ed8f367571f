use Rattle.segment_promises.proofs.Tables.{tables_join}
use Rattle.segment_promises.proofs.laws.tables_join.Goals as goal

pub returns : goal.returns
returns c _ = tables_join _
