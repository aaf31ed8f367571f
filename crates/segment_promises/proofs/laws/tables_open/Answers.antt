use Rattle.segment_promises.proofs.Tables.{tables_open}
use Rattle.segment_promises.proofs.laws.tables_open.Goals as goal

pub returns : goal.returns
returns c _ = tables_open _
