use Rattle.segment_promises.proofs.Tables.{tables_close}
use Rattle.segment_promises.proofs.laws.tables_close.Goals as goal

pub returns : goal.returns
returns c _ = tables_close _
