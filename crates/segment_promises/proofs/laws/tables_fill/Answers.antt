use Rattle.segment_promises.proofs.Tables.{tables_fill}
use Rattle.segment_promises.proofs.laws.tables_fill.Goals as goal

pub returns : goal.returns
returns c _ = tables_fill _
