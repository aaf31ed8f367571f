use Rattle.segment_promises.proofs.Tables.{tables_split}
use Rattle.segment_promises.proofs.laws.tables_split.Goals as goal

pub returns : goal.returns
returns c _ = tables_split _
