use Rattle.segment_promises.proofs.Tables.{tables_follow}
use Rattle.segment_promises.proofs.laws.tables_follow.Goals as goal

pub returns : goal.returns
returns c _ = tables_follow _
