use Rattle.segment_promises.proofs.Tables.{tables_pour}
use Rattle.segment_promises.proofs.laws.tables_pour.Goals as goal

pub returns : goal.returns
returns c _ = tables_pour _
