use Rattle.segment_promises.proofs.Tables.{tables_offer}
use Rattle.segment_promises.proofs.laws.tables_offer.Goals as goal

pub returns : goal.returns
returns c _ = tables_offer _
