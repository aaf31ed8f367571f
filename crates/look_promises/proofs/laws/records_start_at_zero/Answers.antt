use Rattle.look_promises.proofs.NewRecords.Starts.{records_start_at_zero}
use Rattle.look_promises.proofs.laws.records_start_at_zero.Goals as goal

pub returns : goal.returns
returns c = records_start_at_zero
