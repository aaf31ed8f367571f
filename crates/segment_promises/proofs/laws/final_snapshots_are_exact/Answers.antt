use Rattle.segment_promises.proofs.Joined.{final_snapshots_are_exact}
use Rattle.segment_promises.proofs.laws.final_snapshots_are_exact.Goals as goal

pub returns : goal.returns
returns c = final_snapshots_are_exact
