use Rattle.segment_promises.proofs.Snapshots.{snapshots_see_accepted}
use Rattle.segment_promises.proofs.laws.snapshots_see_accepted.Goals as goal

pub returns : goal.returns
returns c = snapshots_see_accepted
