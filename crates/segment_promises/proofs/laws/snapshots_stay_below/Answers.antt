use Rattle.segment_promises.proofs.Joined.{snapshots_stay_below}
use Rattle.segment_promises.proofs.laws.snapshots_stay_below.Goals as goal

pub returns : goal.returns
returns c = snapshots_stay_below
