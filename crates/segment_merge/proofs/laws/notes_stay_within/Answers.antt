use Rattle.segment_merge.proofs.Within.{stays_within}
use Rattle.segment_merge.proofs.laws.notes_stay_within.Goals as goal

pub returns : goal.returns
returns c = stays_within
