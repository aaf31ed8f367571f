use Rattle.segment_promises.proofs.Counts.{tallies_are_counts}
use Rattle.segment_promises.proofs.laws.tallies_are_counts.Goals as goal

pub returns : goal.returns
returns c = tallies_are_counts
