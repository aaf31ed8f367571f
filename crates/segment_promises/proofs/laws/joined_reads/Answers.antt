use Rattle.segment_promises.proofs.Readings.Joined.{joined_reads}
use Rattle.segment_promises.proofs.laws.joined_reads.Goals as goal

pub returns : goal.returns
returns c = joined_reads
