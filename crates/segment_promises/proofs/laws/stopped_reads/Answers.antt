use Rattle.segment_promises.proofs.Readings.Stopped.{stopped_reads}
use Rattle.segment_promises.proofs.laws.stopped_reads.Goals as goal

pub returns : goal.returns
returns c = stopped_reads
