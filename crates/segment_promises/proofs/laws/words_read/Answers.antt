use Rattle.segment_promises.proofs.Readings.Blocks.{words_read}
use Rattle.segment_promises.proofs.laws.words_read.Goals as goal

pub returns : goal.returns
returns c = words_read
