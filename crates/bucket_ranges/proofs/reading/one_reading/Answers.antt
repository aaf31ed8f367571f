use Rattle.bucket_ranges.proofs.Walks.{readings_agree}
use Rattle.bucket_ranges.proofs.reading.one_reading.Goals as goal

pub returns : goal.returns
returns c = readings_agree
