use Rattle.bucket_ranges.proofs.FirstSamples.{first_samples-ascend, first_samples-first}
use Rattle.bucket_ranges.proofs.reading.first_samples_are_first.Goals as goal

pub returns : goal.returns
returns c = record { ascending = first_samples-ascend; first = first_samples-first }
