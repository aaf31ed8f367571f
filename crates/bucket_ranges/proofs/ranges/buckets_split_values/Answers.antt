use Rattle.bucket_ranges.proofs.Ascent.{boundaries_of-split}
use Rattle.bucket_ranges.proofs.ranges.buckets_split_values.Goals as goal

pub returns : goal.returns
returns c = boundaries_of-split
