use Rattle.bucket_ranges.proofs.Buckets.{one_bucket}
use Rattle.bucket_ranges.proofs.ranges.one_bucket_has_a_value.Goals as goal

pub returns : goal.returns
returns c boundaries value i j up p q = one_bucket boundaries value i j up p q
