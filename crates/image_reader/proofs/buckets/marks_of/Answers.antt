use Rattle.image_reader.proofs.Records.{map-range-push}
use Rattle.image_reader.proofs.buckets.marks_of.Goals as goal

pub loop-bucket-preserved : goal.loop-bucket-preserved
loop-bucket-preserved c =
    map-range-push _ c.loop-bucket.bucket _ _ _ c.loop-bucket.invariant c.in_ok-push.ensures.items c.mark.ensures
