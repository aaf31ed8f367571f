use Rattle.std.proofs.Common.{arith, sym, ◌≤◌, ◌<◌}
use Rattle.bucket_ranges.specs.Reading.{total_at}
use Rattle.image_reader.proofs.Records.{has_large-at, has_large-more}
use Rattle.image_reader.proofs.buckets.has_large.Goals as goal

-- one that is too large is among the totals
pub returns-then-total-gt-MAX_UNITS : goal.returns-then-total-gt-MAX_UNITS
returns-then-total-gt-MAX_UNITS c =
    let large : 4294967295 < total_at c.args.words.now c.args.buckets.now.counts c.args.buckets.now.single c.loop-bucket.bucket = omega (arith, c.total.ensures) in
    sym (has_large-at (total_at c.args.words.now c.args.buckets.now.counts c.args.buckets.now.single) c.args.buckets.now.number
    c.loop-bucket.bucket (omega arith) large)

pub loop-bucket-preserved : goal.loop-bucket-preserved
loop-bucket-preserved c =
    let small : total_at c.args.words.now c.args.buckets.now.counts c.args.buckets.now.single c.loop-bucket.bucket ≤ 4294967295 = omega (arith, c.total.ensures) in
    has_large-more (total_at c.args.words.now c.args.buckets.now.counts c.args.buckets.now.single) c.loop-bucket.bucket
    c.loop-bucket.invariant small
