use Rattle.std.proofs.Common.{arith, sym, ◌∙◌}
use Rattle.std.proofs.lemmas.Bool.{or_right}
use Rattle.bucket_ranges.specs.Reading.{is_large_mark_at}
use Rattle.image_reader.proofs.Records.{any-at, none-more}
use Rattle.image_reader.proofs.buckets.is_bad_mark.Goals as goal

-- one that is too large is among the marks
pub returns-then-is_large_mark : goal.returns-then-is_large_mark
returns-then-is_large_mark c =
    sym (or_right _ _ (any-at
    (is_large_mark_at c.args.buckets.now.version c.args.words.now c.args.buckets.now.counts c.args.buckets.now.number c.args.buckets.now.single c.args.buckets.now.single_mark)
    c.args.buckets.now.number c.loop-bucket.bucket (omega arith) (sym c.is_large_mark.ensures ∙ c.if-is_large_mark.true)))

pub loop-bucket-preserved : goal.loop-bucket-preserved
loop-bucket-preserved c =
    none-more
    (is_large_mark_at c.args.buckets.now.version c.args.words.now c.args.buckets.now.counts c.args.buckets.now.number c.args.buckets.now.single c.args.buckets.now.single_mark)
    c.loop-bucket.bucket c.loop-bucket.invariant (sym c.is_large_mark.ensures ∙ c.if-is_large_mark.false)
