use Rattle.std.proofs.Common.{◌≡◌, false}
use Rattle.std.specs.List.{range_with_len, list_any}
use Rattle.bucket_ranges.specs.Reading.{is_large_mark_at}
use Rattle.image_reader.proofs.buckets.is_bad_mark.Given as goal

-- no mark so far is too large
abbrev pub invariant-loop-bucket : goal.invariant-loop-bucket
invariant-loop-bucket l =
    list_any (is_large_mark_at l.buckets.version l.words l.buckets.counts l.buckets.number l.buckets.single l.buckets.single_mark)
    (range_with_len 0 l.bucket) ≡ false
