use Rattle.std.proofs.Common.{◌≡◌, map}
use Rattle.std.specs.List.{range_with_len}
use Rattle.bucket_ranges.specs.Reading.{mark_at}
use Rattle.image_reader.proofs.buckets.marks_of.Given as goal

-- the marks of the buckets so far
abbrev pub invariant-loop-bucket : goal.invariant-loop-bucket
invariant-loop-bucket l =
    l.marks.items
    ≡ map (mark_at l.words l.buckets.counts l.buckets.number l.buckets.single l.buckets.single_mark) (range_with_len 0 l.bucket)
