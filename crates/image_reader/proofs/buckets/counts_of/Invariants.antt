use Rattle.std.proofs.Common.{◌≡◌, map}
use Rattle.std.specs.Prelude.{pos, slice_index}
use Rattle.std.specs.List.{range_with_len}
use Rattle.bucket_ranges.specs.Reading.{total_at}
use Rattle.image_reader.proofs.buckets.counts_of.Given as goal

-- the totals of the buckets so far
abbrev pub invariant-loop-bucket : goal.invariant-loop-bucket
invariant-loop-bucket l =
    l.counts.items
    ≡ map (λ i. (pos (slice_index l.ranges i), total_at l.words l.buckets.counts l.buckets.single i)) (range_with_len 0 l.bucket)
