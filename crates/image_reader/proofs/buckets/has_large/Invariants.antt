use Rattle.std.proofs.Common.{◌≡◌, map, false}
use Rattle.std.specs.List.{range_with_len}
use Rattle.bucket_ranges.specs.Reading.{total_at, has_large}
use Rattle.image_reader.proofs.buckets.has_large.Given as goal

-- no total so far is too large
abbrev pub invariant-loop-bucket : goal.invariant-loop-bucket
invariant-loop-bucket l =
    has_large (map (total_at l.words l.buckets.counts l.buckets.single) (range_with_len 0 l.bucket)) ≡ false
