use Rattle.std.proofs.Common.{◌≤◌, vec_capacity}
use Rattle.bucket_ranges.specs.Spec.{buckets_of}
use Rattle.live_segment.specs.Known.{known_view}
use Rattle.live_segment.proofs.lemmas.Delta.AllBuckets.{HasDrawn}
use Rattle.live_segment.proofs.segment.Segment.take_buckets.Given as goal

-- what was taken of the first buckets is listed, and there is room for the others
abbrev pub invariant-loop-bucket : goal.invariant-loop-bucket
invariant-loop-bucket l = record {
  drawn : HasDrawn l.self (known_view l.histogram) l.mounted l.initial.seat l.seat l.bucket l.taken.items;
  room : buckets_of l.histogram.spec ≤ vec_capacity l.taken;
}
