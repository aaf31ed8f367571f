use Rattle.std.proofs.Common.{◌-◌, ◌+◌}
use Rattle.bucket_ranges.specs.Spec.{buckets_of}
use Rattle.live_segment.specs.Known.{known_view}
use Rattle.segment_promises.proofs.Ranks.{last_rank}
use Rattle.live_segment.proofs.lemmas.Add.Attempts.{IsPackingOn}
use Rattle.live_segment.proofs.segment.Segment.pack_units.Given as goal

abbrev pub invariant-loop-bucket : goal.invariant-loop-bucket
invariant-loop-bucket l = IsPackingOn l.self (known_view l.histogram) l.bucket l.units l.initial.seat l.seat

-- the rank of the single word that was seen last
abbrev pub decreases-loop-bucket : goal.decreases-loop-bucket
decreases-loop-bucket l =
    65536 - last_rank l.self.setting.version (buckets_of l.histogram.spec) (l.histogram.reference + 9) l.seat.me.0.seen.singles
