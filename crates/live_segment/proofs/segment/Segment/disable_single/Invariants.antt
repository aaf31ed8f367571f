use Rattle.std.proofs.Common.{◌-◌, ◌+◌}
use Rattle.bucket_ranges.specs.Spec.{buckets_of}
use Rattle.live_segment.specs.Known.{known_view}
use Rattle.segment_promises.proofs.Ranks.{last_rank}
use Rattle.live_segment.proofs.lemmas.Add.Disabled.{IsDisabling}
use Rattle.live_segment.proofs.segment.Segment.disable_single.Given as goal

abbrev pub invariant-loop-counts : goal.invariant-loop-counts
invariant-loop-counts l = IsDisabling l.self (known_view l.histogram) l.counts l.initial.seat l.seat

-- the rank of the single word that was seen last
abbrev pub decreases-loop-counts : goal.decreases-loop-counts
decreases-loop-counts l =
    65536 - last_rank l.self.setting.version (buckets_of l.histogram.spec) (l.histogram.reference + 9) l.seat.me.0.seen.singles
