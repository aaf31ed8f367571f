use Rattle.std.proofs.Common.{◌≡◌, ℤ, ℕ, map}
use Rattle.live_segment.specs.Snapshot.Counts.{HasLookedAt}
use Rattle.live_segment.specs.Steps.{IsSame}
use Rattle.live_segment.proofs.segment.Segment.look_at_counts.Given as goal

abbrev pub invariant-loop-bucket : goal.invariant-loop-bucket
invariant-loop-bucket l = record {
  same : IsSame l.initial.seat l.seat;
  keys : map (λ (total : ℤ × ℕ). total.0) l.totals ≡ map (λ (total : ℤ × ℕ). total.0) l.initial.totals;
  has : HasLookedAt l.counts l.initial.seat.me.0 l.bucket l.totals l.seat.me.0;
}
