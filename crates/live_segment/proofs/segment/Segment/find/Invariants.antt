use Rattle.std.proofs.Common.{◌-◌}
use Rattle.live_segment.specs.Seated.{IsSeated}
use Rattle.live_segment.specs.Hist.Search.{HasSearched, SearchesAt}
use Rattle.live_segment.specs.Steps.{IsSame}
use Rattle.segment_promises.proofs.Furthest.{last_of}
use Rattle.live_segment.proofs.segment.Segment.find.Given as goal

abbrev pub invariant-loop-from : goal.invariant-loop-from
invariant-loop-from l = record {
  seated : IsSeated l.self l.seat;
  same : IsSame l.initial.seat l.seat;
  searched : HasSearched l.initial.seat.me.0 l.seat.me.0;
  walks : SearchesAt l.asked.name.items l.at l.seat.me.0;
}

abbrev pub decreases-loop-from : goal.decreases-loop-from
decreases-loop-from l = l.self.setting.shape.size - last_of l.seat.me.0.seen.chain l.at
