use Rattle.std.proofs.Common.{◌-◌}
use Rattle.segment_machine.specs.Calls.{MayTurn}
use Rattle.live_segment.specs.List.Index.{IsIndexed}
use Rattle.live_segment.specs.Seated.{IsSeated}
use Rattle.live_segment.specs.Hist.Search.{HasSearched}
use Rattle.live_segment.specs.Steps.{IsSame}
use Rattle.segment_promises.proofs.Furthest.{last_of}
use Rattle.live_segment.proofs.segment.Segment.look_on.Given as goal

abbrev pub invariant-loop-kind : goal.invariant-loop-kind
invariant-loop-kind l = record {
  seated : IsSeated l.self l.seat;
  same : IsSame l.initial.seat l.seat;
  searched : HasSearched l.initial.seat.me.0 l.seat.me.0;
  free : MayTurn l.seat.me.0;
  indexed : IsIndexed l.initial.index.kind l.self.setting.shape.size l.seat.me.0.seen l.index;
}

abbrev pub decreases-loop-kind : goal.decreases-loop-kind
decreases-loop-kind l = l.self.setting.shape.size - last_of l.seat.me.0.seen.chain l.index.place.at
