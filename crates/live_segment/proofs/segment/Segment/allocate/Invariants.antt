use Rattle.std.proofs.Common.{◌≡◌, ◌-◌, ◌≤◌, false}
use Rattle.segment_machine.specs.Actor.{is_bound}
use Rattle.live_segment.specs.Steps.{IsSame}
use Rattle.live_segment.specs.Alloc.Allocation.{saw_free}
use Rattle.live_segment.specs.Alloc.Rises.{WastesFor}
use Rattle.live_segment.proofs.segment.Segment.allocate.Given as goal

abbrev pub invariant-loop-size : goal.invariant-loop-size
invariant-loop-size l = record {
  same : IsSame l.initial.seat l.seat;
  view : l.seat.me.0 ≡ saw_free l.initial.seat.me.0 l.seat.me.0.hand.place l.seat.me.0.seen.free l.seat.me.0.done.raised;
  wastes : WastesFor l.initial.seat.me.0.segment.shape l.size l.initial.seat.me.0.done.raised l.seat.me.0.done.raised;
  behind : l.initial.seat.me.0.seen.free ≤ l.seat.me.0.seen.free;
  free : is_bound l.seat.me.0.hand.place ≡ false;
}

abbrev pub decreases-loop-size : goal.decreases-loop-size
decreases-loop-size l = l.self.setting.shape.size - l.seat.me.0.seen.free
