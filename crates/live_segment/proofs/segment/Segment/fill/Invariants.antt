use Rattle.live_segment.specs.Steps.{IsSame}
use Rattle.live_segment.proofs.lemmas.List.Filled.{IsFilledTo}
use Rattle.live_segment.proofs.segment.Segment.fill.Given as goal

abbrev pub invariant-loop-i : goal.invariant-loop-i
invariant-loop-i l = record {
  same : IsSame l.initial.seat l.seat;
  filled : IsFilledTo l.at l.payload l.initial.seat.me.0 l.seat.me.0 l.i;
}
