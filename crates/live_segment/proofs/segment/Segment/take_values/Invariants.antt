use Rattle.std.proofs.Common.{◌-◌, ◌/◌, ◌≤◌, ℕ, List, vec_capacity}
use Rattle.live_segment.specs.Known.{known_view}
use Rattle.live_segment.specs.List.Values.{ListsAlong}
use Rattle.live_segment.specs.List.Values.SampleCall.{OfDelta}
use Rattle.segment_promises.proofs.ValueWalks.{left_of}
use Rattle.live_segment.proofs.segment.Segment.take_values.Given as goal

-- it has taken of the samples among the records that it passed, and there is room for as many values as fit in a segment
abbrev pub invariant-loop-at : goal.invariant-loop-at
invariant-loop-at l = record {
  lists : (passed : List ℕ) × ListsAlong OfDelta l.self (known_view l.histogram) passed l.at l.taken.items l.fn.seat l.seat;
  room : (l.self.setting.shape.size - 16) / 5 ≤ vec_capacity l.taken;
}

abbrev pub decreases-loop-at : goal.decreases-loop-at
decreases-loop-at l = left_of l.self.setting.shape.size l.seat.me.0.seen.chain l.at
