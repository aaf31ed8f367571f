use Rattle.std.proofs.Common.{◌≤◌, length, take, vec_capacity}
use Rattle.live_segment.specs.Known.{known_view}
use Rattle.live_segment.specs.List.IndexedValues.{ListsIndexed}
use Rattle.live_segment.specs.List.Values.SampleCall.{OfDelta}
use Rattle.live_segment.proofs.segment.Segment.take_listed.Given as goal

-- it has taken of the samples so far, and there is room for all
abbrev pub invariant-loop-at : goal.invariant-loop-at
invariant-loop-at l = record {
  lists : ListsIndexed OfDelta l.self (known_view l.histogram) (take l.at-index l.samples) l.taken.items l.fn.seat l.seat;
  room : length l.samples ≤ vec_capacity l.taken;
}
