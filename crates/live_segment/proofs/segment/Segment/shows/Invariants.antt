use Rattle.std.proofs.Common.{◌≡◌, ℕ, ◌+◌, ◌<◌, slice_index}
use Rattle.std.specs.Prelude.{Some}
use Rattle.segment_machine.specs.Actor.{word_seen}
use Rattle.live_segment.specs.Hist.ListSearch.{SeesWords}
use Rattle.live_segment.specs.Steps.{IsSame}
use Rattle.live_segment.proofs.segment.Segment.shows.Given as goal

abbrev pub invariant-loop-i : goal.invariant-loop-i
invariant-loop-i l = record {
  same : IsSame l.initial.seat l.seat;
  sees : SeesWords l.initial.seat.me.0 l.seat.me.0;
  shown : (j : ℕ) → j < l.i → word_seen l.seat.me.0.seen.words (l.at + l.first + j) ≡ Some (slice_index l.words j);
}
