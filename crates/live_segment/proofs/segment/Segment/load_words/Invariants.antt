use Rattle.std.proofs.Common.{◌≡◌, ◌+◌, ◌<◌, ◌≤◌, ℕ, length, slice_index, vec_capacity}
use Rattle.std.specs.Prelude.{Some}
use Rattle.segment_machine.specs.Actor.{word_seen}
use Rattle.live_segment.specs.Hist.ListSearch.{SeesWords}
use Rattle.live_segment.specs.Steps.{IsSame}
use Rattle.live_segment.proofs.segment.Segment.load_words.Given as goal

-- it has seen the words that it has so far, and there is room for the others
abbrev pub invariant-loop-i : goal.invariant-loop-i
invariant-loop-i l = record {
  same : IsSame l.fn.seat l.seat;
  sees : SeesWords l.fn.seat.me.0 l.seat.me.0;
  long : length l.words.items ≡ l.i;
  shown : (j : ℕ) → j < l.i → word_seen l.seat.me.0.seen.words (l.at + l.first + j) ≡ Some (slice_index l.words.items j);
  room : l.count ≤ vec_capacity l.words;
}
