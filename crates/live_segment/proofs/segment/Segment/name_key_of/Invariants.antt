use Rattle.std.proofs.Common.{◌≡◌, ◌+◌, ◌<◌, ◌^◌, ℕ}
use Rattle.list_index.specs.Keys.{key_of}
use Rattle.live_segment.specs.Hist.ListSearch.{SeesWords}
use Rattle.live_segment.specs.List.Keys.{HasSeen, seen_word, seen_words}
use Rattle.live_segment.specs.Steps.{IsSame}
use Rattle.live_segment.proofs.segment.Segment.name_key_of.Given as goal

-- it has seen the first words of the name, and has the key of these
abbrev pub invariant-loop-i : goal.invariant-loop-i
invariant-loop-i l = record {
  same : IsSame l.initial.seat l.seat;
  sees : SeesWords l.initial.seat.me.0 l.seat.me.0;
  seen : (j : ℕ) → j < l.i → HasSeen l.seat.me.0.seen (l.at + 15 + j);
  small : (j : ℕ) → j < l.i → seen_word l.seat.me.0.seen (l.at + 15 + j) < 2 ^ 64;
  key : l.key ≡ key_of (seen_words l.seat.me.0.seen (l.at + 15) l.i);
}
