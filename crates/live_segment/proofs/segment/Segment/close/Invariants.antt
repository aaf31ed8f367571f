use Rattle.std.proofs.Common.{◌≡◌, take, drop, vec_len}
use Rattle.std.specs.Slots.{slots_items}
use Rattle.live_segment.proofs.segment.Segment.close.Given as goal

abbrev pub invariant-loop-i : goal.invariant-loop-i
invariant-loop-i l = record {
  long : vec_len l.image ≡ vec_len l.initial.image;
  same : take l.i l.image.items ≡ take l.i (drop 1 (slots_items l.closed.words));
}
