use Rattle.std.proofs.Common.{◌≡◌, ◌≤◌, length, vec_capacity}
use Rattle.segment_merge.proofs.Items.{items_before}
use Rattle.segment_merge.proofs.remainder.remainder_of.Given as goal

-- what is left of the keys so far, and room for all
abbrev pub invariant-loop-i : goal.invariant-loop-i
invariant-loop-i l = record {
  items : l.items.items ≡ items_before l.histogram.counts.items l.histogram.marks.items l.i;
  few : length l.items.items ≤ l.i;
  room : length l.histogram.counts.items ≤ vec_capacity l.items;
}
