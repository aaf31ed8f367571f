use Rattle.std.proofs.Common.{◌≡◌, ◌≤◌, length, drop}
use Rattle.segment_looks.specs.Patches.{IsPatched}
use Rattle.segment_looks.specs.Looks.{list_start, records_patches}
use Rattle.segment_looks.proofs.composing.put_records.Given as goal

-- The records from index `left` on are put on the words, and `next` is the first of them.
abbrev pub invariant-loop-left : goal.invariant-loop-left
invariant-loop-left l = record {
  within : l.left ≤ length l.records;
  next : l.next ≡ list_start (drop l.left l.records);
  patched : IsPatched (records_patches l.head l.one l.two l.three (drop l.left l.records)) l.initial.words l.words;
}

abbrev pub decreases-loop-left : goal.decreases-loop-left
decreases-loop-left l = l.left
