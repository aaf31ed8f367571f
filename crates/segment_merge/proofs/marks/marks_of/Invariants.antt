use Rattle.std.proofs.Common.{◌≡◌, ℤ, ◌+◌, ◌<◌, ◌≤◌, length, drop, take, vec_capacity}
use Rattle.std.specs.List.{All, zip}
use Rattle.segment_machine.specs.Actor.{units_listed}
use Rattle.segment_merge.specs.Marks.{AreAscending, ReachesItsMark, count_at, key_marks}
use Rattle.segment_merge.proofs.FewerUnits.{IsBelow}
use Rattle.segment_merge.proofs.marks.marks_of.Given as goal

-- the first keys have their marks, and the others are noted from the next place on
abbrev pub invariant-loop-count : goal.invariant-loop-count
invariant-loop-count l = record {
  many : length l.marks.items ≡ l.count-index;
  room : length l.counts ≤ vec_capacity l.marks;
  within : l.next ≤ length l.noted;
  some : l.next < length l.noted → 0 < (count_at l.noted l.next).1;
  units : (key : ℤ) → units_listed (key_marks (take l.count-index l.counts) l.marks.items) key + units_listed (drop l.next l.noted) key ≡ units_listed l.noted key;
  risen : All ReachesItsMark (zip (take l.count-index l.counts) l.marks.items);
  below : AreAscending l.noted → l.next < length l.noted → IsBelow l.noted l.counts l.count-index l.next;
}
