use Rattle.std.proofs.Common.{◌≡◌, ◌++◌, drop, take}
use Rattle.segment_merge.specs.Cut.{kept}
use Rattle.segment_merge.specs.Remainder.{marked}
use Rattle.segment_merge.proofs.noting.cut_back.Given as goal

-- the first keys are as they shall be, and the others as they were
abbrev pub invariant-loop-i : goal.invariant-loop-i
invariant-loop-i l = record {
  front : take l.i l.counts ++ kept l.left (drop l.i (marked l.fn.counts l.marks)) ≡ kept l.items (marked l.fn.counts l.marks);
  rest : drop l.i l.counts ≡ drop l.i l.fn.counts;
}
