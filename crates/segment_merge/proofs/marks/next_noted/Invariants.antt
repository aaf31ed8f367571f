use Rattle.std.proofs.Common.{◌≡◌, ℤ, drop}
use Rattle.segment_machine.specs.Actor.{units_listed}
use Rattle.segment_merge.proofs.marks.next_noted.Given as goal

-- no units are noted before
abbrev pub invariant-loop-i : goal.invariant-loop-i
invariant-loop-i l = (key : ℤ) → units_listed (drop l.i l.noted) key ≡ units_listed (drop l.from l.noted) key
