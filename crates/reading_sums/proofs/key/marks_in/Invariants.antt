use Rattle.std.proofs.Common.{◌≡◌, take}
use Rattle.reading_sums.specs.Shown.{marks_of}
use Rattle.reading_sums.proofs.key.marks_in.Given as goal

-- those so far
abbrev pub invariant-loop-key : goal.invariant-loop-key
invariant-loop-key l = l.marks.items ≡ marks_of (take l.key-index l.keys)
