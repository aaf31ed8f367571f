use Rattle.std.proofs.Common.{◌≡◌, ℤ, take}
use Rattle.reading_sums.specs.Keys.{units_at, marks_at}
use Rattle.reading_sums.proofs.since.are_empty.Given as goal

-- those so far have no units and no marks
abbrev pub invariant-loop-key : goal.invariant-loop-key
invariant-loop-key l = (value : ℤ) → (units_at (take l.key-index l.keys) value ≡ 0) × (marks_at (take l.key-index l.keys) value ≡ 0)
