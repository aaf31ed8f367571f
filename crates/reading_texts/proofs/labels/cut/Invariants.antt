use Rattle.std.proofs.Common.{◌≡◌, ◌<◌, ℕ, false, eqb, get_or}
use Rattle.reading_texts.proofs.labels.cut.Given as goal

abbrev pub invariant-loop-i : goal.invariant-loop-i
invariant-loop-i l = (k : ℕ) → k < l.i → eqb (get_or l.bytes k 0) l.at ≡ false
