use Rattle.std.proofs.Common.{◌≡◌, ◌∷◌, get_or}
use Rattle.reading_sums.proofs.Neighbours.{RiseAbove}
use Rattle.reading_sums.proofs.check.ascend_above_zero.Given as goal

-- those before it ascend, and the last of them is kept
abbrev pub invariant-loop-i : goal.invariant-loop-i
invariant-loop-i l = RiseAbove l.values l.i × (l.last ≡ get_or (0 ∷ l.values) l.i 0)
