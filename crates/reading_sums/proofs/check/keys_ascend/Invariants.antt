use Rattle.reading_sums.specs.Orders.{key_cmp}
use Rattle.reading_sums.proofs.Neighbours.{RiseUpTo}
use Rattle.reading_sums.proofs.check.keys_ascend.Given as goal

-- those before it ascend
abbrev pub invariant-loop-i : goal.invariant-loop-i
invariant-loop-i l = RiseUpTo key_cmp l.keys l.i
