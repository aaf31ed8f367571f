use Rattle.reading_sums.specs.Orders.{hist_cmp}
use Rattle.reading_sums.proofs.Neighbours.{RiseUpTo}
use Rattle.reading_sums.proofs.check.hists_ascend.Given as goal

-- those before it ascend
abbrev pub invariant-loop-i : goal.invariant-loop-i
invariant-loop-i l = RiseUpTo hist_cmp l.hists l.i
