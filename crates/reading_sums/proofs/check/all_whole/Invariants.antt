use Rattle.std.proofs.Common.{take}
use Rattle.std.specs.List.{All}
use Rattle.reading_sums.specs.Whole.{IsInRange, IsWholeHist}
use Rattle.reading_sums.proofs.check.all_whole.Given as goal

-- those before it are whole and in range
abbrev pub invariant-loop-i : goal.invariant-loop-i
invariant-loop-i l = All IsWholeHist (take l.i l.hists) × All IsInRange (take l.i l.hists)
