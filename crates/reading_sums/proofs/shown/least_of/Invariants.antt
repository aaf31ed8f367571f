use Rattle.std.specs.List.{IsFirstBest}
use Rattle.reading_sums.proofs.Groups.{is_less}
use Rattle.reading_sums.proofs.shown.least_of.Given as goal

-- it is the first of the least number so far
abbrev pub invariant-loop-i : goal.invariant-loop-i
invariant-loop-i l = IsFirstBest is_less l.hists l.i l.least
