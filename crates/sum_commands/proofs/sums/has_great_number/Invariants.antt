use Rattle.std.proofs.Common.{◌<◌, ◌^◌, take}
use Rattle.std.specs.List.{All}
use Rattle.reading_sums.specs.declared.hist.HistSum.{HistSum}
use Rattle.sum_commands.proofs.sums.has_great_number.Given as goal

-- the numbers so far are below the limit
abbrev pub invariant-loop-hist : goal.invariant-loop-hist
invariant-loop-hist l = All (λ (hist : HistSum). hist.least < 2 ^ 62) (take l.hist-index l.hist-items)
