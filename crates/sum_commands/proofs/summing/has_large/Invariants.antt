use Rattle.std.proofs.Common.{◌<◌, ◌^◌, unsigned_abs, take}
use Rattle.std.specs.List.{All}
use Rattle.reading_sums.specs.declared.hist.HistSum.{HistSum}
use Rattle.sum_commands.proofs.summing.has_large.Given as goal

-- those so far have small amounts
abbrev pub invariant-loop-hist : goal.invariant-loop-hist
invariant-loop-hist l =
    All (λ (hist : HistSum). (unsigned_abs hist.sum < 2 ^ 126) × (unsigned_abs hist.sum_mark < 2 ^ 126)) (take l.hist-index l.hist-items)
