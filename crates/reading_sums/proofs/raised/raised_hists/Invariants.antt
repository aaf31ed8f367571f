use Rattle.std.proofs.Common.{◌≡◌, ◌<◌, ◌^◌, ◌+◌, map, take}
use Rattle.std.specs.List.{All}
use Rattle.reading_sums.specs.declared.hist.HistSum.{HistSum}
use Rattle.reading_sums.specs.Totals.{raised_part}
use Rattle.reading_sums.specs.Views.{part_of}
use Rattle.reading_sums.proofs.raised.raised_hists.Given as goal

-- those so far are the first ones, raised, whose numbers fit
abbrev pub invariant-loop-hist : goal.invariant-loop-hist
invariant-loop-hist l =
    (map part_of l.raised.items ≡ map (raised_part l.by) (map part_of (take l.hist-index l.hists)))
    × All (λ (hist : HistSum). hist.least + l.by < 2 ^ 64) (take l.hist-index l.hists)
