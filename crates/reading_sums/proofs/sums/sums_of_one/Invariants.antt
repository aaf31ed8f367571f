use Rattle.std.proofs.Common.{◌≡◌, map, take}
use Rattle.std.specs.List.{All}
use Rattle.image_reader.specs.Views.{histogram_view}
use Rattle.reading_sums.specs.Totals.{part_from}
use Rattle.reading_sums.specs.Views.{part_of}
use Rattle.reading_sums.specs.Whole.{IsInRange}
use Rattle.reading_sums.proofs.sums.sums_of_one.Given as goal

-- the histograms so far, which are in range
abbrev pub invariant-loop-hist : goal.invariant-loop-hist
invariant-loop-hist l =
    (map part_of l.sums.items ≡ map (λ hist. part_from l.number (histogram_view hist.now)) (take l.hist-index l.hist-items))
    × All IsInRange l.sums.items
