use Rattle.std.proofs.Common.{◌≡◌, ◌++◌, List, length, map}
use Rattle.std.specs.List.{AllZip}
use Rattle.reading_sums.specs.Shown.{other_parts, IsOtherOf}
use Rattle.reading_sums.specs.Totals.{Part}
use Rattle.reading_sums.specs.Views.{part_of}
use Rattle.reading_sums.proofs.shown.others_of.Given as goal

-- those so far, and what is not shown of the rest, are what is not shown
abbrev pub invariant-loop-rest : goal.invariant-loop-rest
invariant-loop-rest l = (done : List Part) × (done ++ other_parts (map part_of l.rest) ≡ other_parts (map part_of l.hists)) × AllZip IsOtherOf done l.others.items

abbrev pub decreases-loop-rest : goal.decreases-loop-rest
decreases-loop-rest l = length l.rest
