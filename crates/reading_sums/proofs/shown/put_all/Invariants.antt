use Rattle.std.proofs.Common.{◌++◌, List, map, take}
use Rattle.std.specs.List.{AllZip}
use Rattle.reading_sums.specs.Shown.{IsOtherOf}
use Rattle.reading_sums.specs.Totals.{Part}
use Rattle.reading_sums.specs.Views.{part_of}
use Rattle.reading_sums.proofs.shown.put_all.Given as goal

-- those so far come after what was there
abbrev pub invariant-loop-hist : goal.invariant-loop-hist
invariant-loop-hist l = (parts : List Part) → AllZip IsOtherOf parts l.fn.others.items → AllZip IsOtherOf (parts ++ map part_of (take l.hist-index l.hists)) l.others.items
