use Rattle.std.proofs.Common.{◌≡◌, ◌<◌, ◌^◌, take}
use Rattle.reading_sums.specs.Whole.{units_of, AreMarksInRange}
use Rattle.reading_sums.proofs.key.units_fit.Given as goal

-- the units so far, which fit; and the marks so far are in range
abbrev pub invariant-loop-key : goal.invariant-loop-key
invariant-loop-key l = (l.units ≡ units_of (take l.key-index l.keys)) × (l.units < 2 ^ 64) × AreMarksInRange (take l.key-index l.keys)
