use Rattle.std.proofs.Common.{◌≡◌, min, take}
use Rattle.reading_sums.specs.Whole.{units_of}
use Rattle.reading_sums.proofs.key.units_in.Given as goal

-- the units so far, as far as 64 bits go
abbrev pub invariant-loop-key : goal.invariant-loop-key
invariant-loop-key l = l.units ≡ min (units_of (take l.key-index l.keys)) 18446744073709551615
