use Rattle.std.proofs.Common.{◌≡◌, map, take, pos}
use Rattle.reading_sums.specs.Whole.{values_of}
use Rattle.reading_sums.proofs.check.are_buckets.Given as goal

-- the keys before it are the first buckets
abbrev pub invariant-loop-i : goal.invariant-loop-i
invariant-loop-i l = values_of (take l.i l.keys) ≡ map pos (take l.i l.ranges)
