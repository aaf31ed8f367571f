use Rattle.std.proofs.Common.{◌≡◌, map}
use Rattle.std.specs.List.{range_with_len}
use Rattle.reading_sums.specs.Keys.{key_from}
use Rattle.reading_sums.proofs.key.keys_of.Given as goal

-- the keys so far
abbrev pub invariant-loop-i : goal.invariant-loop-i
invariant-loop-i l = l.keys.items ≡ map (key_from l.counts l.marks) (range_with_len 0 l.i)
