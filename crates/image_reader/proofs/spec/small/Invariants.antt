use Rattle.std.proofs.Common.{◌≡◌, take}
use Rattle.image_reader.proofs.spec.small.Given as goal

-- the numbers so far
abbrev pub invariant-loop-number : goal.invariant-loop-number
invariant-loop-number l = l.small.items ≡ take l.number-index l.numbers
