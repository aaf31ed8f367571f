use Rattle.std.proofs.Common.{◌≡◌, min, length}
use Rattle.image_reader.proofs.sample.Samples.number_of.Given as goal

-- the entries so far are counted
abbrev pub invariant-loop : goal.invariant-loop
invariant-loop l = l.number ≡ min (length l.yielded) 18446744073709551615
