use Rattle.std.proofs.Common.{◌≡◌, drop, ◌++◌, ◌∷◌, []}
use Rattle.bucket_ranges.specs.Reading.{ascends_above}
use Rattle.image_reader.proofs.spec.ascends.Given as goal

-- whether the rest ascends above the last number decides
abbrev pub invariant-loop-number : goal.invariant-loop-number
invariant-loop-number l =
    ascends_above 0 (l.numbers ++ 2147483647 ∷ []) ≡ ascends_above l.low (drop l.number-index l.numbers ++ 2147483647 ∷ [])
