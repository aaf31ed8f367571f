use Rattle.std.proofs.Common.{◌≡◌, false, drop, nat_eq}
use Rattle.std.specs.List.{list_any, range_with_len, starts_with}
use Rattle.reading_shows.proofs.choice.has_part.Given as goal

abbrev pub invariant-loop-i : goal.invariant-loop-i
invariant-loop-i l = list_any (λ i. starts_with nat_eq (drop i l.name) l.part) (range_with_len 0 l.i) ≡ false
