use Rattle.std.proofs.Common.{◌≡◌, ◌∷◌, ◌-◌, take}
use Rattle.reading_shows.proofs.listing.rank_of.Given as goal

abbrev pub invariant-loop-byte : goal.invariant-loop-byte
invariant-loop-byte l = l.rank.items ≡ (18446744073709551615 - l.units) ∷ take l.byte-index l.name
