-- A sum with one more element, held to at most 2^64 - 1.
use Rattle.std.proofs.Common.{◌≡◌, ◌∙◌, ℕ, ◌+◌, ◌<◌, List, length, map, min, sum_by, get_or, take, ap, arith}
use Rattle.std.proofs.lemmas.List.{map_more}
use Rattle.std.proofs.lemmas.List.Sums.{sum_by_push}

capped : (so_far now front one sum : ℕ) → so_far ≡ min front 18446744073709551615 → now ≡ min (so_far + one) 18446744073709551615 → sum ≡ front + one
    → now ≡ min sum 18446744073709551615
capped so_far now front one sum before more is = omega (arith, before, more, is)

pub capped-more : {X Y : Type 0} (f : Y → ℕ) (g : X → Y) (xs : List X) (i : ℕ) (d : X) → i < length xs → (so_far now : ℕ)
    → so_far ≡ min (sum_by f (map g (take i xs))) 18446744073709551615 → now ≡ min (so_far + f (g (get_or xs i d))) 18446744073709551615
    → now ≡ min (sum_by f (map g (take (i + 1) xs))) 18446744073709551615
capped-more f g xs i d h so_far now before more =
    capped so_far now (sum_by f (map g (take i xs))) (f (g (get_or xs i d))) _ before more
    (ap (sum_by f) (map_more g xs i d h) ∙ sum_by_push f (map g (take i xs)) (g (get_or xs i d)))
