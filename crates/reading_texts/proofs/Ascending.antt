-- The order of the images of a list.
use Rattle.std.proofs.Common.{◌+◌, ◌<◌, List, [], ◌∷◌, Ordering, arith, is_lt, length, map}
use Rattle.std.specs.List.Sorted.{IsSortedBy, IsSortedByKey}
use Rattle.std.proofs.lemmas.List.{get_or-map, length-map}

-- what ascends by the keys of its images has images that ascend
pub IsSortedByKey-map : {X Y K : Type 0} (g : X → Y) (key : Y → K) (cmp : K → K → Ordering) (xs : List X)
    → IsSortedBy (λ a b. is_lt (cmp (key (g a)) (key (g b)))) xs → IsSortedByKey key cmp (map g xs)
IsSortedByKey-map g key cmp [] up = λ k d low h. absurd (omega (arith, h))
IsSortedByKey-map g key cmp (x ∷ xs) up = λ k d low h.
    let within : k + 1 < length (x ∷ xs) = rw length-map at h in
    let here : k < length (x ∷ xs) = omega (arith, within) in
    rw (get_or-map g (x ∷ xs) (k + 1) x d within, get_or-map g (x ∷ xs) k x d here) (up k x low within)
