-- The first of each group of equals, as a loop gathers them.
use Rattle.std.proofs.Common.{◌≡◌, Bool, true, false, not, ◌||◌, List, [], ◌∷◌, ◌++◌, refl, ap, ◌∙◌, if◌then◌else◌}
use Rattle.std.specs.List.{list_any, filter}
use Rattle.std.proofs.lemmas.List.Elements.{filter-append}
use Rattle.bucket_ranges.specs.Reading.{first_of_each}

-- a filter of the new one: it is left out if it was found before, or if it is the same as this one
filter_of_new : {X : Type 0} (p : X → Bool) (y : X) (same found : Bool) → p y ≡ not same
    → filter p (if found then [] else y ∷ []) ≡ (if same || found then [] else y ∷ [])
filter_of_new p y true true e = refl
filter_of_new p y true false e = rw e
filter_of_new p y false true e = refl
filter_of_new p y false false e = rw e

-- one more element is kept if none of those before is the same
pub first_of_each-push : {X : Type 0} (same : X → X → Bool) (xs : List X) (y : X)
    → first_of_each same (xs ++ y ∷ [])
    ≡ first_of_each same xs ++ (if list_any (λ x. same x y) xs then [] else y ∷ [])
first_of_each-push same [] y = refl
first_of_each-push same (x ∷ rest) y =
    ap (λ kept. x ∷ kept)
    (ap (filter (λ z. not (same x z))) (first_of_each-push same rest y)
    ∙ (filter-append (λ z. not (same x z)) (first_of_each same rest) (if list_any (λ x. same x y) rest then [] else y ∷ [])
    ∙ ap (λ new. filter (λ z. not (same x z)) (first_of_each same rest) ++ new)
    (filter_of_new (λ z. not (same x z)) y (same x y) (list_any (λ x. same x y) rest) refl)))
