-- What is in a list that a test filters.
use Rattle.segment_invariant.proofs.Prelude.Std.{◌≡◌, Bool, true, cond, List, [], ◌∷◌, refl, ap, ◌∙◌, All, Contains, filter, All-head, All-tail, All-contains}
use Rattle.std.proofs.lemmas.List.Elements.{All-contains_itself, All-filter, filter_passes}

-- what passes a test is in the list, and passes it
pub filtered : {X : Type 0} (p : X → Bool) (l : List X) (x : X) → Contains (filter p l) x → Contains l x × (p x ≡ true)
filtered p l x there = (
  All-contains (Contains l) (filter p l) x (All-filter p (Contains l) l (All-contains_itself l)) there,
  All-contains (λ x. p x ≡ true) (filter p l) x (filter_passes p l) there,
)

-- if all pass it, all are kept
pub all_kept : {X : Type 0} (p : X → Bool) (l : List X) → All (λ x. p x ≡ true) l → filter p l ≡ l
all_kept p [] all = refl
all_kept p (x ∷ xs) all =
    ap (λ (b : Bool). cond b (x ∷ filter p xs) (filter p xs)) (All-head (λ x. p x ≡ true) x xs all)
    ∙ ap (λ l. x ∷ l) (all_kept p xs (All-tail (λ x. p x ≡ true) x xs all))
