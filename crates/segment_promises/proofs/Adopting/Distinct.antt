-- Lists in which nothing occurs twice.
use Rattle.segment_invariant.proofs.Prelude.Std.{◌≡◌, ℕ, zero, suc, List, [], ◌∷◌, ◌++◌, flat_map, Contains, ⊎_elim, refl, sym, ap, ◌∙◌, arith, some, some-ne-none, get_elem?, Contains-append_cases, at_from, contains_at, none_in}

-- nothing is at two places
abbrev pub IsOnce : {X : Type 0} → List X → Type 0
IsOnce {X} list = (i j : ℕ) (x : X) → get_elem? list i ≡ some x → get_elem? list j ≡ some x → i ≡ j

pub once_none : {X : Type 0} → IsOnce {X = X} []
once_none i j x here there = absurd (some-ne-none x (sym here))

pub once_more : {X : Type 0} (x : X) (list : List X) → ¬ (Contains list x) → IsOnce list → IsOnce (x ∷ list)
once_more x list new once zero zero y here there = refl
once_more x list new once zero (suc j) y here there = absurd (new (contains_at list j x (there ∙ sym here)))
once_more x list new once (suc i) zero y here there = absurd (new (contains_at list i x (here ∙ sym there)))
once_more x list new once (suc i) (suc j) y here there = ap suc (once i j y here there)

pub once_behind : {X : Type 0} (x : X) (list : List X) → IsOnce (x ∷ list) → IsOnce list
once_behind x list once i j y here there = let e = once (suc i) (suc j) y here there in omega (arith, e)

pub once_new : {X : Type 0} (x : X) (list : List X) → IsOnce (x ∷ list) → ¬ (Contains list x)
once_new x list once there =
    let (j, at) = at_from list x there in
    let e = once 0 (suc j) x refl at in
    omega (arith, e)

-- two lists with nothing in common, one after the other
pub once_both : {X : Type 0} (xs ys : List X) → IsOnce xs → IsOnce ys → ((x : X) → Contains xs x → ¬ (Contains ys x)) → IsOnce (xs ++ ys)
once_both [] ys first second apart = second
once_both (x ∷ xs) ys first second apart =
    once_more x (xs ++ ys)
    (λ there. ⊎_elim (once_new x xs first) (apart x (0, omega arith, refl)) (Contains-append_cases xs ys x there))
    (once_both xs ys (once_behind x xs first) second (λ y (k, below, is). apart y (suc k, omega (arith, below), is)))

-- what is in the lists of the elements is in the list of one of them
pub among_rows : {X Y : Type 0} (f : X → List Y) (list : List X) (y : Y) → Contains (flat_map f list) y
    → (i : ℕ) × (x : X) × (get_elem? list i ≡ some x) × Contains (f x) y
among_rows f [] y there = absurd (none_in y there)
among_rows f (x ∷ rest) y there = ⊎_elim
    (λ here. (0, x, refl, here))
    (λ behind. let (i, z, at, has) = among_rows f rest y behind in (suc i, z, at, has))
    (Contains-append_cases (f x) (flat_map f rest) y there)

-- the lists of the elements, of which no two have anything in common
pub once_rows : {X Y : Type 0} (f : X → List Y) (list : List X) → ((x : X) → IsOnce (f x))
    → ((i j : ℕ) (x z : X) (y : Y) → get_elem? list i ≡ some x → get_elem? list j ≡ some z → Contains (f x) y → Contains (f z) y → i ≡ j)
    → IsOnce (flat_map f list)
once_rows f [] each apart = once_none
once_rows f (x ∷ rest) each apart =
    once_both (f x) (flat_map f rest) (each x)
    (once_rows f rest each (λ i j y z w here there has also. let e = apart (suc i) (suc j) y z w here there has also in omega (arith, e)))
    (λ y mine others.
    let (i, z, at, has) = among_rows f rest y others in
    let e = apart 0 (suc i) x z y refl at mine has in
    omega (arith, e))
