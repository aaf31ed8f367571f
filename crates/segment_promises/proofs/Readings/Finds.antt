-- The first element of a list that passes a test: by its place, and among those that pass another.
use Rattle.segment_invariant.proofs.Prelude.Std.{◌≡◌, Bool, true, false, cond, ◌&&◌, ℕ, zero, suc, List, [], ◌∷◌, ◌++◌, refl, ap, ◌∙◌, subst, arith, Some, filter, All, All-nil, All-cons, All-head, All-tail, some, some-injective, get_elem?, none_at}
use Rattle.std.specs.List.{find}

module _ {X : Type 0} (test : X → Bool) where
  -- it is found if none before it passes
  pub find_there : (front behind : List X) (x : X) → All (λ y. test y ≡ false) front → test x ≡ true → find test (front ++ x ∷ behind) ≡ Some x
  find_there [] behind x none_before passes = ap (λ (b : Bool). cond b (Some x) (find test behind)) passes
  find_there (y ∷ front) behind x none_before passes =
      ap (λ (b : Bool). cond b (Some y) (find test (front ++ x ∷ behind))) (All-head (λ y. test y ≡ false) y front none_before)
      ∙ find_there front behind x (All-tail (λ y. test y ≡ false) y front none_before) passes

  abbrev pub IsFound : List X → X → Type 0
  IsFound list x = (front behind : List X) × (list ≡ front ++ x ∷ behind) × All (λ y. test y ≡ false) front × (test x ≡ true)

  pub find_from : (list : List X) (x : X) → find test list ≡ Some x → IsFound list x
  find_from [] x is = cc is
  find_from (y ∷ rest) x is = by_test (test y) refl is (find_from rest x)
    where
      by_test : (b : Bool) → test y ≡ b → cond b (Some y) (find test rest) ≡ Some x → (find test rest ≡ Some x → IsFound rest x) → IsFound (y ∷ rest) x
      by_test true passes found later =
          let same : y ≡ x = cc found in
          ([], rest, ap (λ (z : X). z ∷ rest) same, All-nil (λ y. test y ≡ false), subst (λ (z : X). test z ≡ true) same passes)
      by_test false fails found later =
          let (front, behind, split, none_before, passes) = later found in
          (y ∷ front, behind, ap (λ (l : List X). y ∷ l) split, All-cons (λ y. test y ≡ false) y front fails none_before, passes)

  -- what is found has a place, and passes
  pub found_at : (list : List X) (x : X) → find test list ≡ Some x → (i : ℕ) × (get_elem? list i ≡ some x) × (test x ≡ true)
  found_at [] x is = cc is
  found_at (y ∷ rest) x is = by_test (test y) refl is (found_at rest x)
    where
      by_test : (b : Bool) → test y ≡ b → cond b (Some y) (find test rest) ≡ Some x → (find test rest ≡ Some x → (i : ℕ) × (get_elem? rest i ≡ some x) × (test x ≡ true))
          → (i : ℕ) × (get_elem? (y ∷ rest) i ≡ some x) × (test x ≡ true)
      by_test true passes found later = let same : y ≡ x = cc found in (0, ap some same, subst (λ (z : X). test z ≡ true) same passes)
      by_test false fails found later = let (i, there, passes) = later found in (suc i, there, passes)

  -- the one that passes is found
  pub find_one : (list : List X) (i : ℕ) (x : X) → get_elem? list i ≡ some x → test x ≡ true
      → ((j : ℕ) (y : X) → get_elem? list j ≡ some y → test y ≡ true → j ≡ i) → find test list ≡ Some x
  find_one [] i x there passes alone = absurd (none_at i x there)
  find_one (y ∷ rest) zero x there passes alone =
      let same = some-injective y x there in
      ap (λ (b : Bool). cond b (Some y) (find test rest)) (ap test same ∙ passes) ∙ ap (λ (z : X). Some z) same
  find_one (y ∷ rest) (suc i) x there passes alone =
      by_test (test y) refl (find_one rest i x there passes (λ j z here also. let e = alone (suc j) z here also in omega (arith, e)))
    where
      by_test : (b : Bool) → test y ≡ b → find test rest ≡ Some x → cond b (Some y) (find test rest) ≡ Some x
      by_test true also later = absurd (let e = alone zero y refl also in omega (arith, e))
      by_test false fails later = later

-- to find among those that pass another test is to find what passes both
pub find_both : {X : Type 0} (test kept : X → Bool) (list : List X) → find test (filter kept list) ≡ find (λ x. kept x && test x) list
find_both test kept [] = refl
find_both test kept (x ∷ rest) = by_test (kept x) (test x) refl (find_both test kept rest)
  where
    by_test : (b t : Bool) → test x ≡ t → find test (filter kept rest) ≡ find (λ x. kept x && test x) rest
        → find test (cond b (x ∷ filter kept rest) (filter kept rest)) ≡ cond (b && t) (Some x) (find (λ x. kept x && test x) rest)
    by_test true t is later = (λ i. cond (is i) (Some x) (later i))
    by_test false t is later = later
