-- No block of an image occurs twice: a record is no counts block, and no two records name the same one.
use Rattle.segment_invariant.proofs.Prelude.Std.{◌≡◌, inl, inr, true, ℕ, zero, suc, ◌+◌, ◌^◌, ◌<◌, List, [], ◌∷◌, ◌++◌, length, flat_map, All, Contains, refl, sym, ap, ◌∙◌, subst, arith, ⊎_elim, not, ◌==◌, ◌&&◌, if◌then◌else◌, Bool, false, cases_order, eq-eqb, ne_eqb, Contains-append_left, Contains-append_right, some, some-injective, get_elem?, at_longer, at_from, contains_at, row_in, below_length, none_at}
use Rattle.segment_invariant.proofs.Prelude.Machine.{field_at, head_of, is_of_type, IsListed, Reading, reading_along}
use Rattle.segment_promises.specs.Adoption.{IsAdoptable, named_counts, blocks_of}
use Rattle.segment_promises.proofs.Adopting.Distinct.{IsOnce}
use Rattle.segment_promises.proofs.Adopting.Opened.Anatomy.{placed}
use Rattle.segment_promises.proofs.Adopting.Opened.Blocks.{begins, Owns, test_there}

-- ---- lists in which nothing occurs twice

at_behind : {X : Type 0} (xs ys : List X) (j : ℕ) (y : X) → get_elem? ys j ≡ some y → get_elem? (xs ++ ys) (length xs + j) ≡ some y
at_behind [] ys j y there = ap (get_elem? ys) none ∙ there
  where
    none : 0 + j ≡ j
    none = omega arith
at_behind (x ∷ xs) ys j y there = ap (get_elem? (x ∷ (xs ++ ys))) next ∙ at_behind xs ys j y there
  where
    next : suc (length xs) + j ≡ suc (length xs + j)
    next = omega arith

-- nothing in the front is also after it
pub once_apart : {X : Type 0} (xs ys : List X) (x : X) → IsOnce (xs ++ ys) → Contains xs x → ¬ (Contains ys x)
once_apart xs ys x once first last =
    let (i, here) = at_from xs x first in
    let (j, there) = at_from ys x last in
    let below = below_length xs i x here in
    let e = once i (length xs + j) x (at_longer xs ys i x here) (at_behind xs ys j x there) in
    omega (arith, e, below)

pub once_last : {X : Type 0} (xs ys : List X) → IsOnce (xs ++ ys) → IsOnce ys
once_last xs ys once i j x here there =
    let e = once (length xs + i) (length xs + j) x (at_behind xs ys i x here) (at_behind xs ys j x there) in
    omega (arith, e)

-- of the lists of the elements no two have anything in common
pub rows_apart : {X Y : Type 0} (f : X → List Y) (list : List X) → IsOnce (flat_map f list) → (i j : ℕ) (x z : X) (y : Y)
    → get_elem? list i ≡ some x → get_elem? list j ≡ some z → Contains (f x) y → Contains (f z) y → i ≡ j
rows_apart f [] once i j x z y here there has also = absurd (none_at i x here)
rows_apart f (w ∷ rest) once zero zero x z y here there has also = refl
rows_apart f (w ∷ rest) once zero (suc j) x z y here there has also =
    absurd (once_apart (f w) (flat_map f rest) y once (subst (λ v. Contains (f v) y) (sym (some-injective w x here)) has) (row_in f rest j z y there also))
rows_apart f (w ∷ rest) once (suc i) zero x z y here there has also =
    absurd (once_apart (f w) (flat_map f rest) y once (subst (λ v. Contains (f v) y) (sym (some-injective w z there)) also) (row_in f rest i x y here has))
rows_apart f (w ∷ rest) once (suc i) (suc j) x z y here there has also = ap suc (rows_apart f rest (once_last (f w) (flat_map f rest) once) i j x z y here there has also)

-- ---- an image

module _ (words references : List ℕ) (reading : Reading) (narrow : All (λ word. word < 2 ^ 64) words) (listed : IsListed words (head_of words) references)
    (reads : reading ≡ reading_along words (head_of words) references) (adoptable : IsAdoptable words references reading) where
  blocks_once : IsOnce (blocks_of words references)
  blocks_once i j at here there = elim (cases_order i j) [
    | inl same ↦ same
    | inr order ↦ elim order [
      | inl before ↦ absurd (twice i j before here there)
      | inr behind ↦ absurd (twice j i behind there here)
    ]
  ]
    where
      twice : (i j : ℕ) → i < j → get_elem? (blocks_of words references) i ≡ some at → get_elem? (blocks_of words references) j ≡ some at → ⊥
      twice i j before here there =
          let p = placed words references reading narrow listed reads adoptable at (test_there (blocks_of words references) at (contains_at (blocks_of words references) i at here)) in
          let least = p.least in
          ⊎_elim (λ first. omega (arith, first, least)) (λ last. omega (arith, last, least)) (adoptable.undamaged.apart i j at at before here there)

  -- the owner of a counts block names it
  pub owner_names : (at owner : ℕ) → Owns words references reading narrow listed reads adoptable at owner → Contains (named_counts words owner) at
  owner_names at owner owns = by_test (is_of_type words 1 owner) (not (field_at words owner 8 == 0)) (eq-eqb _ 1 owns.one) (ap not (ne_eqb _ 0 owns.some))
    where
      by_test : (one some_there : Bool) → one ≡ true → some_there ≡ true → Contains (if one && some_there then field_at words owner 8 ∷ [] else []) at
      by_test true true a b = (0, omega arith, owns.is)
      by_test true false a b = cc b
      by_test false some_there a b = cc a

  -- a counts block is on no list, and has one owner
  pub owned_unlisted : (at owner : ℕ) → Owns words references reading narrow listed reads adoptable at owner → ¬ (Contains references at)
  owned_unlisted at owner owns there =
      let (k, here) = at_from references owner owns.there in
      once_apart references (flat_map (named_counts words) references) at blocks_once there
      (row_in (named_counts words) references k owner at here (owner_names at owner owns))

  pub one_owner : (at a b : ℕ) → Owns words references reading narrow listed reads adoptable at a → Owns words references reading narrow listed reads adoptable at b → a ≡ b
  one_owner at a b first second =
      let (i, here) = at_from references a first.there in
      let (j, there) = at_from references b second.there in
      let same = rows_apart (named_counts words) references (once_last references (flat_map (named_counts words) references) blocks_once) i j a b at here there
      (owner_names at a first) (owner_names at b second) in
      some-injective a b (sym here ∙ (ap (get_elem? references) same ∙ there))

  -- and a block begins there
  pub owned_begins : (at owner : ℕ) → Owns words references reading narrow listed reads adoptable at owner → begins words references at ≡ true
  owned_begins at owner owns =
      let (k, here) = at_from references owner owns.there in
      test_there (blocks_of words references) at
      (Contains-append_right references (flat_map (named_counts words) references) at (row_in (named_counts words) references k owner at here (owner_names at owner owns)))

  pub listed_begins : (at : ℕ) → Contains references at → begins words references at ≡ true
  listed_begins at there = test_there (blocks_of words references) at (Contains-append_left references (flat_map (named_counts words) references) at there)
