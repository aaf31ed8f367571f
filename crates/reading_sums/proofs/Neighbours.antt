-- Lists each of whose elements is below the next.
use Rattle.std.proofs.Common.{◌≡◌, ◌<◌, ◌≤◌, ◌+◌, ◌-◌, ⊎_elim, Bool, true, false, ℕ, suc, List, [], ◌∷◌, length, get_or, refl, ap, sym, subst, ◌∙◌, arith}
use Rattle.std.specs.Cmp.{IsTotalOrder}
use Rattle.std.specs.Ordering.{is_lt}
use Rattle.std.specs.declared.cmp.Ordering.{Ordering}
use Rattle.std.specs.declared.cmp.Ordering.TheVariants.{Less, Equal, Greater}
use Rattle.std.specs.List.Sorted.{IsStrictlySortedBy}
use Rattle.std.specs.Ordering.{nat_cmp}
use Rattle.std.proofs.lemmas.Bool.{cases_eq}
use Rattle.std.proofs.lemmas.List.{get_or_read}
use Rattle.std.proofs.lemmas.Map.Keys.{sorted_from_all_adjacent, sorted_from_strictly_increasing, Less-from_sorted, IsStrictlyIncreasing-from_sorted}

-- each of the first `n` elements is below the next of them
abbrev pub RiseUpTo : {K : Type 0} → (K → K → Ordering) → List K → ℕ → Type 0
RiseUpTo R xs n = (k : ℕ) (d : _) → k + 1 < n → R (get_or xs k d) (get_or xs (k + 1) d) ≡ Less

pub is-less : (o : Ordering) → is_lt o ≡ true → o ≡ Less
is-less Less e = refl
is-less Equal e = absurd (cc)
is-less Greater e = absurd (cc)

-- one more element
pub rise-step : {K : Type 0} (R : K → K → Ordering) (xs : List K) (i : ℕ) (x y : K) → 0 < i → i < length xs
    → x ≡ get_or xs (i - 1) x → y ≡ get_or xs i y → is_lt (R x y) ≡ true → RiseUpTo R xs i → RiseUpTo R xs (i + 1)
rise-step R xs i x y some within first second below before = λ k d up.
    ⊎_elim
    (λ is.
    let one : x ≡ get_or xs k d = subst (λ n. x ≡ get_or xs n d) (omega (arith, is)) (get_or_read xs (i - 1) x (omega arith) first d) in
    let other : y ≡ get_or xs (k + 1) d = subst (λ n. y ≡ get_or xs n d) (sym is) (get_or_read xs i y within second d) in
    (λ j. R (sym one j) (sym other j)) ∙ is-less (R x y) below)
    (λ other. before k d (omega (arith, up, other))) (cases_eq (k + 1) i)

pub rise-all : {K : Type 0} {R : K → K → Ordering} (o : IsTotalOrder R) (xs : List K) (n : ℕ) → length xs ≤ n → RiseUpTo R xs n
    → IsStrictlySortedBy R xs
unfolding IsStrictlySortedBy
rise-all o [] n all up = tt
rise-all o (x ∷ xs) n all up = sorted_from_all_adjacent o (x ∷ xs) x (λ k within. up k x (omega (arith, within, all)))

-- neighbours of a list that ascends
pub rise-here : {K : Type 0} (R : K → K → Ordering) (xs : List K) (i : ℕ) (x y : K) → 0 < i → i < length xs
    → x ≡ get_or xs (i - 1) x → y ≡ get_or xs i y → IsStrictlySortedBy R xs → R x y ≡ Less
rise-here R xs i x y some within first second up =
    let other : y ≡ get_or xs i x = get_or_read xs i y within second x in
    (λ j. R (first j) (other j)) ∙ Less-from_sorted R xs (i - 1) i x up (omega (arith, some)) within

-- a comparison that does not say below, although it is below
pub refuted : (o is : Ordering) (t : Bool) → o ≡ is → t ≡ is_lt o → t ≡ false → is ≡ Less → false ≡ true
refuted o is t same test not less = sym not ∙ (test ∙ ap is_lt (same ∙ less))

-- ---- numbers above 0

-- each of the first `n` numbers is above the one before it, and the first is above 0
abbrev pub RiseAbove : List ℕ → ℕ → Type 0
RiseAbove values n = (k : ℕ) → k < n → get_or (0 ∷ values) k 0 < get_or values k 0

behind-first : (x : ℕ) (xs : List ℕ) (k : ℕ) → get_or (x ∷ xs) (k + 1) 0 ≡ get_or xs k 0
behind-first x xs k = let one : k + 1 ≡ suc k = omega arith in ap (λ n. get_or (x ∷ xs) n 0) one

pub above-step : (values : List ℕ) (i last : ℕ) → last ≡ get_or (0 ∷ values) i 0 → last < get_or values i 0 → RiseAbove values i
    → RiseAbove values (i + 1) × (get_or values i 0 ≡ get_or (0 ∷ values) (i + 1) 0)
above-step values i last is below before = (
  λ k up. ⊎_elim
      (λ here. subst (λ n. get_or (0 ∷ values) n 0 < get_or values n 0) (sym here) (subst (λ n. n < get_or values i 0) is below))
      (λ other. before k (omega (arith, up, other))) (cases_eq k i),
  sym (behind-first 0 values i),
)

pub above-all : (values : List ℕ) (n : ℕ) → length values ≤ n → RiseAbove values n → IsStrictlySortedBy nat_cmp (0 ∷ values)
above-all values n all up = sorted_from_strictly_increasing (0 ∷ values) (λ k within.
    subst (λ z. get_or (0 ∷ values) k 0 < z) (sym (behind-first 0 values k)) (up k (omega (arith, within, all))))

pub above-here : (values : List ℕ) (i : ℕ) → i < length values → IsStrictlySortedBy nat_cmp (0 ∷ values)
    → get_or (0 ∷ values) i 0 < get_or values i 0
above-here values i within up =
    subst (λ z. get_or (0 ∷ values) i 0 < z) (behind-first 0 values i)
    (IsStrictlyIncreasing-from_sorted (0 ∷ values) up i (omega (arith, within)))
