-- Keys with units that are sorted by key: if no key comes twice, each is below those after it.
use Rattle.std.proofs.Common.{zero, ◌≡◌, ◌≢◌, ℕ, suc, ◌+◌, ◌<◌, ℤ, int_lt, if◌then◌else◌, map, sum_by, Bool, true, false, List, [], ◌∷◌, length, Less, Equal, Greater, refl, sym, ap, ◌∙◌, arith}
use Rattle.std.specs.List.{AllByRecursion}
use Rattle.std.specs.List.Sorted.{IsPermutation, IsSortedBy, IsStrictlySortedBy}
use Rattle.std.specs.Ordering.{int_cmp, int_eq, is_lt}
use Rattle.std.proofs.Math.ListN.{get_or}
use Rattle.std.proofs.lemmas.Bool.Decides.{Decides-int_eq}
use Rattle.std.proofs.lemmas.Cmp.{int_cmp_total}
use Rattle.std.proofs.lemmas.List.Sorted.{ranks_by, sorted_far, sum_by-IsPermutation}
use Rattle.std.proofs.lemmas.List.Sums.{sum_by-append}
use Rattle.std.proofs.lemmas.Map.Lookups.{exact_signed}
use mathlib.Core.Option.{some, some-injective, some-ne-none}
use lib.ListN.{get_elem?}
use Rattle.list_lemmas.proofs.Elements.{below_length, sum_at_least}
use Rattle.list_lemmas.proofs.Pairs.{element_at}
use Rattle.segment_calls.specs.Keys.{NoKeyRepeats}

-- whether a count comes before another
abbrev sooner : ℤ × ℕ → ℤ × ℕ → Bool
sooner x y = is_lt (int_cmp x.0 y.0)

-- of two keys that differ one is less
less_of : (x y : ℤ) → is_lt (int_cmp y x) ≡ false → x ≢ y → int_cmp x y ≡ Less
less_of x y not_less apart = by (int_lt x y) (int_lt y x) refl refl
  where
    by : (a b : Bool) → int_lt x y ≡ a → int_lt y x ≡ b → int_cmp x y ≡ Less
    by true b e f = ap (λ (t : Bool). if t then Less else (if int_lt y x then Greater else Equal)) e
    by false true e f =
        let less : int_cmp y x ≡ Less = ap (λ (t : Bool). if t then Less else (if int_lt x y then Greater else Equal)) f in
        absurd (cc (sym not_less ∙ ap is_lt less))
    by false false e f =
        absurd (apart (exact_signed x y (λ i. if e i then Less else (if f i then Greater else Equal))))

all_from : (P : ℤ → Type 0) (xs : List (ℤ × ℕ)) → ((k : ℕ) (d : ℤ × ℕ) → k < length xs → P (get_or xs k d).0) → AllByRecursion P (map (λ (c : ℤ × ℕ). c.0) xs)
all_from P [] all = tt
all_from P (x ∷ xs) all = (all 0 x (omega arith), all_from P xs (λ k d low. all (suc k) d (omega (arith, low))))

-- how often a key is among them
abbrev times : ℤ → ℤ × ℕ → ℕ
times key count = if int_eq count.0 key then 1 else 0

times_once : (x y : ℤ × ℕ) → y.0 ≡ x.0 → times x.0 y ≡ 1
times_once x y same = ap (λ (b : Bool). if b then 1 else 0) ((Decides-int_eq y.0 x.0).1 same)

parts_of : (x : ℤ × ℕ) (xs : List (ℤ × ℕ)) (key : ℤ) → sum_by (times key) (x ∷ xs) ≡ sum_by (times key) (x ∷ []) + sum_by (times key) xs
parts_of x xs key = sum_by-append (times key) (x ∷ []) xs

one_more : (n : ℕ) → 0 + n ≡ n
one_more n = omega arith

tail_once : (x : ℤ × ℕ) (xs : List (ℤ × ℕ)) → NoKeyRepeats (x ∷ xs) → NoKeyRepeats xs
tail_once x xs once key = let all = parts_of x xs key in let most = once key in omega (arith, all, most)

-- no key after the first is the same as the first
behind_differs : (x : ℤ × ℕ) (xs : List (ℤ × ℕ)) → NoKeyRepeats (x ∷ xs) → (k : ℕ) (d : ℤ × ℕ) → k < length xs → x.0 ≢ (get_or xs k d).0
behind_differs x xs once k d low same =
    let all = parts_of x xs x.0 in
    let most = once x.0 in
    let head : sum_by (times x.0) (x ∷ []) ≡ 1 = one_more (times x.0 x) ∙ times_once x x refl in
    let least = sum_at_least (times x.0) xs k (get_or xs k d) (element_at xs k d low) in
    let one = times_once x (get_or xs k d) (sym same) in
    omega (arith, all, most, head, least, one)

pub strictly_sorted : (xs : List (ℤ × ℕ)) → IsSortedBy sooner xs → NoKeyRepeats xs → IsStrictlySortedBy int_cmp (map (λ (c : ℤ × ℕ). c.0) xs)
unfolding IsStrictlySortedBy
strictly_sorted [] sorted once = tt
strictly_sorted (x ∷ xs) sorted once = (
  all_from (λ y. int_cmp x.0 y ≡ Less) xs
      (λ k d low. less_of x.0 (get_or xs k d).0
      (sorted_far sooner (ranks_by int_cmp_total (λ (c : ℤ × ℕ). c.0)) (x ∷ xs) sorted 0 (suc k) d (omega arith) (omega (arith, low)))
      (behind_differs x xs once k d low)),
  strictly_sorted xs (λ k d from to.
      let next : suc k + 1 ≡ suc (k + 1) = omega arith in
      ap (λ (n : ℕ). sooner (get_or (x ∷ xs) n d) (get_or xs k d)) (sym next) ∙ sorted (suc k) d (omega arith) (omega (arith, to)))
      (tail_once x xs once),
)

-- to move them about changes nothing of that
pub once_still : (xs ys : List (ℤ × ℕ)) → IsPermutation xs ys → NoKeyRepeats xs → NoKeyRepeats ys
once_still xs ys moved once key = let same = sum_by-IsPermutation (times key) xs ys moved in let most = once key in omega (arith, same, most)

-- a key has one place
pub one_place : (xs : List (ℤ × ℕ)) → NoKeyRepeats xs → (i j : ℕ) (x y : ℤ × ℕ) → get_elem? xs i ≡ some x → get_elem? xs j ≡ some y → x.0 ≡ y.0 → i ≡ j
one_place [] once i j x y here there same = absurd (some-ne-none x (sym here))
one_place (z ∷ xs) once zero zero x y here there same = refl
one_place (z ∷ xs) once zero (suc j) x y here there same =
    let is : z ≡ x = some-injective z x here in
    let low = below_length xs j y there in
    let other : get_or xs j y ≡ y = some-injective (get_or xs j y) y (sym (element_at xs j y low) ∙ there) in
    absurd (behind_differs z xs once j y low (ap (λ (c : ℤ × ℕ). c.0) is ∙ (same ∙ ap (λ (c : ℤ × ℕ). c.0) (sym other))))
one_place (z ∷ xs) once (suc i) zero x y here there same =
    let is : z ≡ y = some-injective z y there in
    let low = below_length xs i x here in
    let other : get_or xs i x ≡ x = some-injective (get_or xs i x) x (sym (element_at xs i x low) ∙ here) in
    absurd (behind_differs z xs once i x low (ap (λ (c : ℤ × ℕ). c.0) is ∙ (sym same ∙ ap (λ (c : ℤ × ℕ). c.0) (sym other))))
one_place (z ∷ xs) once (suc i) (suc j) x y here there same = ap suc (one_place xs (tail_once z xs once) i j x y here there same)
