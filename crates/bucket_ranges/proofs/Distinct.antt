-- The distinct values of a custom spec: they ascend, they are the values above 0, and no other list is like that.
use Rattle.std.proofs.Common.{◌≡◌, Bool, true, false, ◌==◌, nat_lt, ℕ, zero, suc, ◌+◌, ◌<◌, ◌≤◌, List, [], ◌∷◌, length, slice_index_or, if◌then◌else◌, ◌⊎◌, inl, inr, refl, sym, ◌∙◌, add-one, arith}
use native.Mathlib.Numerals.{unary_clauses}
use Rattle.std.specs.List.{Contains}
use Rattle.std.specs.List.Sorted.{IsStrictlyIncreasing}
use Rattle.std.proofs.lemmas.Bool.{eqb-true, eqb-false, ltb-true, ltb-false, cases_order}
use Rattle.bucket_ranges.specs.Spec.{put_in_order, distinct_values, AreDistinctValues}

-- y is among the values
abbrev pub Member : ℕ → List ℕ → Type 0
Member y [] = ⊥
Member y (x ∷ xs) = (y ≡ x) ⊎ Member y xs

-- each value is below all those after it
abbrev pub Ascends : List ℕ → Type 0
Ascends [] = Unit {0}
Ascends (x ∷ xs) = ((y : ℕ) → Member y xs → x < y) × Ascends xs

-- by a place
pub member-at : (xs : List ℕ) (k y : ℕ) → k < length xs → slice_index_or xs k y ≡ y → Member y xs
member-at [] k y lt e = absurd (omega arith)
member-at (x ∷ xs) zero y lt e = inl (sym e)
member-at (x ∷ xs) (suc k) y lt e = inr (member-at xs k y (omega arith) e)

pub member-from : (xs : List ℕ) (y : ℕ) → Contains xs y → Member y xs
member-from xs y c = member-at xs c.0 y c.1 c.2

pub contains-from : (xs : List ℕ) (y : ℕ) → Member y xs → Contains xs y
contains-from [] y m = absurd m
contains-from (x ∷ xs) y (inl e) = (0, omega arith, sym e)
contains-from (x ∷ xs) y (inr m) = let c = contains-from xs y m in (suc c.0, omega (arith, c.1), c.2)

-- the order by neighbours
pub increasing-tail : (x : ℕ) (xs : List ℕ) → IsStrictlyIncreasing (x ∷ xs) → IsStrictlyIncreasing xs
increasing-tail x xs up k lt =
    let step = up (suc k) (omega arith) in
    rw add-one (simp unary_clauses at step)

increasing-head : (x : ℕ) (xs : List ℕ) → IsStrictlyIncreasing (x ∷ xs) → (y : ℕ) → Member y xs → x < y
increasing-head x [] up y m = absurd m
increasing-head x (z ∷ zs) up y (inl e) = let first : x < z = up 0 (omega arith) in omega (arith, first, e)
increasing-head x (z ∷ zs) up y (inr m) =
    let first : x < z = up 0 (omega arith) in
    let rest = increasing-head z zs (increasing-tail x (z ∷ zs) up) y m in
    omega (arith, first, rest)

pub ascends-from : (xs : List ℕ) → IsStrictlyIncreasing xs → Ascends xs
ascends-from [] up = tt
ascends-from (x ∷ xs) up = (increasing-head x xs up, ascends-from xs (increasing-tail x xs up))

pub increasing-from : (xs : List ℕ) → Ascends xs → IsStrictlyIncreasing xs
increasing-from [] up k lt = absurd (omega arith)
increasing-from (x ∷ []) up k lt = absurd (omega arith)
increasing-from (x ∷ z ∷ zs) up zero lt = up.0 z (inl refl)
increasing-from (x ∷ z ∷ zs) up (suc k) lt =
    let e : suc k + 1 ≡ suc (k + 1) = omega arith in
    rw e (increasing-from (z ∷ zs) up.1 k (omega arith))

-- ---- one list

-- the first of two ascending lists with the same members
same-first : (x : ℕ) (xs : List ℕ) (y : ℕ) (ys : List ℕ) → Ascends (x ∷ xs) → Ascends (y ∷ ys)
    → Member x (y ∷ ys) → Member y (x ∷ xs) → x ≡ y
same-first x xs y ys up vp (inl e) n = e
same-first x xs y ys up vp (inr m) (inl e) = sym e
same-first x xs y ys up vp (inr m) (inr n) =
    let below = vp.0 x m in
    let above = up.0 y n in
    absurd (omega (arith, below, above))

-- a member other than the first
member-rest : (x : ℕ) (z : ℕ) (ys : List ℕ) → x < z → Member z (x ∷ ys) → Member z ys
member-rest x z ys lt (inl e) = absurd (omega (arith, lt, e))
member-rest x z ys lt (inr m) = m

pub ascending-unique : (xs ys : List ℕ) → Ascends xs → Ascends ys
    → ((z : ℕ) → Member z xs → Member z ys) → ((z : ℕ) → Member z ys → Member z xs) → xs ≡ ys
ascending-unique [] [] up vp to from = refl
ascending-unique [] (y ∷ ys) up vp to from = absurd (from y (inl refl))
ascending-unique (x ∷ xs) [] up vp to from = absurd (to x (inl refl))
ascending-unique (x ∷ xs) (y ∷ ys) up vp to from =
    let first : x ≡ y = same-first x xs y ys up vp (to x (inl refl)) (from y (inl refl)) in
    let rest : xs ≡ ys = ascending-unique xs ys up.1 vp.1
    (λ z m. member-rest y z ys (let lt = up.0 z m in omega (arith, lt, first)) (to z (inr m)))
    (λ z m. member-rest x z xs (let lt = vp.0 z m in omega (arith, lt, first)) (from z (inr m))) in
    cc

-- ---- a value put in order

member-put-by : (v y x : ℕ) (xs : List ℕ) (less same : Bool)
    → (Member y (put_in_order v xs) → (y ≡ v) ⊎ Member y xs)
    → Member y (if less then v ∷ x ∷ xs else (if same then x ∷ xs else x ∷ put_in_order v xs))
    → (y ≡ v) ⊎ Member y (x ∷ xs)
member-put-by v y x xs true same so_far m = m
member-put-by v y x xs false true so_far m = inr m
member-put-by v y x xs false false so_far (inl e) = inr (inl e)
member-put-by v y x xs false false so_far (inr m) = elim (so_far m) [ inl e ↦ inl e | inr n ↦ inr (inr n) ]

pub member-put : (v y : ℕ) (xs : List ℕ) → Member y (put_in_order v xs) → (y ≡ v) ⊎ Member y xs
member-put v y [] m = m
member-put v y (x ∷ xs) m = member-put-by v y x xs (nat_lt v x) (v == x) (member-put v y xs) m

put-member-by : (v y x : ℕ) (xs : List ℕ) (less same : Bool) → (same ≡ true → v ≡ x)
    → ((y ≡ v) ⊎ Member y xs → Member y (put_in_order v xs))
    → (y ≡ v) ⊎ Member y (x ∷ xs)
    → Member y (if less then v ∷ x ∷ xs else (if same then x ∷ xs else x ∷ put_in_order v xs))
put-member-by v y x xs true same is so_far m = m
put-member-by v y x xs false true is so_far (inl e) = inl (e ∙ is refl)
put-member-by v y x xs false true is so_far (inr m) = m
put-member-by v y x xs false false is so_far (inl e) = inr (so_far (inl e))
put-member-by v y x xs false false is so_far (inr (inl e)) = inl e
put-member-by v y x xs false false is so_far (inr (inr m)) = inr (so_far (inr m))

pub put-member : (v y : ℕ) (xs : List ℕ) → (y ≡ v) ⊎ Member y xs → Member y (put_in_order v xs)
put-member v y [] m = m
put-member v y (x ∷ xs) m =
    put-member-by v y x xs (nat_lt v x) (v == x) (eqb-true v x) (put-member v y xs) m

put-ascends-by : (v x : ℕ) (xs : List ℕ) (less same : Bool) → (less ≡ true → v < x) → (less ≡ false → x ≤ v)
    → (same ≡ false → v ≡ x → ⊥) → Ascends (x ∷ xs) → Ascends (put_in_order v xs)
    → Ascends (if less then v ∷ x ∷ xs else (if same then x ∷ xs else x ∷ put_in_order v xs))
put-ascends-by v x xs true same below above apart up so_far = (
  λ y m. elim m [
    | inl e ↦ let lt = below refl in omega (arith, lt, e)
    | inr n ↦ let lt = below refl in let next = up.0 y n in omega (arith, lt, next)
  ],
  up,
)
put-ascends-by v x xs false true below above apart up so_far = up
put-ascends-by v x xs false false below above apart up so_far = (
  λ y m. elim (member-put v y xs m) [
    | inl e ↦ elim (cases_order v x) [
      | inl same ↦ absurd (apart refl same)
      | inr other ↦ let le = above refl in elim other [ inl lt ↦ absurd (omega (arith, le, lt)) | inr lt ↦ omega (arith, lt, e) ]
    ]
    | inr n ↦ up.0 y n
  ],
  so_far,
)

pub put-ascends : (v : ℕ) (xs : List ℕ) → Ascends xs → Ascends (put_in_order v xs)
put-ascends v [] up = (λ y m. absurd m, tt)
put-ascends v (x ∷ xs) up =
    put-ascends-by v x xs (nat_lt v x) (v == x) (ltb-true v x) (ltb-false v x) (eqb-false v x) up (put-ascends v xs up.1)

-- ---- the distinct values

distinct-ascends-by : (v : ℕ) (ds : List ℕ) (none : Bool) → Ascends ds → Ascends (if none then ds else put_in_order v ds)
distinct-ascends-by v ds true up = up
distinct-ascends-by v ds false up = put-ascends v ds up

pub distinct-ascends : (values : List ℕ) → Ascends (distinct_values values)
distinct-ascends [] = tt
distinct-ascends (v ∷ rest) = distinct-ascends-by v (distinct_values rest) (v == 0) (distinct-ascends rest)

distinct-member-by : (v y : ℕ) (rest ds : List ℕ) (none : Bool) → (none ≡ false → v ≡ 0 → ⊥)
    → (Member y ds → Member y rest × (0 < y)) → Member y (if none then ds else put_in_order v ds)
    → Member y (v ∷ rest) × (0 < y)
distinct-member-by v y rest ds true some so_far m = let n = so_far m in (inr n.0, n.1)
distinct-member-by v y rest ds false some so_far m = elim (member-put v y ds m) [
  | inl e ↦ (
    inl e,
    elim (cases_order v 0) [
      | inl same ↦ absurd (some refl same)
      | inr other ↦ elim other [ inl lt ↦ absurd (omega (arith, lt)) | inr lt ↦ omega (arith, lt, e) ]
    ],
  )
  | inr n ↦ let was = so_far n in (inr was.0, was.1)
]

pub distinct-member : (values : List ℕ) (y : ℕ) → Member y (distinct_values values) → Member y values × (0 < y)
distinct-member [] y m = absurd m
distinct-member (v ∷ rest) y m =
    distinct-member-by v y rest (distinct_values rest) (v == 0) (eqb-false v 0) (distinct-member rest y) m

member-distinct-by : (v y : ℕ) (rest ds : List ℕ) (none : Bool) → (none ≡ true → v ≡ 0)
    → (Member y rest → Member y ds) → 0 < y → Member y (v ∷ rest) → Member y (if none then ds else put_in_order v ds)
member-distinct-by v y rest ds true zero_is so_far above (inl e) = let z = zero_is refl in absurd (omega (arith, above, e, z))
member-distinct-by v y rest ds true zero_is so_far above (inr m) = so_far m
member-distinct-by v y rest ds false zero_is so_far above (inl e) = put-member v y ds (inl e)
member-distinct-by v y rest ds false zero_is so_far above (inr m) = put-member v y ds (inr (so_far m))

pub member-distinct : (values : List ℕ) (y : ℕ) → Member y values → 0 < y → Member y (distinct_values values)
member-distinct [] y m above = absurd m
member-distinct (v ∷ rest) y m above =
    member-distinct-by v y rest (distinct_values rest) (v == 0) (eqb-true v 0) (λ n. member-distinct rest y n above) above m

-- so they are the values above 0, each once and below the next
pub distinct-are : (values : List ℕ) → AreDistinctValues values (distinct_values values)
distinct-are values = record {
  ascending = increasing-from _ (distinct-ascends values);
  members = λ y. (
    (λ c. let m = distinct-member values y (member-from _ y c) in (contains-from values y m.0, m.1)),
    (λ c. contains-from _ y (member-distinct values y (member-from values y c.0) c.1)),
  );
}

-- and there is one such list
pub distinct-unique : (values a : List ℕ) → AreDistinctValues values a → a ≡ distinct_values values
distinct-unique values a are = ascending-unique a (distinct_values values) (ascends-from a are.ascending) (distinct-ascends values)
    (λ z m. let c = (are.members z).0 (contains-from a z m) in member-distinct values z (member-from values z c.0) c.1)
    (λ z m. let d = distinct-member values z m in member-from a z ((are.members z).1 (contains-from values z d.0, d.1)))

-- values above 0 that ascend are their own distinct values
pub distinct-of_ascending : (values : List ℕ) → Ascends values → ((y : ℕ) → Member y values → 0 < y)
    → distinct_values values ≡ values
distinct-of_ascending values up above = ascending-unique (distinct_values values) values (distinct-ascends values) up
    (λ z m. (distinct-member values z m).0) (λ z m. member-distinct values z m (above z m))
