-- Parts with the same totals have the same units of all keys, and do not fit together if the others do not.
use Rattle.std.proofs.Common.{◌≡◌, ◌≤◌, ◌^◌, ◌+◌, ⊎_elim, inl, inr, Bool, true, false, ℕ, ℤ, pos, ◌+ℤ◌, List, [], ◌∷◌, ◌++◌, sum_by, if◌then◌else◌, refl, ap, sym, subst, ◌∙◌, arith}
use Rattle.std.specs.Ordering.{int_eq}
use Rattle.std.proofs.lemmas.Cmp.{int_eq_equiv}
use Rattle.std.proofs.lemmas.List.Sums.{sum_by-append, sum_by-cons}
use Rattle.bucket_ranges.specs.declared.spec.Spec.{Spec}
use Rattle.reading_sums.specs.declared.key.KeySum.{KeySum}
use Rattle.reading_sums.specs.Fitting.{PartsDoNotFit, TotalDoesNotFit, all_units}
use Rattle.reading_sums.specs.Keys.{units_at}
use Rattle.reading_sums.specs.Totals.Quantity.{Units}
use Rattle.reading_sums.specs.Totals.{Part, Quantity, is_of, total}

-- two lists of parts have the same numbers: for each name and spec everything that is added up
abbrev pub SameNumbers : List Part → List Part → Type 0
SameNumbers a b = (quantity : Quantity) (name : List ℕ) (spec : Spec) → total quantity name spec a ≡ total quantity name spec b

-- ---- keys that have the same number of each value

-- a number of a key, if it is of one value, or if it is of any other
abbrev at : (KeySum → ℕ) → ℤ → KeySum → ℕ
at of value key = if int_eq key.value value then of key else 0

abbrev but : (KeySum → ℕ) → ℤ → KeySum → ℕ
but of value key = if int_eq key.value value then 0 else of key

split : (t : Bool) (n : ℕ) → n ≡ (if t then n else 0) + (if t then 0 else n)
split true n = omega arith
split false n = omega arith

at-but : (of : KeySum → ℕ) (value : ℤ) (keys : List KeySum) → sum_by of keys ≡ sum_by (at of value) keys + sum_by (but of value) keys
at-but of value [] = refl
at-but of value (key ∷ rest) =
    let here : of key ≡ at of value key + but of value key = split (int_eq key.value value) (of key) in
    omega (arith, here, at-but of value rest, sum_by-cons of key rest, sum_by-cons (at of value) key rest, sum_by-cons (but of value) key rest)

sum-none : (keys : List KeySum) → sum_by (λ (key : KeySum). 0) keys ≡ 0
sum-none [] = refl
sum-none (key ∷ rest) = sum_by-cons (λ (key : KeySum). 0) key rest ∙ ap (λ n. 0 + n) (sum-none rest)

-- a key of one value, if those of another value do not count
other-key : (t here there : Bool) (n : ℕ) → (here ≡ true → there ≡ t) → (if here then (if there then 0 else n) else 0) ≡ (if t then 0 else (if here then n else 0))
other-key true true there n same = λ i. if same refl i then 0 else n
other-key false true there n same = λ i. if same refl i then 0 else n
other-key true false there n same = refl
other-key false false there n same = refl

other-none : (t : Bool) (f : KeySum → ℕ) (keys : List KeySum) → sum_by (λ (key : KeySum). if t then 0 else f key) keys ≡ (if t then 0 else sum_by f keys)
other-none true f keys = sum-none keys
other-none false f keys = refl

at-other : (of : KeySum → ℕ) (one other : ℤ) (keys : List KeySum) → sum_by (at (but of one) other) keys ≡ (if int_eq other one then 0 else sum_by (at of other) keys)
at-other of one other keys =
    let each : (key : KeySum) → at (but of one) other key ≡ (if int_eq other one then 0 else at of other key) =
    λ key. other-key (int_eq other one) (int_eq key.value other) (int_eq key.value one) (of key) (int_eq_equiv.congr key.value other one) in
    (λ i. sum_by (λ (key : KeySum). each key i) keys) ∙ other-none (int_eq other one) (at of other) keys

same-but : (of : KeySum → ℕ) (one : ℤ) (xs ys : List KeySum) → ((value : ℤ) → sum_by (at of value) xs ≡ sum_by (at of value) ys)
    → (value : ℤ) → sum_by (at (but of one) value) xs ≡ sum_by (at (but of one) value) ys
same-but of one xs ys same value =
    at-other of one value xs ∙ ((λ i. if int_eq value one then 0 else same value i) ∙ sym (at-other of one value ys))

none-of : (ys : List KeySum) (of : KeySum → ℕ) → ((value : ℤ) → sum_by (at of value) ys ≡ 0) → sum_by of ys ≡ 0
none-of [] of none = refl
none-of (y ∷ ys) of none =
    let rest : sum_by of ys ≡ 0 = none-of ys of (λ value. omega (arith, none value, sum_by-cons (at of value) y ys)) in
    let here : at of y.value y ≡ of y = ap (λ t. if t then of y else 0) (int_eq_equiv.refl y.value) in
    omega (arith, rest, here, none y.value, sum_by-cons (at of y.value) y ys, sum_by-cons of y ys)

-- the first key no longer counts
first-gone : (of : KeySum → ℕ) (x : KeySum) → but of x.value x ≡ 0
first-gone of x = ap (λ t. if t then 0 else of x) (int_eq_equiv.refl x.value)

none-if : (t : Bool) (n : ℕ) → n ≡ 0 → (if t then n else 0) ≡ 0
none-if true n none = none
none-if false n none = refl

sums-known : (xs ys : List KeySum) (of : KeySum → ℕ) → ((value : ℤ) → sum_by (at of value) xs ≡ sum_by (at of value) ys) → sum_by of xs ≡ sum_by of ys
sums-known [] ys of same = sym (none-of ys of (λ value. sym (same value)))
sums-known (x ∷ xs) ys of same =
    let rest : sum_by (but of x.value) xs ≡ sum_by (but of x.value) ys =
    sums-known xs ys (but of x.value)
    (λ value. omega (
      arith,
      same-but of x.value (x ∷ xs) ys same value,
      sum_by-cons (at (but of x.value) value) x xs,
      none-if (int_eq x.value value) (but of x.value x) (first-gone of x),
    )) in
    omega (
      arith,
      rest,
      same x.value,
      first-gone of x,
      at-but of x.value (x ∷ xs),
      at-but of x.value ys,
      sum_by-cons (but of x.value) x xs,
    )

-- ---- the keys of parts

-- those of all parts of a name and a spec
keys_in : List ℕ → Spec → List Part → List KeySum
keys_in name spec [] = []
keys_in name spec (part ∷ rest) = (if is_of name spec part then part.keys else []) ++ keys_in name spec rest

sum-chosen : (of : KeySum → ℕ) (t : Bool) (keys : List KeySum) → sum_by of (if t then keys else []) ≡ (if t then sum_by of keys else 0)
sum-chosen of true keys = refl
sum-chosen of false keys = refl

sum-in : (of : KeySum → ℕ) (name : List ℕ) (spec : Spec) (parts : List Part)
    → sum_by of (keys_in name spec parts) ≡ sum_by (λ (part : Part). if is_of name spec part then sum_by of part.keys else 0) parts
unfolding keys_in
sum-in of name spec [] = refl
sum-in of name spec (part ∷ rest) =
    sum_by-append of (if is_of name spec part then part.keys else []) (keys_in name spec rest)
    ∙ ((λ i. sum-chosen of (is_of name spec part) part.keys i + sum-in of name spec rest i)
    ∙ sym (sum_by-cons (λ (part : Part). if is_of name spec part then sum_by of part.keys else 0) part rest))

pos-chosen : (t : Bool) (n : ℕ) → (if t then pos n else pos 0) ≡ pos (if t then n else 0)
pos-chosen true n = refl
pos-chosen false n = refl

total-units : (value : ℤ) (name : List ℕ) (spec : Spec) (parts : List Part) → total (Units value) name spec parts ≡ pos (units_at (keys_in name spec parts) value)
unfolding keys_in
total-units value name spec [] = refl
total-units value name spec (part ∷ rest) =
    let f : KeySum → ℕ = λ key. if int_eq key.value value then key.units else 0 in
    (λ i. (pos-chosen (is_of name spec part) (sum_by f part.keys) ∙ ap pos (sym (sum-chosen f (is_of name spec part) part.keys))) i +ℤ total-units value name spec rest i)
    ∙ ap pos (sym (sum_by-append f (if is_of name spec part then part.keys else []) (keys_in name spec rest)))

pos-same : (a b : ℕ) → pos a ≡ pos b → a ≡ b
pos-same a b e = cc

-- parts with the same numbers have the same units of all keys
pub units-known : (name : List ℕ) (spec : Spec) (a b : List Part) → SameNumbers a b → all_units name spec a ≡ all_units name spec b
units-known name spec a b same =
    let of : KeySum → ℕ = λ key. key.units in
    let keys : sum_by of (keys_in name spec a) ≡ sum_by of (keys_in name spec b) =
    sums-known (keys_in name spec a) (keys_in name spec b) of
    (λ value. pos-same (units_at (keys_in name spec a) value) (units_at (keys_in name spec b) value)
    (sym (total-units value name spec a) ∙ (same (Units value) name spec ∙ total-units value name spec b))) in
    sym (sum-in of name spec a) ∙ (keys ∙ sum-in of name spec b)

-- and so they do not fit together if the others do not
pub parts-moved : (a b : List Part) → SameNumbers a b → PartsDoNotFit a → PartsDoNotFit b
parts-moved a b same many = (
  many.0,
  many.1,
  ⊎_elim (λ units. inl (subst (λ n. 2 ^ 64 ≤ n) (units-known many.0 many.1 a b same) units))
      (λ some. inr (some.0, subst (TotalDoesNotFit some.0) (same some.0 many.0 many.1) some.1)) many.2,
)
