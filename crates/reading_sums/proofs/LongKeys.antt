-- Keys that do not fit together.
use Rattle.std.proofs.Common.{◌≡◌, ◌<◌, ◌≤◌, ◌^◌, ◌+◌, ◌⊎◌, ⊎_elim, inl, inr, ℕ, List, [], ◌∷◌, ◌++◌, length, drop, get_or, sum_by, if◌then◌else◌, ap, sym, ◌∙◌, arith}
use Rattle.std.specs.Ordering.{int_eq}
use Rattle.std.proofs.lemmas.Cmp.{int_eq_equiv}
use Rattle.std.proofs.lemmas.List.Sums.{sum_by-append, sum_by-cons}
use Rattle.reading_sums.specs.declared.fault.SumsFault.{SumsFault}
use Rattle.reading_sums.specs.declared.fault.SumsFault.TheVariants.{NoMemory, TooMany}
use Rattle.reading_sums.specs.declared.key.KeySum.{KeySum}
use Rattle.reading_sums.specs.Fitting.{IfTooMany, KeysDoNotFit}
use Rattle.reading_sums.specs.Keys.{SameKeys, marks_at}
use Rattle.reading_sums.specs.Whole.{units_of}
use Rattle.reading_sums.proofs.Keys.{sum-step}

-- a bound that the first elements of two lists pass, both lists pass
firsts-pass : (f : KeySum → ℕ) (x y : KeySum) (xs ys : List KeySum) (n : ℕ) → n ≤ f x + f y → n ≤ sum_by f ((x ∷ xs) ++ (y ∷ ys))
firsts-pass f x y xs ys n long =
    omega (arith, long, sum_by-append f (x ∷ xs) (y ∷ ys), sum_by-cons f x xs, sum_by-cons f y ys)

-- the keys at the front of two lists, which are of one value
pub firsts-long : (a b : List KeySum) (d : KeySum) → 0 < length a → 0 < length b → ((d : KeySum) → (get_or a 0 d).value ≡ (get_or b 0 d).value)
    → ((2 ^ 64 ≤ (get_or a 0 d).units + (get_or b 0 d).units) ⊎ (2 ^ 64 ≤ (get_or a 0 d).marks + (get_or b 0 d).marks)) → KeysDoNotFit (a ++ b)
firsts-long [] b d some more same many = absurd (omega arith)
firsts-long (x ∷ xs) [] d some more same many = absurd (omega arith)
firsts-long (x ∷ xs) (y ∷ ys) d some more same many =
    ⊎_elim
    (λ units. inl (firsts-pass (λ key. key.units) x y xs ys (2 ^ 64) units))
    (λ marks.
    let f : KeySum → ℕ = λ key. if int_eq key.value x.value then key.marks else 0 in
    let one : f x ≡ x.marks = ap (λ t. if t then x.marks else 0) (int_eq_equiv.refl x.value) in
    let other : f y ≡ y.marks = ap (λ t. if t then y.marks else 0) (ap (λ v. int_eq v x.value) (sym (same d)) ∙ int_eq_equiv.refl x.value) in
    let here : 2 ^ 64 ≤ f x + f y = omega (arith, marks, one, other) in
    inr (x.value, firsts-pass f x y xs ys (2 ^ 64) here))
    many

-- a bound that the rest passes, all pass
rest-passes : (f : KeySum → ℕ) (done rest : List KeySum) (all n : ℕ) → sum_by f (done ++ rest) ≡ all → n ≤ sum_by f rest → n ≤ all
rest-passes f done rest all n is long = omega (arith, is, long, sum_by-append f done rest)

pub rest-long : (done rest all : List KeySum) → SameKeys (done ++ rest) all → units_of (done ++ rest) ≡ units_of all → KeysDoNotFit rest → KeysDoNotFit all
rest-long done rest all same units many =
    ⊎_elim
    (λ long. inl (rest-passes (λ key. key.units) done rest (units_of all) (2 ^ 64) units long))
    (λ long. inr (long.0, rest-passes (λ key. if int_eq key.value long.0 then key.marks else 0) done rest (marks_at all long.0) (2 ^ 64) (same.marks long.0) long.1))
    many

-- the units of all, with one more key
pub units-step : (done new left right left_new right_new : List KeySum) (key : KeySum) (i j all : ℕ)
    → new ≡ done ++ key ∷ [] → left_new ≡ drop i left → right_new ≡ drop j right → units_of (done ++ (left ++ right)) ≡ all
    → units_of (key ∷ (drop i left ++ drop j right)) ≡ units_of (left ++ right) → units_of (new ++ (left_new ++ right_new)) ≡ all
units-step done new left right left_new right_new key i j all pushed cut_left cut_right before here =
    ap units_of (λ k. pushed k ++ (cut_left k ++ cut_right k))
    ∙ sum-step (λ key. key.units) done (left ++ right) (drop i left ++ drop j right) key all before here

-- what holds in any case, holds for each fault
pub if-many : (fault : SumsFault) (many : Type 0) → many → IfTooMany fault many
if-many NoMemory many is = tt
if-many TooMany many is = is
