-- Parts that have the same in everything are equal.
use Rattle.std.proofs.Common.{◌≡◌, Bool, true, false, ◌&&◌, ◌||◌, nat_le, if◌then◌else◌, ℕ, ◌+◌, ℤ, pos, ◌+ℤ◌, List, [], ◌∷◌, sum_by, refl, ap, sym, ◌∙◌, arith}
use Rattle.std.specs.Ordering.{int_eq, is_eq}
use Rattle.std.specs.List.{AllByRecursion}
use Rattle.std.specs.List.Sorted.{IsStrictlySortedBy}
use Rattle.std.specs.declared.cmp.Ordering.TheVariants.{Less}
use Rattle.std.proofs.lemmas.Bool.Decides.{nat_tests}
use Rattle.std.proofs.lemmas.Cmp.{int_eq_equiv}
use Rattle.std.proofs.lemmas.Int.{ints}
use Rattle.std.proofs.lemmas.List.Sums.{sum_by-cons}
use Rattle.std.proofs.Math.IntN.{+ℤ_idl, +ℤ_idr}
use Rattle.bucket_ranges.specs.declared.spec.Spec.{Spec}
use Rattle.reading_sums.specs.declared.key.KeySum.{KeySum}
use Rattle.reading_sums.specs.Keys.{units_at, marks_at}
use Rattle.reading_sums.specs.Orders.{key_cmp}
use Rattle.reading_sums.specs.Totals.{Part, Quantity, Feature, SameTotals, quantity_of, share_of, total, has_feature, is_of, is_had}
use Rattle.reading_sums.specs.Totals.Quantity.{Units, Marks, Amounts, AmountMarks, Redundant, Images}
use Rattle.reading_sums.specs.Totals.Feature.{HasKey, IsUpTo}
use Rattle.reading_sums.specs.Whole.{values_of}
use Rattle.reading_sums.proofs.SameSpecs.{IsPartOf, is_of-true, is_of-itself, is_of-moved}
use Rattle.reading_sums.proofs.Values.{same-values}

-- ---- keys

-- a number of the keys of one value
abbrev at_value : (KeySum → ℕ) → List KeySum → ℤ → ℕ
at_value of keys value = sum_by (λ key. if int_eq key.value value then of key else 0) keys

at-none : (of : KeySum → ℕ) (x : KeySum) (zs : List KeySum) → AllByRecursion (λ z. key_cmp x z ≡ Less) zs → at_value of zs x.value ≡ 0
at-none of x [] below = refl
at-none of x (z ∷ zs) below =
    let other : int_eq z.value x.value ≡ false = int_eq_equiv.symm z.value x.value ∙ ap is_eq below.0 in
    sum_by-cons (λ key. if int_eq key.value x.value then of key else 0) z zs
    ∙ (λ i. (if other i then of z else 0) + at-none of x zs below.1 i)

at-first : (of : KeySum → ℕ) (x : KeySum) (xs : List KeySum) → AllByRecursion (λ z. key_cmp x z ≡ Less) xs → at_value of (x ∷ xs) x.value ≡ of x
at-first of x xs below =
    let here : at_value of (x ∷ xs) x.value ≡ of x + 0 =
    sum_by-cons (λ key. if int_eq key.value x.value then of key else 0) x xs
    ∙ (λ i. (if int_eq_equiv.refl x.value i then of x else 0) + at-none of x xs below i) in omega (arith, here)

cancel-left : (s a b : ℕ) → s + a ≡ s + b → a ≡ b
cancel-left s a b e = omega (arith, e)

at-rest : (of : KeySum → ℕ) (x y : KeySum) (xs ys : List KeySum) (v : ℤ) → x.value ≡ y.value → of x ≡ of y
    → at_value of (x ∷ xs) v ≡ at_value of (y ∷ ys) v → at_value of xs v ≡ at_value of ys v
at-rest of x y xs ys v values numbers same =
    let f : KeySum → ℕ = λ key. if int_eq key.value v then of key else 0 in
    let first : f x ≡ f y = λ i. if int_eq (values i) v then numbers i else 0 in
    cancel-left (f x) (sum_by f xs) (sum_by f ys)
    (sym (sum_by-cons f x xs) ∙ (same ∙ (sum_by-cons f y ys ∙ ap (λ n. n + sum_by f ys) (sym first))))

same-numbers : (of : KeySum → ℕ) (x y : KeySum) (xs ys : List KeySum) → x.value ≡ y.value → AllByRecursion (λ z. key_cmp x z ≡ Less) xs
    → AllByRecursion (λ z. key_cmp y z ≡ Less) ys → at_value of (x ∷ xs) x.value ≡ at_value of (y ∷ ys) x.value → of x ≡ of y
same-numbers of x y xs ys values first second same =
    sym (at-first of x xs first) ∙ (same ∙ (ap (at_value of (y ∷ ys)) values ∙ at-first of y ys second))

-- keys that ascend, with the same units and the same marks of each value, are equal
equal-keys : (xs ys : List KeySum) → values_of xs ≡ values_of ys → IsStrictlySortedBy key_cmp xs → IsStrictlySortedBy key_cmp ys
    → ((v : ℤ) → units_at xs v ≡ units_at ys v) → ((v : ℤ) → marks_at xs v ≡ marks_at ys v) → xs ≡ ys
unfolding IsStrictlySortedBy
equal-keys [] [] values first second units marks = refl
equal-keys [] (y ∷ ys) values first second units marks = absurd (cc)
equal-keys (x ∷ xs) [] values first second units marks = absurd (cc)
equal-keys (x ∷ xs) (y ∷ ys) values first second units marks =
    let here : x.value ≡ y.value = cc in
    let there : values_of xs ≡ values_of ys = cc in
    let one : x.units ≡ y.units = same-numbers (λ key. key.units) x y xs ys here first.0 second.0 (units x.value) in
    let two : x.marks ≡ y.marks = same-numbers (λ key. key.marks) x y xs ys here first.0 second.0 (marks x.value) in
    let head : x ≡ y = λ i. record { value = here i; units = one i; marks = two i } in
    let rest : xs ≡ ys = equal-keys xs ys there first.1 second.1
    (λ v. at-rest (λ key. key.units) x y xs ys v here one (units v)) (λ v. at-rest (λ key. key.marks) x y xs ys v here two (marks v)) in
    λ i. head i ∷ rest i

-- ---- parts

pos-same : (a b : ℕ) → pos a ≡ pos b → a ≡ b
pos-same a b e = cc

-- numbers that are up to the same numbers
up-to-same : (a b : ℕ) → ((n : ℕ) → nat_le a n ≡ nat_le b n) → a ≡ b
up-to-same a b same = let one = same a in let other = same b in grind (arith, nat_tests, one, other)

equal-parts : (a b : Part) → a.name ≡ b.name → a.spec ≡ b.spec → IsStrictlySortedBy key_cmp a.keys → IsStrictlySortedBy key_cmp b.keys
    → ((quantity : Quantity) → quantity_of quantity a ≡ quantity_of quantity b) → ((feature : Feature) → has_feature feature a ≡ has_feature feature b) → a ≡ b
equal-parts a b names specs first second quantities features =
    let keys : a.keys ≡ b.keys = equal-keys a.keys b.keys
    (same-values a.keys b.keys first second (λ v. features (HasKey v))) first second
    (λ v. pos-same (units_at a.keys v) (units_at b.keys v) (quantities (Units v))) (λ v. pos-same (marks_at a.keys v) (marks_at b.keys v) (quantities (Marks v))) in
    let sum : a.sum ≡ b.sum = quantities Amounts in
    let sum_mark : a.sum_mark ≡ b.sum_mark = quantities AmountMarks in
    let redundant : a.redundant ≡ b.redundant = pos-same a.redundant b.redundant (quantities Redundant) in
    let images : a.images ≡ b.images = pos-same a.images b.images (quantities Images) in
    let least : a.least ≡ b.least = up-to-same a.least b.least (λ n. features (IsUpTo n)) in
    λ i. record {
      name = names i;
      spec = specs i;
      keys = keys i;
      sum = sum i;
      sum_mark = sum_mark i;
      redundant = redundant i;
      images = images i;
      least = least i;
    }

-- ---- lists of parts with no other part of the name and spec of the first

abbrev pub NoneOf : List ℕ → Spec → List Part → Type 0
NoneOf name spec parts = AllByRecursion (λ part. is_of name spec part ≡ false) parts

pub total-none : (quantity : Quantity) (name : List ℕ) (spec : Spec) (parts : List Part) → NoneOf name spec parts → total quantity name spec parts ≡ pos 0
total-none quantity name spec [] none = refl
total-none quantity name spec (part ∷ rest) none =
    (λ i. (if none.0 i then quantity_of quantity part else pos 0) +ℤ total-none quantity name spec rest none.1 i) ∙ +ℤ_idl (pos 0)

pub had-none : (feature : Feature) (name : List ℕ) (spec : Spec) (parts : List Part) → NoneOf name spec parts → is_had feature name spec parts ≡ false
had-none feature name spec [] none = refl
had-none feature name spec (part ∷ rest) none = λ i. (none.0 i && has_feature feature part) || had-none feature name spec rest none.1 i

-- of the first part's name and spec such a list has what that has
pub total-first : (quantity : Quantity) (part : Part) (rest : List Part) → NoneOf part.name part.spec rest
    → total quantity part.name part.spec (part ∷ rest) ≡ quantity_of quantity part
total-first quantity part rest none =
    (λ i. (if is_of-itself part i then quantity_of quantity part else pos 0) +ℤ total-none quantity part.name part.spec rest none i)
    ∙ +ℤ_idr (quantity_of quantity part)

or-none : (a : Bool) → (a || false) ≡ a
or-none true = refl
or-none false = refl

had-first : (feature : Feature) (part : Part) (rest : List Part) → NoneOf part.name part.spec rest
    → is_had feature part.name part.spec (part ∷ rest) ≡ has_feature feature part
had-first feature part rest none =
    (λ i. (is_of-itself part i && has_feature feature part) || had-none feature part.name part.spec rest none i)
    ∙ or-none (has_feature feature part)

-- two such lists with the same totals begin with the same part, if their first parts are of one name and one spec
pub first-same : (a b : Part) (xs ys : List Part) → a.name ≡ b.name → a.spec ≡ b.spec → IsStrictlySortedBy key_cmp a.keys → IsStrictlySortedBy key_cmp b.keys
    → NoneOf a.name a.spec xs → NoneOf b.name b.spec ys → SameTotals (a ∷ xs) (b ∷ ys) → a ≡ b
first-same a b xs ys names specs first second none no_other same =
    equal-parts a b names specs first second
    (λ quantity. sym (total-first quantity a xs none) ∙ (same.totals quantity a.name a.spec
    ∙ ((λ i. total quantity (names i) (specs i) (b ∷ ys)) ∙ total-first quantity b ys no_other)))
    (λ feature. sym (had-first feature a xs none) ∙ (same.features feature a.name a.spec
    ∙ ((λ i. is_had feature (names i) (specs i) (b ∷ ys)) ∙ had-first feature b ys no_other)))

cancel-first : (s t u : ℤ) → s +ℤ t ≡ s +ℤ u → t ≡ u
cancel-first s t u e = omega (arith, ints, e)

none-moved : (name : List ℕ) (spec : Spec) (part : Part) (parts : List Part) → IsPartOf name spec part → NoneOf part.name part.spec parts → NoneOf name spec parts
none-moved name spec part [] is none = tt
none-moved name spec part (other ∷ rest) is none = (is_of-moved name spec part other is ∙ none.0, none-moved name spec part rest is none.1)

rest-had : (feature : Feature) (name : List ℕ) (spec : Spec) (part : Part) (xs ys : List Part) (t : Bool) → is_of name spec part ≡ t
    → NoneOf part.name part.spec xs → NoneOf part.name part.spec ys
    → is_had feature name spec (part ∷ xs) ≡ is_had feature name spec (part ∷ ys) → is_had feature name spec xs ≡ is_had feature name spec ys
rest-had feature name spec part xs ys true is none no_other same =
    let here = is_of-true name spec part is in
    had-none feature name spec xs (none-moved name spec part xs here none) ∙ sym (had-none feature name spec ys (none-moved name spec part ys here no_other))
rest-had feature name spec part xs ys false is none no_other same =
    let without : (rest : List Part) → is_had feature name spec (part ∷ rest) ≡ is_had feature name spec rest =
    λ rest. ap (λ t. (t && has_feature feature part) || is_had feature name spec rest) is in
    sym (without xs) ∙ (same ∙ without ys)

-- after the part with which both begin they have the same totals
pub rest-same : (part : Part) (xs ys : List Part) → NoneOf part.name part.spec xs → NoneOf part.name part.spec ys → SameTotals (part ∷ xs) (part ∷ ys) → SameTotals xs ys
rest-same part xs ys none no_other same = record {
  totals = λ quantity name spec.
      cancel-first (share_of quantity name spec part) (total quantity name spec xs) (total quantity name spec ys) (same.totals quantity name spec);
  features = λ feature name spec.
      rest-had feature name spec part xs ys (is_of name spec part) refl none no_other (same.features feature name spec);
}
