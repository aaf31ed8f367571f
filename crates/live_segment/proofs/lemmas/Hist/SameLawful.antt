-- A spec that is the same as a valid one is valid, except for the number of its values.
use Rattle.std.proofs.Common.{◌≡◌, Bool, true, false, not, nat_lt, ℕ, ◌+◌, ◌*◌, ◌<◌, ◌≤◌, ◌⊎◌, List, [], ◌∷◌, length, inl, inr, ap, sym, subst, refl, ◌∙◌, arith}
use Rattle.std.specs.Prelude.{None, ◌||◌, slice_index}
use Rattle.std.specs.List.{list_any}
use Rattle.std.proofs.lemmas.Bool.{cases_lt, lt-ltb, le-ltb}
use Rattle.std.proofs.lemmas.List.Elements.{All-contains}
use Rattle.segment_image.specs.Checks.{first_fault}
use Rattle.bucket_ranges.specs.declared.spec.Spec.{Spec}
use Rattle.bucket_ranges.specs.declared.spec.Spec.TheVariants as spec
use Rattle.bucket_ranges.specs.declared.spec.SpecFault.TheVariants.{TooMany, BadRange, Empty}
use Rattle.bucket_ranges.specs.Reading.{name_words}
use Rattle.bucket_ranges.specs.Spec.{buckets_of, distinct_values, spec_fault, spec_fields, spec_ranges, IsCustom, SameSpec}
use Rattle.bucket_ranges.proofs.Customs.{is_custom-from_checks, some_distinct}
use Rattle.bucket_ranges.proofs.Distinct.{Member, contains-from, distinct-member, member-distinct}
use Rattle.segment_invariant.proofs.Consistency.Keys.{same_buckets}
use Rattle.segment_calls.specs.Asked.{IsTooLarge}

-- three checks that none fails
no_fault : (a b c : Bool) → a ≡ false → b ≡ false → c ≡ true → first_fault ((a, TooMany) ∷ (b, BadRange) ∷ (not c, Empty) ∷ []) ≡ None
no_fault false false true x y z = refl
no_fault true b c x y z = absurd (cc)
no_fault false true c x y z = absurd (cc)
no_fault false false false x y z = absurd (cc)

-- a value that passes a test
any_member : (test : ℕ → Bool) (values : List ℕ) (y : ℕ) → Member y values → test y ≡ true → list_any test values ≡ true
any_member test [] y m is = absurd m
any_member test (x ∷ xs) y (inl same) is = ap (λ (b : Bool). b || list_any test xs) (ap test (sym same) ∙ is)
any_member test (x ∷ xs) y (inr later) is = either (test x) (any_member test xs y later is)
  where
    either : (b : Bool) → list_any test xs ≡ true → (b || list_any test xs) ≡ true
    either true rest = refl
    either false rest = rest

-- none passes one that each of them fails
none_member : (test : ℕ → Bool) (values : List ℕ) → ((y : ℕ) → Member y values → test y ≡ false) → list_any test values ≡ false
none_member test [] fail = refl
none_member test (x ∷ xs) fail = (λ i. fail x (inl refl) i || none_member test xs (λ y m. fail y (inr m)) i)

-- the values of a spec that has the same ones above 0
custom_same : (a b : List ℕ) → spec_fault (spec.Custom a) ≡ None → distinct_values a ≡ distinct_values b → length b ≤ 999 → spec_fault (spec.Custom b) ≡ None
custom_same a b lawful same few =
    let custom = is_custom-from_checks a lawful in
    let one = first_of (distinct_values b) (subst (λ (l : List ℕ). 0 < length l) same (some_distinct a custom)) in
    let given = distinct-member b one.0 one.1 in
    no_fault (nat_lt 999 (length b)) (list_any (λ value. nat_lt 2147483646 value) b) (list_any (λ value. nat_lt 0 value) b)
    (le-ltb 999 (length b) few)
    (none_member (λ value. nat_lt 2147483646 value) b (λ y m. le-ltb 2147483646 y (below custom y m)))
    (any_member (λ value. nat_lt 0 value) b one.0 given.0 (lt-ltb 0 one.0 given.1))
  where
    first_of : (l : List ℕ) → 0 < length l → (y : ℕ) × Member y l
    first_of [] some = absurd (omega (arith, some))
    first_of (x ∷ xs) some = (x, inl refl)

    below : IsCustom a → (y : ℕ) → Member y b → y ≤ 2147483646
    below custom y m = elim (cases_lt 0 y) [
      | inl above ↦ All-contains (λ value. value ≤ 2147483646) a y custom.below
          (contains-from a y (distinct-member a y (subst (λ (l : List ℕ). Member y l) (sym same) (member-distinct b y m above))).0)
      | inr none ↦ omega (arith, none)
    ]

-- a spec that has the kind, the minimum, the maximum and the number of buckets of another linear one
linear_same : (min max n low high m : ℕ) → spec_fault (spec.Linear min max n) ≡ None → SameSpec (spec.Linear min max n) (spec.Linear low high m)
    → spec_fault (spec.Linear low high m) ≡ None
linear_same min max n low high m lawful same =
    let field : (i : ℕ) → slice_index (spec_fields (spec.Linear min max n)) i ≡ slice_index (spec_fields (spec.Linear low high m)) i =
    λ i. ap (λ (l : List ℕ). slice_index l i) same.0 in
    subst (λ (k : ℕ). spec_fault (spec.Linear low high k) ≡ None) (field 3)
    (subst (λ (k : ℕ). spec_fault (spec.Linear low k n) ≡ None) (field 2)
    (subst (λ (k : ℕ). spec_fault (spec.Linear k max n) ≡ None) (field 1) lawful))

-- the same spec as a valid one
pub same_lawful : (a b : Spec) → spec_fault a ≡ None → SameSpec a b → ((values : List ℕ) → b ≡ spec.Custom values → length values ≤ 999)
    → spec_fault b ≡ None
same_lawful a spec.Boolean lawful same few = refl
same_lawful a spec.Sparse lawful same few = refl
same_lawful (spec.Custom values) (spec.Custom others) lawful same few = custom_same values others lawful same.1 (few others refl)
same_lawful (spec.Linear min max n) (spec.Linear low high m) lawful same few = linear_same min max n low high m lawful same
same_lawful (spec.Linear min max n) (spec.Custom others) lawful same few = let e = ap (λ (l : List ℕ). slice_index l 0) same.0 in absurd (omega (arith, e))
same_lawful spec.Boolean (spec.Custom others) lawful same few = let e = ap (λ (l : List ℕ). slice_index l 0) same.0 in absurd (omega (arith, e))
same_lawful spec.Sparse (spec.Custom others) lawful same few = let e = ap (λ (l : List ℕ). slice_index l 0) same.0 in absurd (omega (arith, e))
same_lawful spec.Boolean (spec.Linear low high m) lawful same few = let e = ap (λ (l : List ℕ). slice_index l 0) same.0 in absurd (omega (arith, e))
same_lawful spec.Sparse (spec.Linear low high m) lawful same few = let e = ap (λ (l : List ℕ). slice_index l 0) same.0 in absurd (omega (arith, e))
same_lawful (spec.Custom values) (spec.Linear low high m) lawful same few = let e = ap (λ (l : List ℕ). slice_index l 0) same.0 in absurd (omega (arith, e))

-- the values of a custom spec, of which there are few
pub few_of : (kind : Spec) (given : List ℕ) → kind ≡ spec.Custom given → length given ≤ 999 → (values : List ℕ) → kind ≡ spec.Custom values → length values ≤ 999
few_of kind given is few values also = subst (λ (l : List ℕ). length l ≤ 999) (ap values_of (sym is ∙ also)) few
  where
    values_of : Spec → List ℕ
    values_of (spec.Custom values) = values
    values_of _ = []

-- what is too large for a page stays so
pub same_small : (page : ℕ) (name : List ℕ) (a b : Spec) → SameSpec a b → ¬ (IsTooLarge page name a) → ¬ (IsTooLarge page name b)
same_small page name a b same small large =
    small (subst (λ (n : ℕ). (page < 15 + (name_words (length name) + length (spec_ranges a))) ⊎ (page < 4 + 2 * n)) (sym (same_buckets a b same))
    (subst (λ (l : List ℕ). (page < 15 + (name_words (length name) + length l)) ⊎ (page < 4 + 2 * buckets_of b)) (sym same.1) large))
