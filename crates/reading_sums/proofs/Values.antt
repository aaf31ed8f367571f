-- The values of keys that ascend.
use Rattle.std.proofs.Common.{◌≡◌, ◌<◌, ◌^◌, Bool, true, false, ◌||◌, ℤ, List, [], ◌∷◌, ◌++◌, map, refl, ap, sym, subst, ◌∙◌}
use Rattle.std.specs.Ordering.{int_eq, int_cmp, is_eq, ordering_reverse}
use Rattle.std.specs.declared.cmp.Ordering.{Ordering}
use Rattle.std.specs.declared.cmp.Ordering.TheVariants.{Less, Equal, Greater}
use Rattle.std.specs.List.{list_any, AllByRecursion}
use Rattle.std.specs.List.Sorted.{IsStrictlySortedBy}
use Rattle.std.proofs.lemmas.Cmp.{int_cmp_total, int_eq_equiv}
use Rattle.std.proofs.lemmas.Bool.Decides.{Decides-int_eq}
use Rattle.std.proofs.lemmas.List.Folds.{list_any-append}
use Rattle.bucket_ranges.specs.declared.spec.Spec.{Spec}
use Rattle.bucket_ranges.specs.declared.spec.Spec.TheVariants.{Linear, Boolean, Custom, Sparse}
use Rattle.reading_sums.specs.declared.key.KeySum.{KeySum}
use Rattle.reading_sums.specs.Keys.{SameKeys, has_key}
use Rattle.reading_sums.specs.Orders.{key_cmp}
use Rattle.reading_sums.specs.Whole.{IsWholeList, AreBuckets, values_of, units_of}

or-false : (a b : Bool) → a ≡ false → b ≡ false → (a || b) ≡ false
or-false a b first second = (λ i. first i || second i)

or-twice : (a : Bool) → (a || a) ≡ a
or-twice true = refl
or-twice false = refl

-- an order that is not equal is no equality
not-equal : (x y : ℤ) (o : Ordering) → int_cmp x y ≡ o → is_eq o ≡ false → int_eq x y ≡ false
not-equal x y o is unequal = ap is_eq is ∙ unequal

-- a value below all keys is not one of them
below-none : (x : KeySum) (zs : List KeySum) → AllByRecursion (λ z. key_cmp x z ≡ Less) zs → has_key zs x.value ≡ false
below-none x [] below = refl
below-none x (z ∷ zs) below =
    or-false (int_eq z.value x.value) (has_key zs x.value)
    (int_eq_equiv.symm z.value x.value ∙ not-equal x.value z.value Less below.0 refl) (below-none x zs below.1)

below-all : (x y : KeySum) (zs : List KeySum) → key_cmp x y ≡ Less → AllByRecursion (λ z. key_cmp y z ≡ Less) zs
    → AllByRecursion (λ z. key_cmp x z ≡ Less) zs
below-all x y [] here below = tt
below-all x y (z ∷ zs) here below = (int_cmp_total.trans x.value y.value z.value here below.0, below-all x y zs here below.1)

has-first : (x : KeySum) (xs : List KeySum) → has_key (x ∷ xs) x.value ≡ true
has-first x xs = ap (λ b. b || has_key xs x.value) (int_eq_equiv.refl x.value)

false-true : false ≡ true → {X : Type 0} → X
false-true e = absurd (cc)

not-less : (x y : KeySum) (xs ys : List KeySum) → key_cmp x y ≡ Less → AllByRecursion (λ z. key_cmp y z ≡ Less) ys
    → has_key (x ∷ xs) x.value ≡ has_key (y ∷ ys) x.value → false ≡ true
not-less x y xs ys less above same =
    sym (below-none x (y ∷ ys) (less, below-all x y ys less above)) ∙ (sym same ∙ has-first x xs)

-- after a key with which two lists begin
rest-same : (v : ℤ) (x y : KeySum) (xs ys : List KeySum) (b : Bool) → int_eq x.value v ≡ b → x.value ≡ y.value
    → AllByRecursion (λ z. key_cmp x z ≡ Less) xs → AllByRecursion (λ z. key_cmp y z ≡ Less) ys
    → has_key (x ∷ xs) v ≡ has_key (y ∷ ys) v → has_key xs v ≡ has_key ys v
rest-same v x y xs ys true is equal first second same =
    let here : x.value ≡ v = (Decides-int_eq x.value v).0 is in
    let one : has_key xs v ≡ false = sym (ap (has_key xs) here) ∙ below-none x xs first in
    let other : has_key ys v ≡ false = sym (ap (has_key ys) (sym equal ∙ here)) ∙ below-none y ys second in
    one ∙ sym other
rest-same v x y xs ys false is equal first second same =
    sym (ap (λ b. b || has_key xs v) is) ∙ (same ∙ ap (λ b. b || has_key ys v) (ap (λ u. int_eq u v) (sym equal) ∙ is))

same-heads : (o : Ordering) (x y : KeySum) (xs ys : List KeySum) → int_cmp x.value y.value ≡ o
    → AllByRecursion (λ z. key_cmp x z ≡ Less) xs → AllByRecursion (λ z. key_cmp y z ≡ Less) ys
    → ((v : ℤ) → has_key (x ∷ xs) v ≡ has_key (y ∷ ys) v) → (x.value ≡ y.value → values_of xs ≡ values_of ys)
    → values_of (x ∷ xs) ≡ values_of (y ∷ ys)
same-heads Less x y xs ys is first second same rest = false-true (not-less x y xs ys is second (same x.value))
same-heads Greater x y xs ys is first second same rest =
    false-true (not-less y x ys xs (int_cmp_total.antisymm y.value x.value ∙ ap ordering_reverse is) first (sym (same y.value)))
same-heads Equal x y xs ys is first second same rest =
    let equal : x.value ≡ y.value = (Decides-int_eq x.value y.value).0 (ap is_eq is) in λ i. equal i ∷ rest equal i

pub same-values : (xs ys : List KeySum) → IsStrictlySortedBy key_cmp xs → IsStrictlySortedBy key_cmp ys
    → ((v : ℤ) → has_key xs v ≡ has_key ys v) → values_of xs ≡ values_of ys
unfolding IsStrictlySortedBy
same-values [] [] first second same = refl
same-values [] (y ∷ ys) first second same = false-true (same y.value ∙ has-first y ys)
same-values (x ∷ xs) [] first second same = false-true (sym (same x.value) ∙ has-first x xs)
same-values (x ∷ xs) (y ∷ ys) first second same =
    same-heads (int_cmp x.value y.value) x y xs ys refl first.0 second.0 same
    (λ equal. same-values xs ys first.1 second.1 (λ v. rest-same v x y xs ys (int_eq x.value v) refl equal first.0 second.0 (same v)))

any-map : {X Y : Type 0} (f : X → Y) (p : Y → Bool) (xs : List X) → list_any p (map f xs) ≡ list_any (λ x. p (f x)) xs
any-map f p [] = refl
any-map f p (x ∷ xs) = ap (λ b. p (f x) || b) (any-map f p xs)

-- keys of two lists that have the same values
keys-both : (a b both : List KeySum) → values_of a ≡ values_of b → IsStrictlySortedBy key_cmp a → IsStrictlySortedBy key_cmp both
    → SameKeys both (a ++ b) → values_of both ≡ values_of a
keys-both a b both same first ascending keys =
    same-values both a ascending first (λ v.
    let equal : has_key b v ≡ has_key a v =
    sym (any-map (λ (key : KeySum). key.value) (λ u. int_eq u v) b) ∙ (ap (list_any (λ u. int_eq u v)) (sym same)
    ∙ any-map (λ (key : KeySum). key.value) (λ u. int_eq u v) a) in
    keys.values v ∙ (list_any-append (λ key. int_eq key.value v) a b ∙ (ap (λ t. has_key a v || t) equal ∙ or-twice (has_key a v))))

buckets-both : (spec : Spec) (a b both : List KeySum) → AreBuckets spec a → AreBuckets spec b → IsStrictlySortedBy key_cmp a
    → IsStrictlySortedBy key_cmp both → SameKeys both (a ++ b) → AreBuckets spec both
buckets-both (Linear min max n) a b both first second one all keys = keys-both a b both (first ∙ sym second) one all keys ∙ first
buckets-both Boolean a b both first second one all keys = keys-both a b both (first ∙ sym second) one all keys ∙ first
buckets-both (Custom values) a b both first second one all keys = keys-both a b both (first ∙ sym second) one all keys ∙ first
buckets-both Sparse a b both first second one all keys = tt

pub whole-both : (spec other : Spec) (a b both : List KeySum) → spec ≡ other → IsWholeList spec a → IsWholeList other b → SameKeys both (a ++ b)
    → IsStrictlySortedBy key_cmp both → units_of both < 2 ^ 64 → IsWholeList spec both
whole-both spec other a b both specs first second keys ascending small =
    let P : Spec → Type 0 = λ s. AreBuckets s b in record {
      lawful = first.lawful;
      form = first.form;
      ascending = ascending;
      buckets = buckets-both spec a b both first.buckets (subst P (sym specs) second.buckets) first.ascending ascending keys;
      small = small;
    }
