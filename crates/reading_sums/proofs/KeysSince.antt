-- What keys have more than earlier ones.
use Rattle.std.proofs.Common.{◌≡◌, ◌≢◌, ◌<◌, ◌≤◌, Bool, ℕ, ◌+◌, ℤ, ◌<ℤ◌, true, false, if◌then◌else◌, List, [], ◌∷◌, ◌++◌, ⊎_elim, inl, inr, length, take, drop, get_or, sum_by, subst, refl, ap, sym, ◌∙◌, arith}
use Rattle.std.specs.Ordering.{int_eq, int_cmp, is_eq}
use Rattle.std.specs.declared.cmp.Ordering.TheVariants.{Less}
use Rattle.std.specs.List.{AllByRecursion}
use Rattle.std.specs.List.Sorted.{IsStrictlySortedBy}
use Rattle.std.proofs.lemmas.Cmp.{int_cmp_total, int_eq_equiv, tied_itself}
use Rattle.std.proofs.lemmas.List.Sums.{sum_by-cons, sum_by-append, sum_by-take-drop, sum_by_more, sum_by_more_le}
use Rattle.std.proofs.lemmas.List.{map-append, take-append-drop}
use Rattle.std.proofs.Math.Seq.{take-add}
use Rattle.reading_sums.specs.declared.key.KeySum.{KeySum}
use Rattle.reading_sums.specs.Orders.{key_cmp}
use Rattle.reading_sums.specs.Keys.{units_at, marks_at}
use Rattle.reading_sums.specs.Since.{AreKeysSince, HasKeyFallen, GoesOnAscending}
use Rattle.reading_sums.proofs.Ascending.{all-above}
use Rattle.reading_sums.proofs.KeyOrder.{key-total, int-less}
use Rattle.reading_sums.proofs.Walk.{taken-later, taken-both, rest-ascends, before-below, behind-above}

-- what the keys of one value have together, in units or in marks
abbrev pub at : (KeySum → ℕ) → List KeySum → ℤ → ℕ
at f keys value = sum_by (λ (key : KeySum). if int_eq key.value value then f key else 0) keys

at-cons : (f : KeySum → ℕ) (x : KeySum) (xs : List KeySum) (v : ℤ) → at f (x ∷ xs) v ≡ (if int_eq x.value v then f x else 0) + at f xs v
at-cons f x xs v = sum_by-cons (λ (key : KeySum). if int_eq key.value v then f key else 0) x xs

at-other : (f : KeySum → ℕ) (x : KeySum) (xs : List KeySum) (v : ℤ) → int_eq x.value v ≡ false → at f xs v ≡ 0 → at f (x ∷ xs) v ≡ 0
at-other f x xs v unlike none =
    let here : (if int_eq x.value v then f x else 0) ≡ 0 = ap (λ b. if b then f x else 0) unlike in
    omega (arith, at-cons f x xs v)

-- there is nothing of a value that is above all of them
at-before : (f : KeySum → ℕ) (xs : List KeySum) (e : KeySum) → AllByRecursion (λ z. key_cmp z e ≡ Less) xs → at f xs e.value ≡ 0
at-before f [] e below = refl
at-before f (x ∷ xs) e below = at-other f x xs e.value (ap is_eq below.0) (at-before f xs e below.1)

-- and nothing of one that is below all of them
at-behind : (f : KeySum → ℕ) (xs : List KeySum) (e : KeySum) → AllByRecursion (λ z. key_cmp e z ≡ Less) xs → at f xs e.value ≡ 0
at-behind f [] e above = refl
at-behind f (x ∷ xs) e above =
    at-other f x xs e.value (int_eq_equiv.symm x.value e.value ∙ ap is_eq above.0) (at-behind f xs e above.1)

at-first : (f : KeySum → ℕ) (x : KeySum) (xs : List KeySum) (v : ℤ) → x.value ≡ v → at f (x ∷ xs) v ≡ f x + at f xs v
at-first f x xs v same =
    let equal : int_eq x.value v ≡ true = ap (λ u. int_eq x.value u) (sym same) ∙ int_eq_equiv.refl x.value in
    at-cons f x xs v ∙ ap (λ b. (if b then f x else 0) + at f xs v) equal

at-append : (f : KeySum → ℕ) (xs ys : List KeySum) (v : ℤ) → at f (xs ++ ys) v ≡ at f xs v + at f ys v
at-append f xs ys v = sum_by-append (λ (key : KeySum). if int_eq key.value v then f key else 0) xs ys

-- all keys of a list are above what is below the first
above-first : (e : KeySum) (a : List KeySum) → IsStrictlySortedBy key_cmp a → ((d : KeySum) → 0 < length a → e.value <ℤ (get_or a 0 d).value)
    → AllByRecursion (λ z. key_cmp e z ≡ Less) a
unfolding IsStrictlySortedBy
above-first e [] up below = tt
above-first e (x ∷ xs) up below =
    let here = int-less e.value x.value (below x (omega arith)) in (here, all-above key-total e x xs here up.0)

-- ---- what fell

-- an earlier key that has no later one
pub alone-fallen : (f : KeySum → ℕ) (done a b : List KeySum) (d0 : KeySum) → 0 < length b
    → ((d : KeySum) → 0 < length a → (get_or b 0 d).value <ℤ (get_or a 0 d).value)
    → IsStrictlySortedBy key_cmp (done ++ a) → IsStrictlySortedBy key_cmp (done ++ b) → f (get_or b 0 d0) ≢ 0
    → at f (done ++ a) (get_or b 0 d0).value < at f b (get_or b 0 d0).value
alone-fallen f done a [] d0 some below first second counted = absurd (omega arith)
alone-fallen f done a (e ∷ es) d0 some below first second counted =
    let before = at-before f done e (before-below key_cmp done e es second) in
    let behind = at-behind f a e (above-first e a (rest-ascends key_cmp done a first) (λ d more. below d more)) in
    omega (arith, at-append f done a e.value, at-first f e es e.value refl, before, behind)

-- an earlier key that has a later one
pub pair-fallen : (f : KeySum → ℕ) (done a b : List KeySum) (d0 d1 : KeySum) → 0 < length a → 0 < length b
    → ((d : KeySum) → (get_or a 0 d).value ≡ (get_or b 0 d).value)
    → IsStrictlySortedBy key_cmp (done ++ a) → IsStrictlySortedBy key_cmp (done ++ b) → f (get_or a 0 d0) < f (get_or b 0 d1)
    → at f (done ++ a) (get_or b 0 d1).value < at f b (get_or b 0 d1).value
pair-fallen f done [] b d0 d1 some more same first second less = absurd (omega arith)
pair-fallen f done (x ∷ xs) [] d0 d1 some more same first second less = absurd (omega arith)
pair-fallen f done (x ∷ xs) (e ∷ es) d0 d1 some more same first second less =
    let before = at-before f done e (before-below key_cmp done e es second) in
    let behind : at f xs e.value ≡ 0 = ap (at f xs) (sym (same e)) ∙ at-behind f xs x (behind-above key_cmp done x xs first) in
    omega (arith, at-append f done (x ∷ xs) e.value, at-first f x xs e.value (same e), at-first f e es e.value refl, before, behind)

-- ---- what is taken

pub later-key : (a b : List KeySum) → 0 < length a → ((d : KeySum) → 0 < length b → (get_or a 0 d).value <ℤ (get_or b 0 d).value)
    → GoesOnAscending key_cmp 1 0 a b
later-key a b some below = taken-later key-total a b some (λ d more. int-less (get_or a 0 d).value (get_or b 0 d).value (below d more))

pub both-keys : (a b : List KeySum) → 0 < length a → 0 < length b → ((d : KeySum) → (get_or a 0 d).value ≡ (get_or b 0 d).value)
    → GoesOnAscending key_cmp 1 1 a b
both-keys a b some more same =
    taken-both key-total a b some more (λ d. ap (λ v. int_cmp v (get_or b 0 d).value) (same d) ∙ tied_itself int_cmp_total (get_or b 0 d).value)

-- ---- the walk

since-append : (a b c more_a more_b more_c : List KeySum) → AreKeysSince a b c → AreKeysSince more_a more_b more_c
    → AreKeysSince (a ++ more_a) (b ++ more_b) (c ++ more_c)
since-append a b c more_a more_b more_c first second = record {
  values = map-append (λ (key : KeySum). key.value) c more_c ∙ ((λ i. first.values i ++ second.values i) ∙ sym (map-append (λ (key : KeySum). key.value) a more_a));
  units = λ value.
      omega (
        arith,
        at-append (λ key. key.units) a more_a value,
        at-append (λ key. key.units) b more_b value,
        at-append (λ key. key.units) c more_c value,
        first.units value,
        second.units value,
      );
  marks = λ value.
      omega (
        arith,
        at-append (λ key. key.marks) a more_a value,
        at-append (λ key. key.marks) b more_b value,
        at-append (λ key. key.marks) c more_c value,
        first.marks value,
        second.marks value,
      );
  fewer = omega (arith, sum_by-append (λ (key : KeySum). key.units) a more_a, sum_by-append (λ (key : KeySum). key.units) c more_c, first.fewer, second.fewer);
}

-- a step of the walk
pub keys-walk : (laters earliers left rest keys more new : List KeySum) (i j m n : ℕ) → left ≡ drop i laters → rest ≡ drop j earliers → new ≡ keys ++ more
    → AreKeysSince (take m left) (take n rest) more → AreKeysSince (take i laters) (take j earliers) keys
    → AreKeysSince (take (i + m) laters) (take (j + n) earliers) new
keys-walk laters earliers left rest keys more new i j m n cut_left cut_rest put step before =
    let front : take i laters ++ take m left ≡ take (i + m) laters = ap (λ z. take i laters ++ take m z) cut_left ∙ sym (take-add i m laters) in
    let other : take j earliers ++ take n rest ≡ take (j + n) earliers = ap (λ z. take j earliers ++ take n z) cut_rest ∙ sym (take-add j n earliers) in
    let P : List KeySum → Type 0 = λ z. AreKeysSince z (take (j + n) earliers) new in
    let Q : List KeySum → Type 0 = λ z. AreKeysSince (take i laters ++ take m left) z new in
    let S : List KeySum → Type 0 = λ z. AreKeysSince (take i laters ++ take m left) (take j earliers ++ take n rest) z in
    subst P front (subst Q other (subst S (sym put) (since-append (take i laters) (take j earliers) keys (take m left) (take n rest) more before step)))

more-whole : (f : KeySum → ℕ) (earliers rest : List KeySum) (j n : ℕ) (v : ℤ) → rest ≡ drop j earliers → n < at f rest v → n < at f earliers v
more-whole f earliers rest j n v cut less =
    let whole = sum_by-take-drop (λ (key : KeySum). if int_eq key.value v then f key else 0) earliers j in
    omega (arith, whole, less, ap (λ z. at f z v) cut)

-- what fell of the rest, fell of the whole
pub fallen-whole : (laters earliers left rest : List KeySum) (i j : ℕ) → left ≡ drop i laters → rest ≡ drop j earliers
    → ((done : List KeySum) → IsStrictlySortedBy key_cmp (done ++ left) → IsStrictlySortedBy key_cmp (done ++ rest) → HasKeyFallen (done ++ left) rest)
    → (IsStrictlySortedBy key_cmp laters → IsStrictlySortedBy key_cmp earliers → IsStrictlySortedBy key_cmp (take i laters ++ drop j earliers))
    → IsStrictlySortedBy key_cmp laters → IsStrictlySortedBy key_cmp earliers → HasKeyFallen laters earliers
fallen-whole laters earliers left rest i j cut_left cut_rest fell before one other =
    let whole : take i laters ++ left ≡ laters = ap (λ z. take i laters ++ z) cut_left ∙ take-append-drop i laters in
    let P : List KeySum → Type 0 = λ z. IsStrictlySortedBy key_cmp (take i laters ++ z) in
    let here = fell (take i laters) (subst (IsStrictlySortedBy key_cmp) (sym whole) one) (subst P (sym cut_rest) (before one other)) in
    let there = subst (λ z. HasKeyFallen z rest) whole here in (
      there.0,
      ⊎_elim
          (λ less. inl (more-whole (λ key. key.units) earliers rest j (units_at laters there.0) there.0 cut_rest less))
          (λ less. inr (more-whole (λ key. key.marks) earliers rest j (marks_at laters there.0) there.0 cut_rest less)) there.1,
    )

-- ---- whether there is something

-- the keys have at least what one of them has
pub at-element : (f : KeySum → ℕ) (keys : List KeySum) (i : ℕ) (d : KeySum) → i < length keys → f (get_or keys i d) ≤ at f keys (get_or keys i d).value
at-element f keys i d within =
    let key = get_or keys i d in
    let same : (if int_eq key.value key.value then f key else 0) ≡ f key = ap (λ b. if b then f key else 0) (int_eq_equiv.refl key.value) in
    omega (arith, sum_by_more_le (λ (k : KeySum). if int_eq k.value key.value then f k else 0) keys i d within, same)

nothing-if : (t : Bool) (n : ℕ) → n ≡ 0 → (if t then n else 0) ≡ 0
nothing-if true n none = none
nothing-if false n none = refl

-- one more key that has nothing
pub at-nothing : (f : KeySum → ℕ) (keys : List KeySum) (i : ℕ) (d : KeySum) (v : ℤ) → i < length keys → f (get_or keys i d) ≡ 0 → at f (take i keys) v ≡ 0
    → at f (take (i + 1) keys) v ≡ 0
at-nothing f keys i d v within none before =
    let more = sum_by_more (λ (key : KeySum). if int_eq key.value v then f key else 0) keys i d within in
    let here = nothing-if (int_eq (get_or keys i d).value v) (f (get_or keys i d)) none in
    omega (arith, more, here, before)
