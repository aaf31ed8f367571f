-- Samples in an ordered map: for each histogram and value the first.
use Rattle.std.proofs.Common.{◌≡◌, Bool, true, false, cond, not, ◌&&◌, ◌==◌, if◌then◌else◌, ℕ, ◌<◌, ◌≤◌, ℤ, pos, negsuc, List, [], ◌∷◌, Option, Some, None, inl, inr, refl, ap, sym, ◌∙◌, arith}
use Rattle.std.specs.Prelude.{All, is_some, int_lt, unwrap_or}
use Rattle.std.proofs.lemmas.List.Elements.{recursion_from_All, All-weaker}
use Rattle.std.specs.List.{filter, AllByRecursion}
use Rattle.std.specs.List.Sorted.{IsStrictlySortedBy}
use Rattle.std.specs.declared.cmp.Ordering.{Ordering}
use Rattle.std.specs.declared.cmp.Ordering.TheVariants.{Less, Equal, Greater}
use Rattle.std.specs.declared.ops.Bound.TheVariants.{Included}
use Rattle.std.specs.Ordering.{nat_cmp, int_cmp, is_eq, is_le, is_lt, match_ordering, ordering_then}
use Rattle.std.specs.Cmp.{IsTotalOrder, nat_cmp_is, then_total, on_total}
use Rattle.std.specs.Map.{keys_of, lookup}
use Rattle.std.specs.BTreeMap.{insert_entry, is_at}
use Rattle.std.specs.BTreeMap.Range.{range_contains, entries_between}
use Rattle.std.specs.BTreeSet.{insert_key}
use mir.Syntax.{w32}
use mir.Val.{to_z, of_z}
use Rattle.std.proofs.lemmas.Int.{to_z-of_z}
use Rattle.std.proofs.lemmas.Bool.{ltb-true, le-ltb, cases_Bool, cases_order, eqb-true, eq-eqb, ne_eqb}
use Rattle.std.proofs.lemmas.Cmp.{ranked, int_cmp_total, nat_cmp_total}
use Rattle.bucket_ranges.specs.Reading.{is_i32}
use Rattle.image_reader.specs.Samples.{Entry, by_entry_value, by_key}

-- the order of entries by their keys
abbrev pub by_entry : Entry → Entry → Ordering
by_entry a b = by_key a.0 b.0

-- it is a total order
pub by_key-total : IsTotalOrder by_key
by_key-total = then_total (on_total (λ (k : ℕ × ℤ). k.0) nat_cmp_total) (on_total (λ (k : ℕ × ℤ). k.1) int_cmp_total)

-- ---- an insert of a key that is not there, and of one that is

absent-step : {K X : Type 0} (o : Ordering) (k : K) (v : X) (e : K × X) (rest entered keyed : List (K × X)) (found : Option X)
    → entered ≡ keyed → cond (is_eq o) (Some e.1) found ≡ None
    → match_ordering o ((k, v) ∷ e ∷ rest) ((e.0, v) ∷ rest) (e ∷ entered)
    ≡ match_ordering o ((k, v) ∷ e ∷ rest) (e ∷ rest) (e ∷ keyed)
absent-step Less k v e rest entered keyed found same none = refl
absent-step Equal k v e rest entered keyed found same none = absurd (cc)
absent-step Greater k v e rest entered keyed found same none = ap (λ xs. e ∷ xs) same

absent-rest : {X : Type 0} (b : Bool) (o found : Option X) → cond b o found ≡ None → is_some o ≡ true → found ≡ None
absent-rest true None found e s = absurd (cc)
absent-rest true (Some x) found e s = absurd (cc)
absent-rest false o found e s = e

-- a new key is put in by its order, and no entry changes
pub insert_entry-absent : {K X : Type 0} (cmp : K → K → Ordering) (es : List (K × X)) (k : K) (v : X)
    → lookup (is_at (cmp k)) es ≡ None
    → insert_entry cmp es k v ≡ insert_key (λ (a b : K × X). cmp a.0 b.0) es (k, v)
insert_entry-absent cmp [] k v none = refl
insert_entry-absent {K} {X} cmp (e ∷ es) k v none =
    let rest : lookup (is_at (cmp k)) es ≡ None = absent-rest (is_eq (cmp k e.0)) (Some e.1) (lookup (is_at (cmp k)) es) none refl in
    absent-step (cmp k e.0) k v e es (insert_entry cmp es k v) (insert_key (λ (a b : K × X). cmp a.0 b.0) es (k, v))
    (lookup (is_at (cmp k)) es) (insert_entry-absent cmp es k v rest) none

-- if all keys are above another key, a look-up of that one finds nothing
above-none : {K X : Type 0} (cmp : K → K → Ordering) → IsTotalOrder cmp → (k x : K) (es : List (K × X))
    → cmp k x ≡ Less → AllByRecursion (λ y. cmp x y ≡ Less) (keys_of es) → lookup (is_at (cmp k)) es ≡ None
above-none cmp total k x [] below above = refl
above-none cmp total k x (e ∷ es) below above =
    let less : cmp k e.0 ≡ Less = total.trans k x e.0 below above.0 in
    ap (λ o. cond (is_eq o) (Some e.1) (lookup (is_at (cmp k)) es)) less
    ∙ above-none cmp total k x es below above.1

present-step : {K X : Type 0} (o : Ordering) (k : K) (v : X) (e : K × X) (rest keyed : List (K × X)) (found : Option X)
    → (o ≡ Less → found ≡ None) → (is_some found ≡ true → keyed ≡ rest)
    → is_some (cond (is_eq o) (Some e.1) found) ≡ true
    → match_ordering o ((k, v) ∷ e ∷ rest) (e ∷ rest) (e ∷ keyed) ≡ e ∷ rest
present-step Less k v e rest keyed found none same there = absurd (let n = none refl in cc)
present-step Equal k v e rest keyed found none same there = refl
present-step Greater k v e rest keyed found none same there = ap (λ xs. e ∷ xs) (same there)

-- a key that is there is not put in again
pub insert_key-present : {K X : Type 0} (cmp : K → K → Ordering) → IsTotalOrder cmp → (es : List (K × X)) (k : K) (v : X)
    → IsStrictlySortedBy cmp (keys_of es) → is_some (lookup (is_at (cmp k)) es) ≡ true
    → insert_key (λ (a b : K × X). cmp a.0 b.0) es (k, v) ≡ es
unfolding IsStrictlySortedBy
insert_key-present cmp total [] k v sorted there = absurd (cc)
insert_key-present {K} {X} cmp total (e ∷ es) k v sorted there =
    present-step (cmp k e.0) k v e es (insert_key (λ (a b : K × X). cmp a.0 b.0) es (k, v)) (lookup (is_at (cmp k)) es)
    (λ less. above-none cmp total k e.0 es less sorted.0)
    (insert_key-present cmp total es k v sorted.1) there

restored-step : {K X : Type 0} (cmp : K → K → Ordering) (o : Ordering) (k : K) (v w : X) (e : K × X) (rest : List (K × X)) (found : Option X)
    → cmp k e.0 ≡ o → (o ≡ Less → found ≡ None) → (found ≡ Some w → insert_entry cmp (insert_entry cmp rest k v) k w ≡ rest)
    → cond (is_eq o) (Some e.1) found ≡ Some w
    → insert_entry cmp (match_ordering o ((k, v) ∷ e ∷ rest) ((e.0, v) ∷ rest) (e ∷ insert_entry cmp rest k v)) k w ≡ e ∷ rest
restored-step cmp Less k v w e rest found is none same there = absurd (let n = none refl in cc)
restored-step {K} {X} cmp Equal k v w e rest found is none same there =
    ap (λ o. match_ordering o ((k, w) ∷ (e.0, v) ∷ rest) ((e.0, w) ∷ rest) ((e.0, v) ∷ insert_entry cmp rest k w)) is
    ∙ ap (λ (x : X). (e.0, x) ∷ rest) (sym (ap (λ (o : Option X). unwrap_or o e.1) there))
restored-step cmp Greater k v w e rest found is none same there =
    ap (λ o. match_ordering o ((k, w) ∷ e ∷ insert_entry cmp rest k v) ((e.0, w) ∷ insert_entry cmp rest k v)
    (e ∷ insert_entry cmp (insert_entry cmp rest k v) k w)) is
    ∙ ap (λ xs. e ∷ xs) (same there)

-- another value at a key that is there, and then its own again, change nothing
pub insert_entry-restored : {K X : Type 0} (cmp : K → K → Ordering) → IsTotalOrder cmp → (es : List (K × X)) (k : K) (v w : X)
    → IsStrictlySortedBy cmp (keys_of es) → lookup (is_at (cmp k)) es ≡ Some w
    → insert_entry cmp (insert_entry cmp es k v) k w ≡ es
unfolding IsStrictlySortedBy
insert_entry-restored cmp total [] k v w sorted there = absurd (cc)
insert_entry-restored cmp total (e ∷ es) k v w sorted there =
    restored-step cmp (cmp k e.0) k v w e es (lookup (is_at (cmp k)) es) refl
    (λ less. above-none cmp total k e.0 es less sorted.0)
    (insert_entry-restored cmp total es k v w sorted.1) there

-- ---- what is held of one histogram

-- an element that fails a test does not change what passes it
other-step : {X : Type 0} (p : X → Bool) (o : Ordering) (y x : X) (rest put : List X) → p y ≡ false
    → filter p put ≡ filter p rest
    → filter p (match_ordering o (y ∷ x ∷ rest) (x ∷ rest) (x ∷ put)) ≡ filter p (x ∷ rest)
other-step p Less y x rest put fails same = ap (λ b. cond b (y ∷ filter p (x ∷ rest)) (filter p (x ∷ rest))) fails
other-step p Equal y x rest put fails same = refl
other-step p Greater y x rest put fails same = ap (λ xs. cond (p x) (x ∷ xs) xs) same

filter-insert_other : {X : Type 0} (p : X → Bool) (cmp : X → X → Ordering) (xs : List X) (y : X) → p y ≡ false
    → filter p (insert_key cmp xs y) ≡ filter p xs
filter-insert_other p cmp [] y fails = ap (λ b. cond b (y ∷ []) []) fails
filter-insert_other p cmp (x ∷ xs) y fails =
    other-step p (cmp y x) y x xs (insert_key cmp xs y) fails (filter-insert_other p cmp xs y fails)

-- the entries of a histogram
abbrev pub of : ℕ → Entry → Bool
of histogram entry = entry.0.0 == histogram

-- a key after another one has no lower histogram
then-less : (a b : ℕ) (o : Ordering) → ordering_then (nat_cmp a b) o ≡ Less → a ≤ b
then-less a b o e = elim (cases_order a b) [
  | inl same ↦ omega arith
  | inr apart ↦ elim apart [
    | inl below ↦ omega arith
    | inr above ↦
        let greater : Greater ≡ nat_cmp a b = nat_cmp_is a b Greater above in
        absurd (let f : ordering_then Greater o ≡ Less = ap (λ r. ordering_then r o) greater ∙ e in cc)
  ]
]

-- after an entry of a higher histogram there is none of a lower one
none-behind : (h : ℕ) (x : ℕ × ℤ) (es : List Entry) → h < x.0 → AllByRecursion (λ y. by_key x y ≡ Less) (keys_of es)
    → filter (of h) es ≡ []
none-behind h x [] above sorted = refl
none-behind h x (e ∷ es) above sorted =
    let le : x.0 ≤ e.0.0 = then-less x.0 e.0.0 (int_cmp x.1 e.0.1) sorted.0 in
    let other : (e.0.0 == h) ≡ false = ne_eqb e.0.0 h (λ same. absurd (omega arith)) in
    ap (λ b. cond b (e ∷ filter (of h) es) (filter (of h) es)) other ∙ none-behind h x es above sorted.1

-- a test of a choice by an ordering
filter-choice : (p : Entry → Bool) (o : Ordering) (a b c : List Entry)
    → filter p (match_ordering o a b c) ≡ match_ordering o (filter p a) (filter p b) (filter p c)
filter-choice p Less a b c = refl
filter-choice p Equal a b c = refl
filter-choice p Greater a b c = refl

-- an entry of the histogram before the rest
kept-first : (h : ℕ) (x : Entry) (rest : List Entry) → (x.0.0 == h) ≡ true → filter (of h) (x ∷ rest) ≡ x ∷ filter (of h) rest
kept-first h x rest e = ap (λ b. cond b (x ∷ filter (of h) rest) (filter (of h) rest)) e

dropped-first : (h : ℕ) (x : Entry) (rest : List Entry) → (x.0.0 == h) ≡ false → filter (of h) (x ∷ rest) ≡ filter (of h) rest
dropped-first h x rest e = ap (λ b. cond b (x ∷ filter (of h) rest) (filter (of h) rest)) e

-- within a histogram the order is that of the values
same-order : (y x : Entry) → y.0.0 ≡ x.0.0 → by_entry y x ≡ by_entry_value y x
same-order y x e = ap (λ o. ordering_then o (int_cmp y.0.1 x.0.1)) (sym (nat_cmp_is y.0.0 x.0.0 Equal e))

below-order : (y x : Entry) → y.0.0 < x.0.0 → by_entry y x ≡ Less
below-order y x lt = ap (λ o. ordering_then o (int_cmp y.0.1 x.0.1)) (sym (nat_cmp_is y.0.0 x.0.0 Less lt))

above-order : (y x : Entry) → x.0.0 < y.0.0 → by_entry y x ≡ Greater
above-order y x lt = ap (λ o. ordering_then o (int_cmp y.0.1 x.0.1)) (sym (nat_cmp_is y.0.0 x.0.0 Greater lt))

-- an entry that goes in among all goes in among those of its histogram
pub filter-insert_same : (h : ℕ) (es : List Entry) (y : Entry) → y.0.0 ≡ h → IsStrictlySortedBy by_key (keys_of es)
    → filter (of h) (insert_key by_entry es y) ≡ insert_key by_entry_value (filter (of h) es) y
unfolding IsStrictlySortedBy
filter-insert_same h [] y own sorted = kept-first h y [] (eq-eqb y.0.0 h own)
filter-insert_same h (x ∷ xs) y own sorted =
    let mine : (y.0.0 == h) ≡ true = eq-eqb y.0.0 h own in
    let rest : filter (of h) (insert_key by_entry xs y) ≡ insert_key by_entry_value (filter (of h) xs) y =
    filter-insert_same h xs y own sorted.1 in
    let all : List Entry = insert_key by_entry xs y in
    elim (cases_order y.0.0 x.0.0) [
      | inl same ↦
          let here : (x.0.0 == h) ≡ true = eq-eqb x.0.0 h (sym same ∙ own) in
          ap (λ o. filter (of h) (match_ordering o (y ∷ x ∷ xs) (x ∷ xs) (x ∷ all))) (same-order y x same)
          ∙ (filter-choice (of h) (by_entry_value y x) (y ∷ x ∷ xs) (x ∷ xs) (x ∷ all)
          ∙ ((λ i. match_ordering (by_entry_value y x)
          ((kept-first h y (x ∷ xs) mine ∙ ap (λ t. y ∷ t) (kept-first h x xs here)) i)
          (kept-first h x xs here i)
          ((kept-first h x all here ∙ ap (λ t. x ∷ t) rest) i))
          ∙ sym (ap (λ t. insert_key by_entry_value t y) (kept-first h x xs here))))
      | inr apart ↦ elim apart [
        | inl below ↦
            let there : (x.0.0 == h) ≡ false = ne_eqb x.0.0 h (λ e. absurd (omega arith)) in
            let none : filter (of h) xs ≡ [] = none-behind h x.0 xs (omega arith) sorted.0 in
            ap (λ o. filter (of h) (match_ordering o (y ∷ x ∷ xs) (x ∷ xs) (x ∷ all))) (below-order y x below)
            ∙ (kept-first h y (x ∷ xs) mine
            ∙ (ap (λ t. y ∷ t) (dropped-first h x xs there ∙ none)
            ∙ sym (ap (λ t. insert_key by_entry_value t y) (dropped-first h x xs there ∙ none))))
        | inr above ↦
            let there : (x.0.0 == h) ≡ false = ne_eqb x.0.0 h (λ e. absurd (omega arith)) in
            ap (λ o. filter (of h) (match_ordering o (y ∷ x ∷ xs) (x ∷ xs) (x ∷ all))) (above-order y x above)
            ∙ (dropped-first h x all there
            ∙ (rest ∙ sym (ap (λ t. insert_key by_entry_value t y) (dropped-first h x xs there))))
      ]
    ]

-- so of each histogram
pub filter-insert : (h : ℕ) (es : List Entry) (y : Entry) → IsStrictlySortedBy by_key (keys_of es)
    → filter (of h) (insert_key by_entry es y)
    ≡ (if y.0.0 == h then insert_key by_entry_value (filter (of h) es) y else filter (of h) es)
filter-insert h es y sorted = elim (cases_Bool (y.0.0 == h)) [
  | inl own ↦ filter-insert_same h es y (eqb-true y.0.0 h own) sorted
      ∙ ap (λ b. if b then insert_key by_entry_value (filter (of h) es) y else filter (of h) es) (sym own)
  | inr other ↦ filter-insert_other (of h) by_entry es y other
      ∙ ap (λ b. if b then insert_key by_entry_value (filter (of h) es) y else filter (of h) es) (sym other)
]

-- ---- values of an `i32`

-- they are what they are read back as
pub i32-read : (v : ℤ) → is_i32 v ≡ true → to_z w32 (of_z w32 v) ≡ v
i32-read (pos n) e = let lt : n < 2147483648 = ltb-true n 2147483648 e in grind (arith, to_z-of_z)
i32-read (negsuc n) e = let lt : n < 2147483648 = ltb-true n 2147483648 e in grind (arith, to_z-of_z)

-- the least of all values is not above one, and the greatest not below
low-step : (less more : Bool) → more ≡ false → is_le (cond less Less (cond more Greater Equal)) ≡ true
low-step true more e = refl
low-step false true e = absurd (cc)
low-step false false e = refl

high-step : (less more : Bool) → less ≡ false → is_lt (cond less Less (cond more Greater Equal)) ≡ false
high-step true more e = absurd (cc)
high-step false true e = refl
high-step false false e = refl

low-is : (v : ℤ) → is_i32 v ≡ true → is_le (int_cmp (negsuc 2147483647) v) ≡ true
low-is (pos n) e = refl
low-is (negsuc n) e = low-step (int_lt (negsuc 2147483647) (negsuc n)) (int_lt (negsuc n) (negsuc 2147483647))
    (le-ltb 2147483647 n (omega (arith, ltb-true n 2147483648 e)))

high-is : (v : ℤ) → is_i32 v ≡ true → is_lt (int_cmp (pos 2147483647) v) ≡ false
high-is (pos n) e = high-step (int_lt (pos 2147483647) (pos n)) (int_lt (pos n) (pos 2147483647))
    (le-ltb 2147483647 n (omega (arith, ltb-true n 2147483648 e)))
high-is (negsuc n) e = refl

in_range-by : (h k : ℕ) (o low high : Ordering) → o ≡ nat_cmp h k → is_le low ≡ true → is_lt high ≡ false
    → (is_le (ordering_then o low) && not (is_lt (ordering_then o high))) ≡ (k == h)
in_range-by h k Less low high is l g = sym (ne_eqb k h (λ same. absurd (let e : Less ≡ Equal = is ∙ sym (nat_cmp_is h k Equal (sym same)) in cc)))
in_range-by h k Equal low high is l g =
    (λ i. l i && not (g i)) ∙ sym (eq-eqb k h (sym (ranked h k Equal is)))
in_range-by h k Greater low high is l g = sym (ne_eqb k h (λ same. absurd (let e : Greater ≡ Equal = is ∙ sym (nat_cmp_is h k Equal (sym same)) in cc)))

-- the range of all values of a histogram holds the keys of that histogram
pub in_range : (h : ℕ) (q : ℕ × ℤ) → is_i32 q.1 ≡ true
    → range_contains by_key (Included (h, negsuc 2147483647)) (Included (h, pos 2147483647)) q ≡ (q.0 == h)
in_range h q small =
    in_range-by h q.0 (nat_cmp h q.0) (int_cmp (negsuc 2147483647) q.1) (int_cmp (pos 2147483647) q.1) refl
    (low-is q.1 small) (high-is q.1 small)

filter-agree_all : (p q : Entry → Bool) (es : List Entry) → AllByRecursion (λ e. p e ≡ q e) es → filter p es ≡ filter q es
filter-agree_all p q [] same = refl
filter-agree_all p q (e ∷ es) same = λ i. cond (same.0 i) (e ∷ filter-agree_all p q es same.1 i) (filter-agree_all p q es same.1 i)

-- so a range over them is what is held of it
pub held-range : (h : ℕ) (es : List Entry) → All (λ (entry : Entry). is_i32 entry.0.1 ≡ true) es
    → entries_between by_key (Included (h, negsuc 2147483647)) (Included (h, pos 2147483647)) es ≡ filter (of h) es
held-range h es small =
    filter-agree_all (λ e. range_contains by_key (Included (h, negsuc 2147483647)) (Included (h, pos 2147483647)) e.0) (of h) es
    (recursion_from_All _ es (All-weaker _ _ (λ e. in_range h e.0) es small))
