-- The boundaries of a valid custom spec.
use Rattle.std.proofs.Common.{◌≡◌, Bool, true, false, not, nat_eq, nat_lt, ℕ, zero, suc, ◌+◌, ◌<◌, ◌≤◌, List, [], ◌∷◌, ◌++◌, length, slice_index, None, Ok, if◌then◌else◌, ◌⊎◌, inl, inr, refl, ap, subst, ◌∙◌, arith}
use Rattle.std.specs.List.{All, Any, list_any, dedup}
use Rattle.std.specs.List.Sorted.{IsPermutation, IsSorted, IsStrictlyIncreasing}
use Rattle.std.specs.List.Retain.{IsFiltered, DiffersFromLast}
use Rattle.std.specs.Ordering.{nat_cmp}
use Rattle.std.proofs.lemmas.Bool.{ltb-true, ltb-false, or_parts, cases_order}
use Rattle.std.proofs.lemmas.List.{get_or_push, get_or_past, length_push}
use Rattle.std.proofs.lemmas.List.Filters.{dedup_is}
use Rattle.std.proofs.lemmas.List.Folds.{Any-from_list_any}
use Rattle.std.proofs.lemmas.List.Elements.{All-cons, All-contains, Contains-get_or}
use Rattle.std.proofs.lemmas.List.Sorted.{Contains-permutation, IsPermutation-sym}
use Rattle.std.proofs.lemmas.List.Kept.{Contains-dedup_nat, Contains-from_dedup}
use Rattle.std.proofs.lemmas.Map.Keys.{IsStrictlyIncreasing-dedup}
use Rattle.segment_image.specs.Checks.{first_fault, checked}
use Rattle.bucket_ranges.specs.declared.spec.SpecFault.{SpecFault}
use Rattle.bucket_ranges.specs.declared.spec.SpecFault.TheVariants.{TooMany, BadRange, Empty}
use Rattle.bucket_ranges.specs.Spec.{put_in_order, distinct_values, custom_checks, IsCustom}
use Rattle.bucket_ranges.specs.Ranges.{AreBoundaries, SplitsValues, custom_boundaries}
use Rattle.bucket_ranges.proofs.Distinct.{Member, Ascends, member-from, contains-from, ascends-from, increasing-from, ascending-unique, distinct-ascends, distinct-member, member-distinct, distinct-of_ascending}

-- ---- without a fault

-- no value is above a limit
none_above : (limit : ℕ) (values : List ℕ) → list_any (λ value. nat_lt limit value) values ≡ false
    → All (λ value. value ≤ limit) values
none_above limit [] none = λ i d lt. absurd (omega arith)
none_above limit (v ∷ rest) none =
    let parts = or_parts (nat_lt limit v) (list_any (λ value. nat_lt limit value) rest) none in
    All-cons (λ value. value ≤ limit) v rest (ltb-false limit v parts.0) (none_above limit rest parts.1)

-- one is
some_above : (values : List ℕ) → list_any (λ value. nat_lt 0 value) values ≡ true → Any (λ value. 0 < value) values
some_above values some =
    let found = Any-from_list_any (λ value. nat_lt 0 value) values some in
    (found.0, found.1, found.2, found.3, ltb-true 0 found.1 found.4)

-- three checks without a fault
no_fault : (a b c : Bool) → first_fault ((a, TooMany) ∷ (b, BadRange) ∷ (not c, Empty) ∷ []) ≡ None
    → (a ≡ false) × (b ≡ false) × (c ≡ true)
no_fault true b c none = absurd (cc)
no_fault false true c none = absurd (cc)
no_fault false false false none = absurd (cc)
no_fault false false true none = (refl, refl, refl)

-- the values of a custom spec without a fault are valid
pub is_custom-from_checks : (values : List ℕ) → first_fault (custom_checks values) ≡ None → IsCustom values
is_custom-from_checks values none =
    let checks = no_fault (nat_lt 999 (length values)) (list_any (λ value. nat_lt 2147483646 value) values)
    (list_any (λ value. nat_lt 0 value) values) none in
    record {
      few = ltb-false 999 (length values) checks.0;
      below = none_above 2147483646 values checks.1;
      some = some_above values checks.2;
    }

-- checks that none fails
checked_ok : (checks : List (Bool × SpecFault)) (u v : Unit {0}) → checked checks u ≡ Ok v → first_fault checks ≡ None
checked_ok [] u v e = refl
checked_ok ((true, fault) ∷ rest) u v e = absurd (cc)
checked_ok ((false, fault) ∷ rest) u v e = checked_ok rest u v e

pub is_custom-from_checked : (values : List ℕ) (u v : Unit {0}) → checked (custom_checks values) u ≡ Ok v → IsCustom values
is_custom-from_checked values u v e = is_custom-from_checks values (checked_ok (custom_checks values) u v e)

-- ---- how many there are

length-put-by : (v x : ℕ) (xs : List ℕ) (less same : Bool) → length (put_in_order v xs) ≤ suc (length xs)
    → length (if less then v ∷ x ∷ xs else (if same then x ∷ xs else x ∷ put_in_order v xs)) ≤ suc (suc (length xs))
length-put-by v x xs true same le = omega arith
length-put-by v x xs false true le = omega arith
length-put-by v x xs false false le = omega (arith, le)

length-put : (v : ℕ) (xs : List ℕ) → length (put_in_order v xs) ≤ suc (length xs)
length-put v [] = omega arith
length-put v (x ∷ xs) = length-put-by v x xs (nat_lt v x) (nat_eq v x) (length-put v xs)

length-distinct-by : (v n : ℕ) (ds : List ℕ) (none : Bool) → length ds ≤ n
    → length (if none then ds else put_in_order v ds) ≤ suc n
length-distinct-by v n ds true le = omega (arith, le)
length-distinct-by v n ds false le = omega (arith, le, length-put v ds)

-- no more than were given
pub length-distinct : (values : List ℕ) → length (distinct_values values) ≤ length values
length-distinct [] = omega arith
length-distinct (v ∷ rest) =
    length-distinct-by v (length rest) (distinct_values rest) (nat_eq v 0) (length-distinct rest)

some-distinct : (y : ℕ) (ds : List ℕ) → Member y ds → 0 < length ds
some-distinct y [] m = absurd m
some-distinct y (x ∷ xs) m = omega arith

-- and one at least
pub some_distinct : (values : List ℕ) → IsCustom values → 0 < length (distinct_values values)
some_distinct values lawful =
    let some = lawful.some in
    let known : Member some.1 values = member-from values some.1 (some.0, some.2, some.3) in
    some-distinct some.1 (distinct_values values) (member-distinct values some.1 known some.4)

-- ---- their order

member-push : (y m : ℕ) (xs : List ℕ) → Member y (xs ++ m ∷ []) → Member y xs ⊎ (y ≡ m)
member-push y m [] (inl e) = inr e
member-push y m [] (inr n) = absurd n
member-push y m (x ∷ xs) (inl e) = inl (inl e)
member-push y m (x ∷ xs) (inr n) = elim (member-push y m xs n) [ inl k ↦ inl (inr k) | inr e ↦ inr e ]

push-member : (y m : ℕ) (xs : List ℕ) → Member y xs ⊎ (y ≡ m) → Member y (xs ++ m ∷ [])
push-member y m [] (inl n) = absurd n
push-member y m [] (inr e) = inl e
push-member y m (x ∷ xs) (inl (inl e)) = inl e
push-member y m (x ∷ xs) (inl (inr n)) = inr (push-member y m xs (inl n))
push-member y m (x ∷ xs) (inr e) = inr (push-member y m xs (inr e))

push-ascends : (m : ℕ) (xs : List ℕ) → Ascends xs → ((y : ℕ) → Member y xs → y < m) → Ascends (xs ++ m ∷ [])
push-ascends m [] up below = (λ y n. absurd n, tt)
push-ascends m (x ∷ xs) up below = (
  λ y n. elim (member-push y m xs n) [
    | inl k ↦ up.0 y k
    | inr e ↦ let lt = below x (inl refl) in omega (arith, lt, e)
  ],
  push-ascends m xs up.1 (λ y n. below y (inr n)),
)

-- each is at most 2,147,483,646
distinct-below : (values : List ℕ) → IsCustom values → (y : ℕ) → Member y (distinct_values values) → y < 2147483647
distinct-below values lawful y m =
    let le = All-contains (λ value. value ≤ 2147483646) values y lawful.below
    (contains-from values y (distinct-member values y m).0) in
    omega (arith, le)

boundaries-ascend : (values : List ℕ) → IsCustom values → Ascends (custom_boundaries values)
boundaries-ascend values lawful = (
  λ y m. elim (member-push y 2147483647 (distinct_values values) m) [
    | inl n ↦ (distinct-member values y n).1
    | inr e ↦ omega (arith, e)
  ],
  push-ascends 2147483647 (distinct_values values) (distinct-ascends values) (distinct-below values lawful),
)

pub custom_boundaries-ascending : (values : List ℕ) → IsCustom values → IsStrictlyIncreasing (custom_boundaries values)
custom_boundaries-ascending values lawful = increasing-from (custom_boundaries values) (boundaries-ascend values lawful)

-- how many boundaries there are
pub length-custom_boundaries : (values : List ℕ) → length (custom_boundaries values) ≡ length (distinct_values values) + 2
length-custom_boundaries values = omega (arith, length_push (distinct_values values) 2147483647)

last-by : (ds : List ℕ) (n : ℕ) → n ≡ suc (length ds) → slice_index (0 ∷ (ds ++ 2147483647 ∷ [])) n ≡ 2147483647
last-by ds zero e = absurd (omega arith)
last-by ds (suc n) e = get_or_push ds 2147483647 0 n (omega arith)

-- so they split the values
pub custom_boundaries-split : (values : List ℕ) → IsCustom values
    → SplitsValues (length (distinct_values values) + 1) (custom_boundaries values)
custom_boundaries-split values lawful = record {
  count = omega (arith, length-custom_boundaries values);
  first = refl;
  last = last-by (distinct_values values) (length (distinct_values values) + 1) (omega arith);
  ascending = custom_boundaries-ascending values lawful;
}

boundary-small : (values : List ℕ) → IsCustom values → (y : ℕ) → Member y (custom_boundaries values) → y ≤ 2147483647
boundary-small values lawful y (inl e) = omega (arith, e)
boundary-small values lawful y (inr m) = elim (member-push y 2147483647 (distinct_values values) m) [
  | inl n ↦ let lt = distinct-below values lawful y n in omega (arith, lt)
  | inr e ↦ omega (arith, e)
]

-- what every list of boundaries keeps
pub custom_boundaries-are : (values : List ℕ) → IsCustom values → AreBoundaries (custom_boundaries values)
custom_boundaries-are values lawful = record {
  few = omega (arith, length-custom_boundaries values, length-distinct values, lawful.few);
  small = λ i. elim (cases_order i (length (custom_boundaries values))) [
    | inl e ↦ omega (arith, get_or_past (custom_boundaries values) i 0 (omega arith))
    | inr o ↦ elim o [
      | inl lt ↦ boundary-small values lawful _ (member-from (custom_boundaries values) _ (Contains-get_or (custom_boundaries values) i 0 lt))
      | inr gt ↦ omega (arith, get_or_past (custom_boundaries values) i 0 (omega arith))
    ]
  ];
  ascending = custom_boundaries-ascending values lawful;
  ends = λ some. (refl, last-by (distinct_values values) _ (omega (arith, length-custom_boundaries values)));
}

-- ---- sorted, and each once

to_boundaries : (values : List ℕ) (z : ℕ) → Member z (0 ∷ (values ++ 2147483647 ∷ [])) → Member z (custom_boundaries values)
to_boundaries values z (inl e) = inl e
to_boundaries values z (inr m) = elim (member-push z 2147483647 values m) [
  | inl n ↦ elim (cases_order z 0) [
    | inl e ↦ inl e
    | inr o ↦ elim o [
      | inl lt ↦ absurd (omega (arith, lt))
      | inr gt ↦ inr (push-member z 2147483647 (distinct_values values) (inl (member-distinct values z n gt)))
    ]
  ]
  | inr e ↦ inr (push-member z 2147483647 (distinct_values values) (inr e))
]

from_boundaries : (values : List ℕ) (z : ℕ) → Member z (custom_boundaries values) → Member z (0 ∷ (values ++ 2147483647 ∷ []))
from_boundaries values z (inl e) = inl e
from_boundaries values z (inr m) = elim (member-push z 2147483647 (distinct_values values) m) [
  | inl n ↦ inr (push-member z 2147483647 values (inl (distinct-member values z n).0))
  | inr e ↦ inr (push-member z 2147483647 values (inr e))
]

-- the values with both ends, sorted and each once, are the boundaries
pub sorted_once : (values built sorted once : List ℕ) → IsCustom values → built ≡ 0 ∷ (values ++ 2147483647 ∷ [])
    → IsPermutation built sorted → IsSorted nat_cmp sorted
    → IsFiltered (DiffersFromLast nat_eq) [] sorted once → once ≡ custom_boundaries values
sorted_once values built sorted once lawful is moved up kept =
    let ends : List ℕ = 0 ∷ (values ++ 2147483647 ∷ []) in
    let from_ends : IsPermutation ends sorted = subst (λ (xs : List ℕ). IsPermutation xs sorted) is moved in
    dedup_is nat_eq sorted once kept
    ∙ ascending-unique (dedup nat_eq sorted) (custom_boundaries values)
    (ascends-from _ (IsStrictlyIncreasing-dedup sorted up)) (boundaries-ascend values lawful)
    (λ z m. to_boundaries values z (member-from ends z (Contains-permutation sorted ends z (IsPermutation-sym ends sorted from_ends)
    (Contains-from_dedup nat_eq sorted z (contains-from _ z m)))))
    (λ z m. member-from _ z (Contains-dedup_nat sorted z (Contains-permutation ends sorted z from_ends
    (contains-from ends z (from_boundaries values z m)))))

-- ---- values that are in order

-- values above 0 that ascend are their own distinct values
pub distinct_values-of_ascending : (values : List ℕ) → IsStrictlyIncreasing values → All (λ value. 0 < value) values
    → distinct_values values ≡ values
distinct_values-of_ascending values up above = distinct-of_ascending values (ascends-from values up)
    (λ y m. All-contains (λ value. 0 < value) values y above (contains-from values y m))

-- so they are the boundaries themselves, between the ends
pub custom_boundaries-of_ascending : (values : List ℕ) → IsStrictlyIncreasing values → All (λ value. 0 < value) values
    → custom_boundaries values ≡ 0 ∷ (values ++ 2147483647 ∷ [])
custom_boundaries-of_ascending values up above =
    ap (λ ds. 0 ∷ (ds ++ 2147483647 ∷ [])) (distinct_values-of_ascending values up above)
