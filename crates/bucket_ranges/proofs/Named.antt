-- The spec that the words of a record name, if they are those of a valid one.
use Rattle.std.proofs.Common.{◌≡◌, Bool, true, false, not, ◌&&◌, ◌==◌, nat_lt, nat_le, if◌then◌else◌, ℕ, ◌-◌, ◌<◌, ◌≤◌, List, [], ◌∷◌, ◌++◌, length, slice_index, Option, Some, None, inl, inr, refl, ap, sym, arith}
use Rattle.std.specs.Prelude.{is_none}
use Rattle.std.specs.List.{list_any}
use Rattle.std.proofs.lemmas.Bool.{and_parts, ltb-true, leb-true, eqb-true, le-ltb, lt-ltb, or_from}
use Rattle.segment_image.specs.Checks.{first_fault}
use Rattle.bucket_ranges.specs.declared.spec.Spec.TheVariants.{Linear, Boolean, Custom, Sparse}
use Rattle.bucket_ranges.specs.declared.spec.SpecFault.{SpecFault}
use Rattle.bucket_ranges.specs.declared.spec.SpecFault.TheVariants.{TooMany, BadRange, Empty}
use Rattle.bucket_ranges.specs.Spec.{spec_fault, buckets_of, distinct_values}
use Rattle.bucket_ranges.specs.Ranges.{boundaries_of}
use Rattle.bucket_ranges.specs.Reading.{ascends_above, is_custom_named, spec_named, is_spec_named}
use Rattle.bucket_ranges.proofs.Distinct.{Member, Ascends, distinct-of_ascending}

-- if numbers ascend from above another up to the end, that one is below the end
pub inner-last : (low : ℕ) (xs : List ℕ) → ascends_above low (xs ++ 2147483647 ∷ []) ≡ true → low < 2147483647
inner-last low [] up = ltb-true low 2147483647 (and_parts (nat_lt low 2147483647) true up).0
inner-last low (x ∷ xs) up =
    let parts = and_parts (nat_lt low x) (ascends_above x (xs ++ 2147483647 ∷ [])) up in
    let above : low < x = ltb-true low x parts.0 in
    omega (arith, above, inner-last x xs parts.1)

-- numbers that ascend between two others lie between them
pub inner-between : (low : ℕ) (xs : List ℕ) → ascends_above low (xs ++ 2147483647 ∷ []) ≡ true
    → (y : ℕ) → Member y xs → (low < y) × (y < 2147483647)
inner-between low [] up y m = absurd m
inner-between low (x ∷ xs) up y m =
    let parts = and_parts (nat_lt low x) (ascends_above x (xs ++ 2147483647 ∷ [])) up in
    let above : low < x = ltb-true low x parts.0 in
    elim m [
      | inl e ↦ (omega (arith, above, e), omega (arith, e, inner-last x xs parts.1))
      | inr n ↦ let rest = inner-between x xs parts.1 y n in (omega (arith, above, rest), rest.1)
    ]

pub inner-ascends : (low : ℕ) (xs : List ℕ) → ascends_above low (xs ++ 2147483647 ∷ []) ≡ true → Ascends xs
inner-ascends low [] up = tt
inner-ascends low (x ∷ xs) up =
    let parts = and_parts (nat_lt low x) (ascends_above x (xs ++ 2147483647 ∷ [])) up in
    (λ y m. (inner-between x xs parts.1 y m).0, inner-ascends x xs parts.1)

-- so they are their own distinct values
pub inner-distinct : (xs : List ℕ) → ascends_above 0 (xs ++ 2147483647 ∷ []) ≡ true → distinct_values xs ≡ xs
inner-distinct xs up = distinct-of_ascending xs (inner-ascends 0 xs up) (λ y m. (inner-between 0 xs up y m).0)

-- what is known of valid inner ranges
pub record IsInner (min max n : ℕ) (inner : List ℕ) : Type 0 where
  pub few : 2 ≤ n
  pub many : n ≤ 1000
  pub count : length inner ≡ n - 1
  pub up : ascends_above 0 (inner ++ 2147483647 ∷ []) ≡ true

pub IsInner-from_named : (min max n : ℕ) (inner : List ℕ) → is_custom_named min max n inner ≡ true → IsInner min max n inner
IsInner-from_named min max n inner e =
    let few : Bool = nat_le 2 n in
    let many : Bool = nat_le n 1000 in
    let count : Bool = length inner == n - 1 in
    let up : Bool = ascends_above 0 (inner ++ 2147483647 ∷ []) in
    let first : Bool = slice_index inner 0 == min in
    let last : Bool = slice_index inner (n - 2) == max in
    let a = and_parts ((((few && many) && count) && up) && first) last e in
    let b = and_parts (((few && many) && count) && up) first a.0 in
    let c = and_parts ((few && many) && count) up b.0 in
    let d = and_parts (few && many) count c.0 in
    let f = and_parts few many d.0 in
    record { few = leb-true 2 n f.0; many = leb-true n 1000 f.1; count = eqb-true _ _ d.1; up = c.1 }

-- no number is above a limit
none-above : (xs : List ℕ) → ((y : ℕ) → Member y xs → y < 2147483647) → list_any (λ value. nat_lt 2147483646 value) xs ≡ false
none-above [] below = refl
none-above (x ∷ xs) below =
    let here : x < 2147483647 = below x (inl refl) in
    or_from _ _ (le-ltb 2147483646 x (omega (arith, here))) (none-above xs (λ y m. below y (inr m)))

-- the first is above 0
some-above : (xs : List ℕ) → 0 < length xs → ((y : ℕ) → Member y xs → 0 < y)
    → list_any (λ value. nat_lt 0 value) xs ≡ true
some-above [] some above = absurd (omega arith)
some-above (x ∷ xs) some above = rw (lt-ltb 0 x (above x (inl refl))) refl

passes-three : (a b c : Bool) → a ≡ false → b ≡ false → c ≡ true
    → first_fault ((a, TooMany) ∷ (b, BadRange) ∷ (not c, Empty) ∷ []) ≡ None
passes-three a b c p q r = rw (p, q, r) refl

-- valid inner ranges are a valid custom spec
pub custom-lawful : (min max n : ℕ) (inner : List ℕ) → is_custom_named min max n inner ≡ true → spec_fault (Custom inner) ≡ None
custom-lawful min max n inner e =
    let are = IsInner-from_named min max n inner e in
    passes-three (nat_lt 999 (length inner)) (list_any (λ value. nat_lt 2147483646 value) inner)
    (list_any (λ value. nat_lt 0 value) inner)
    (le-ltb 999 (length inner) (omega (arith, are.few, are.many, are.count)))
    (none-above inner (λ y m. (inner-between 0 inner are.up y m).1))
    (some-above inner (omega (arith, are.few, are.count)) (λ y m. (inner-between 0 inner are.up y m).0))

-- of which they are the boundaries between the ends
pub custom-boundaries : (min max n : ℕ) (inner : List ℕ) → is_custom_named min max n inner ≡ true
    → boundaries_of (Custom inner) ≡ 0 ∷ (inner ++ 2147483647 ∷ [])
custom-boundaries min max n inner e =
    ap (λ ds. 0 ∷ (ds ++ 2147483647 ∷ [])) (inner-distinct inner (IsInner-from_named min max n inner e).up)

-- and which has n buckets
pub custom-buckets : (min max n : ℕ) (inner : List ℕ) → is_custom_named min max n inner ≡ true → buckets_of (Custom inner) ≡ n
custom-buckets min max n inner e =
    let are = IsInner-from_named min max n inner e in
    let same : length (distinct_values inner) ≡ length inner = ap length (inner-distinct inner are.up) in
    omega (arith, same, are.few, are.count)

-- the number of buckets of a spec that is validly named
named-buckets-by : (min max n : ℕ) (inner : List ℕ) (sparse custom boolean : Bool)
    → (if sparse then (min == 0) && (max == 0) && (n == 0)
    else (if custom then is_custom_named min max n inner
    else (if boolean then (min == 1) && (max == 2) && (n == 3) else is_none (spec_fault (Linear min max n))))) ≡ true
    → buckets_of (if sparse then Sparse else (if custom then Custom inner else (if boolean then Boolean else Linear min max n))) ≡ n
named-buckets-by min max n inner true custom boolean e =
    sym (eqb-true n 0 (and_parts ((min == 0) && (max == 0)) (n == 0) e).1)
named-buckets-by min max n inner false true boolean e = custom-buckets min max n inner e
named-buckets-by min max n inner false false true e =
    sym (eqb-true n 3 (and_parts ((min == 1) && (max == 2)) (n == 3) e).1)
named-buckets-by min max n inner false false false e = refl

pub named-buckets : (kind min max n : ℕ) (inner : List ℕ) → is_spec_named kind min max n inner ≡ true
    → buckets_of (spec_named kind min max n inner) ≡ n
named-buckets kind min max n inner e = named-buckets-by min max n inner (kind == 4) (kind == 3) (kind == 2) e

-- it has no fault
none-is : (o : Option SpecFault) → is_none o ≡ true → o ≡ None
none-is None e = refl
none-is (Some fault) e = absurd (cc)

named-lawful-by : (min max n : ℕ) (inner : List ℕ) (sparse custom boolean : Bool)
    → (if sparse then (min == 0) && (max == 0) && (n == 0)
    else (if custom then is_custom_named min max n inner
    else (if boolean then (min == 1) && (max == 2) && (n == 3) else is_none (spec_fault (Linear min max n))))) ≡ true
    → spec_fault (if sparse then Sparse else (if custom then Custom inner else (if boolean then Boolean else Linear min max n))) ≡ None
named-lawful-by min max n inner true custom boolean e = refl
named-lawful-by min max n inner false true boolean e = custom-lawful min max n inner e
named-lawful-by min max n inner false false true e = refl
named-lawful-by min max n inner false false false e = none-is (spec_fault (Linear min max n)) e

pub named-lawful : (kind min max n : ℕ) (inner : List ℕ) → is_spec_named kind min max n inner ≡ true
    → spec_fault (spec_named kind min max n inner) ≡ None
named-lawful kind min max n inner e = named-lawful-by min max n inner (kind == 4) (kind == 3) (kind == 2) e
