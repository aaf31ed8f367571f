-- The boundaries of a valid spec ascend, and there is one more of them than of buckets.
use Rattle.std.proofs.Common.{◌≡◌, ◌≢◌, Bool, true, false, ◌||◌, ◌==◌, nat_lt, nat_le, ℕ, zero, suc, ◌+◌, ◌-◌, ◌*◌, ◌/◌, ◌<◌, ◌≤◌, [], ◌∷◌, length, map, slice_index, None, inl, inr, refl, ap, ◌∙◌, arith}
use Rattle.std.proofs.Math.Nat.{div-mul-le_self, div-lt_iff_lt-mul, mul-le-mul_right}
use Rattle.std.proofs.lemmas.Nat.{le-div}
use Rattle.std.proofs.lemmas.List.{get_or_push, get_or_append_left, length_push}
use Rattle.std.proofs.lemmas.List.FromFn.{length-map-range_with_len, get_or-map-range_with_len}
use Rattle.std.proofs.lemmas.Bool.{cases_order, or_parts, eqb-false, leb-false, ltb-false}
use Rattle.std.specs.List.{range_with_len}
use Rattle.bucket_ranges.specs.Spec.{IsLinear, linear_checks, spec_fault, buckets_of}
use Rattle.bucket_ranges.specs.Ranges.{IsAscending, SplitsValues, inner_boundary, linear_boundaries, boundaries_of}
use Rattle.bucket_ranges.specs.declared.spec.Spec.{Spec}
use Rattle.bucket_ranges.specs.declared.spec.Spec.TheVariants.{Linear, Boolean, Custom, Sparse}
use Rattle.bucket_ranges.proofs.Customs.{is_custom-from_checks, custom_boundaries-split}
use Rattle.bucket_ranges.specs.declared.spec.SpecFault.TheVariants.{BadMin, BadMax, TooFew, TooMany}
use Rattle.segment_image.specs.Checks.{first_fault}

-- a whole divisor more gives a greater quotient
div-lt : (a b d : ℕ) → 0 < d → a + d ≤ b → a / d < b / d
div-lt a b d above le =
    let most : a / d * d ≤ a = div-mul-le_self a d in
    let more : a / d + 1 ≤ b / d = le-div (a / d + 1) b d above (omega arith) in
    omega arith

-- the next boundary is greater, if the span from min to max is at least the steps
step-lt : (min max steps k j : ℕ) → 0 < steps → min + steps ≤ max
    → (2 * (min * (k + 1) + max * j) + steps) / (2 * steps) < (2 * (min * k + max * (j + 1)) + steps) / (2 * steps)
step-lt min max steps k j above le = div-lt _ _ (2 * steps) (omega arith) (omega arith)

-- an inner boundary is greater than the one before
pub inner_boundary-lt : (min max n i : ℕ) → IsLinear min max n → 1 ≤ i → i + 1 < n
    → inner_boundary min max n i < inner_boundary min max n (i + 1)
inner_boundary-lt min max n i lawful from below =
    let behind : n - 1 - i ≡ n - 1 - (i + 1) + 1 = omega arith in
    let ahead : i + 1 - 1 ≡ i - 1 + 1 = omega arith in
    rw (behind, ahead) (step-lt min max (n - 2) (n - 1 - (i + 1)) (i - 1) (omega arith) (omega arith))

-- at the first, all steps are ahead
first-above : (min max steps behind : ℕ) → 0 < min → 0 < steps → behind ≡ steps
    → 0 < (2 * (min * behind + max * 0) + steps) / (2 * steps)
first-above min max steps behind above some e =
    let least : 1 * behind ≤ min * behind = mul-le-mul_right behind above in
    le-div 1 _ (2 * steps) (omega arith) (omega arith)

-- at the last, all steps are behind
last-below : (min max steps behind ahead : ℕ) → 0 < steps → behind ≡ 0 → ahead ≡ steps
    → (2 * (min * behind + max * ahead) + steps) / (2 * steps) < max + 1
last-below min max steps behind ahead some none all =
    let wide : 0 < 2 * steps = omega arith in
    let small : (2 * (min * 0 + max * steps) + steps) / (2 * steps) < max + 1 =
    (div-lt_iff_lt-mul wide).1 (omega arith) in
    rw (none, all) small

-- the first is above 0
pub inner_boundary-above : (min max n : ℕ) → IsLinear min max n → 0 < inner_boundary min max n 1
inner_boundary-above min max n lawful = first-above min max (n - 2) (n - 1 - 1) lawful.min_above (omega arith) (omega arith)

-- the last is below 2,147,483,647
pub inner_boundary-below : (min max n : ℕ) → IsLinear min max n → inner_boundary min max n (n - 1) < 2147483647
inner_boundary-below min max n lawful =
    let small = last-below min max (n - 2) (n - 1 - (n - 1)) (n - 1 - 1) (omega arith) (omega arith) (omega arith) in
    omega arith

-- how many boundaries there are
pub length-linear_boundaries : (min max n : ℕ) → 1 ≤ n → length (linear_boundaries min max n) ≡ n + 1
length-linear_boundaries min max n some =
    omega (
      arith,
      length_push (map (inner_boundary min max n) (range_with_len 1 (n - 1))) 2147483647,
      length-map-range_with_len (inner_boundary min max n) 1 (n - 1),
    )

-- the inner ones are at 1 to n - 1
pub linear_boundaries-inner : (min max n i : ℕ) → 1 ≤ i → i < n
    → slice_index (linear_boundaries min max n) i ≡ inner_boundary min max n i
linear_boundaries-inner min max n zero from below = absurd (omega arith)
linear_boundaries-inner min max n (suc i) from below =
    get_or_append_left (map (inner_boundary min max n) (range_with_len 1 (n - 1))) (2147483647 ∷ []) 0 i
    (omega (arith, length-map-range_with_len (inner_boundary min max n) 1 (n - 1)))
    ∙ get_or-map-range_with_len (inner_boundary min max n) 1 (n - 1) i (suc i) 0 (omega arith) (omega arith)

-- the last is at n
pub linear_boundaries-last : (min max n : ℕ) → 1 ≤ n → slice_index (linear_boundaries min max n) n ≡ 2147483647
linear_boundaries-last min max zero some = absurd (omega arith)
linear_boundaries-last min max (suc n) some =
    get_or_push (map (inner_boundary min max (suc n)) (range_with_len 1 (suc n - 1))) 2147483647 0 n
    (omega (arith, length-map-range_with_len (inner_boundary min max (suc n)) 1 (suc n - 1)))

-- each boundary of a valid linear spec is below the next
pub linear_boundaries-lt : (min max n : ℕ) → IsLinear min max n → (i : ℕ) → i < n
    → slice_index (linear_boundaries min max n) i < slice_index (linear_boundaries min max n) (i + 1)
linear_boundaries-lt min max n lawful zero within =
    let above = inner_boundary-above min max n lawful in
    let first = linear_boundaries-inner min max n 1 (omega arith) (omega arith) in
    omega arith
linear_boundaries-lt min max n lawful (suc i) within = elim (cases_order (suc i + 1) n) [
  | inl end ↦
      let below = inner_boundary-below min max n lawful in
      let here = linear_boundaries-inner min max n (suc i) (omega arith) within in
      let last = linear_boundaries-last min max n (omega arith) in
      let at : slice_index (linear_boundaries min max n) (suc i + 1) ≡ 2147483647 =
      ap (slice_index (linear_boundaries min max n)) end ∙ last in
      let k : suc i ≡ n - 1 = omega arith in
      let less : inner_boundary min max n (suc i) < 2147483647 = rw k below in
      omega arith
  | inr o ↦
      let inner : suc i + 1 < n = elim o [ inl lt ↦ lt | inr gt ↦ absurd (omega arith) ] in
      let here = linear_boundaries-inner min max n (suc i) (omega arith) within in
      let next = linear_boundaries-inner min max n (suc i + 1) (omega arith) inner in
      let more = inner_boundary-lt min max n (suc i) lawful (omega arith) inner in
      omega arith
]

-- in the order of their places
pub linear_boundaries-ascending : (min max n : ℕ) → IsLinear min max n → IsAscending (linear_boundaries min max n)
linear_boundaries-ascending min max n lawful i within =
    linear_boundaries-lt min max n lawful i (omega (arith, length-linear_boundaries min max n (omega arith)))

-- so they split the values
pub linear_boundaries-split : (min max n : ℕ) → IsLinear min max n → SplitsValues n (linear_boundaries min max n)
linear_boundaries-split min max n lawful = record {
  count = length-linear_boundaries min max n (omega arith);
  first = refl;
  last = linear_boundaries-last min max n (omega arith);
  ascending = linear_boundaries-ascending min max n lawful;
}

-- from 0 to 2,147,483,647
pub linear_boundaries-ends : (min max n : ℕ) → IsLinear min max n → 0 < length (linear_boundaries min max n)
    → (slice_index (linear_boundaries min max n) 0 ≡ 0)
    × (slice_index (linear_boundaries min max n) (length (linear_boundaries min max n) - 1) ≡ 2147483647)
linear_boundaries-ends min max n lawful some =
    let split = linear_boundaries-split min max n lawful in
    let last : length (linear_boundaries min max n) - 1 ≡ n = omega (arith, split.count) in
    (refl, ap (slice_index (linear_boundaries min max n)) last ∙ split.last)

-- four checks without a fault
no_fault : (a b c d : Bool)
    → first_fault ((a, BadMin) ∷ (b, BadMax) ∷ (c, TooFew) ∷ (d, TooMany) ∷ []) ≡ None
    → (a ≡ false) × (b ≡ false) × (c ≡ false) × (d ≡ false)
no_fault true b c d none = absurd (cc)
no_fault false true c d none = absurd (cc)
no_fault false false true d none = absurd (cc)
no_fault false false false true none = absurd (cc)
no_fault false false false false none = (refl, refl, refl, refl)

-- a linear spec without a fault is valid
pub is_linear-from_checks : (min max n : ℕ) → first_fault (linear_checks min max n) ≡ None → IsLinear min max n
is_linear-from_checks min max n none =
    let checks = no_fault (min == 0) (nat_le max min || nat_lt 2147483646 max) (nat_lt n 3)
    (nat_lt 1000 n || nat_lt (max - min + 2) n) none in
    let maximum = or_parts (nat_le max min) (nat_lt 2147483646 max) checks.1 in
    let buckets = or_parts (nat_lt 1000 n) (nat_lt (max - min + 2) n) checks.3 in
    record {
      min_above = omega (arith, eqb-false min 0 checks.0);
      max_above = leb-false max min maximum.0;
      max_below = ltb-false 2147483646 max maximum.1;
      few = ltb-false n 3 checks.2;
      many = ltb-false 1000 n buckets.0;
      room = ltb-false (max - min + 2) n buckets.1;
    }

-- a spec without a fault splits the values, unless it is sparse
pub boundaries_of-split : (spec : Spec) → spec_fault spec ≡ None → spec ≢ Sparse → SplitsValues (buckets_of spec) (boundaries_of spec)
boundaries_of-split (Linear min max n) none split =
    linear_boundaries-split min max n (is_linear-from_checks min max n none)
boundaries_of-split Boolean none split = linear_boundaries-split 1 2 3 (record {
  min_above = omega arith;
  max_above = omega arith;
  max_below = omega arith;
  few = omega arith;
  many = omega arith;
  room = omega arith;
})
boundaries_of-split (Custom values) none split = custom_boundaries-split values (is_custom-from_checks values none)
boundaries_of-split Sparse none split = absurd (split refl)
