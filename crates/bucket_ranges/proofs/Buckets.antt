-- Values between boundaries.
use Rattle.std.proofs.Common.{◌≡◌, Bool, true, false, nat_le, if◌then◌else◌, refl, ◌/◌, ℕ, zero, suc, ◌+◌, ◌-◌, ◌<◌, ◌≤◌, List, length, slice_index, ap, arith, inl, inr}
use Rattle.std.proofs.lemmas.Bool.{cases_order, leb-true, leb-false}
use Rattle.bucket_ranges.specs.Ranges.{IsAscending, IsBucketOf}

-- boundaries further on are greater
ascends-by : (boundaries : List ℕ) (i k : ℕ) → IsAscending boundaries → i + k < length boundaries → slice_index boundaries i ≤ slice_index boundaries (i + k)
ascends-by boundaries i zero up lt = let same : i ≡ i + 0 = omega arith in let e = ap (slice_index boundaries) same in omega (arith, e)
ascends-by boundaries i (suc k) up lt =
    let so_far = ascends-by boundaries i k up (omega (arith, lt)) in
    let next : i + k + 1 ≡ i + suc k = omega arith in
    let step = up (i + k) (omega (arith, lt)) in
    let e = ap (slice_index boundaries) next in
    omega (arith, so_far, step, e)

pub ascends : (boundaries : List ℕ) (i j : ℕ) → IsAscending boundaries → i ≤ j → j < length boundaries → slice_index boundaries i ≤ slice_index boundaries j
ascends boundaries i j up le lt =
    let place : i + (j - i) ≡ j = omega (arith, le) in
    let e = ap (slice_index boundaries) place in
    omega (arith, ascends-by boundaries i (j - i) up (omega (arith, place, lt)), e)

-- a value lies in one bucket
pub one_bucket : (boundaries : List ℕ) (value i j : ℕ) → IsAscending boundaries → IsBucketOf boundaries value i → IsBucketOf boundaries value j → i ≡ j
one_bucket boundaries value i j up p q = elim (cases_order i j) [
  | inl same ↦ same
  | inr apart ↦ elim apart [
    | inl before ↦
        let le = ascends boundaries (i + 1) j up (omega (arith, before)) (let w = q.within in omega (arith, w)) in
        let high = p.high in
        let low = q.low in
        absurd (omega (arith, le, high, low))
    | inr behind ↦
        let le = ascends boundaries (j + 1) i up (omega (arith, behind)) (let w = p.within in omega (arith, w)) in
        let high = q.high in
        let low = p.low in
        absurd (omega (arith, le, high, low))
  ]
]

-- ---- halving

-- the value lies in one of `count` buckets from `low` on
pub record IsAmong (boundaries : List ℕ) (value low count : ℕ) : Type 0 where
  pub some : 1 ≤ count
  pub within : low + count + 1 ≤ length boundaries
  pub above : slice_index boundaries low ≤ value
  pub below : value < slice_index boundaries (low + count)

halving-by : (boundaries : List ℕ) (value low count : ℕ) (reached : Bool) → IsAscending boundaries → 1 < count
    → IsAmong boundaries value low count → (reached ≡ true → slice_index boundaries (low + count / 2) ≤ value)
    → (reached ≡ false → value < slice_index boundaries (low + count / 2))
    → IsAmong boundaries value (low + (if reached then count / 2 else 0)) (count - count / 2)
halving-by boundaries value low count true up more among reaches misses = record {
  some = omega (arith, more);
  within = let within = among.within in omega (arith, within);
  above = reaches refl;
  below = let place : low + count / 2 + (count - count / 2) ≡ low + count = omega arith in rw place among.below;
}
halving-by boundaries value low count false up more among reaches misses = record {
  some = omega (arith, more);
  within = let within = among.within in omega (arith, within);
  above = let place : low + 0 ≡ low = omega arith in rw place among.above;
  below =
      let within = among.within in
      let place : low + 0 + (count - count / 2) ≡ low + (count - count / 2) = omega arith in
      let further = ascends boundaries (low + count / 2) (low + (count - count / 2)) up (omega arith) (omega (arith, within, more)) in
      let less = misses refl in
      rw place (omega (arith, further, less));
}

-- half of them are left
pub halving : (boundaries : List ℕ) (value low count step : ℕ) → IsAscending boundaries → 1 < count
    → IsAmong boundaries value low count
    → step ≡ (if nat_le (slice_index boundaries (low + count / 2)) value then count / 2 else 0)
    → IsAmong boundaries value (low + step) (count - count / 2)
halving boundaries value low count step up more among is =
    rw is (halving-by boundaries value low count (nat_le (slice_index boundaries (low + count / 2)) value) up more among
    (leb-true (slice_index boundaries (low + count / 2)) value) (leb-false (slice_index boundaries (low + count / 2)) value))
