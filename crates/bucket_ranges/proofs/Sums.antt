-- Samples, one after the other.
use Rattle.std.proofs.Common.{◌≡◌, Bool, true, false, ℕ, ◌+◌, ◌-◌, ◌*◌, ◌<◌, ◌≤◌, ℤ, pos, ◌+ℤ◌, ◌*ℤ◌, List, [], ◌∷◌, length, map, take, get_or, set, slice_index, if◌then◌else◌, inl, inr, refl, ap, sym, ◌∙◌, arith}
use Rattle.std.specs.Int.RustNames.{unsigned_abs}
use Rattle.std.proofs.Common.{FitsSigned, to_z, of_z, w64, ◌^◌}
use Rattle.std.proofs.lemmas.Int.{unsigned_abs-mul, fits_signed_mul, fits_signed_from_abs, to_z-of_z, ints}
use Rattle.std.proofs.Math.Nat.{mul-le-mul}
use Rattle.std.proofs.lemmas.List.{length-map, take-map, get_or-map}
use Rattle.std.proofs.lemmas.List.Sums.{fold_more, sum_by_more, sum_by-take-le, sum_by-cons}
use Rattle.std.proofs.lemmas.List.{same_lists, length-set, get_or-set_same, get_or-set_other}
use Rattle.std.proofs.lemmas.List.FromFn.{length-map-range_with_len, get_or-map-range_with_len}
use Rattle.std.proofs.lemmas.Bool.{cases_eq, le-leb, lt-ltb, leb-true, ltb-true, and_parts}
use Rattle.bucket_ranges.specs.Ranges.{IsBucketOf, clamped}
use Rattle.bucket_ranges.specs.Tally.{units_of, units_where, amount_of, sum_of, bucket_counts, is_in_bucket}

-- a product is no greater than the product of what bounds its factors
pub product-small : (a b : ℤ) (m n : ℕ) → unsigned_abs a ≤ m → unsigned_abs b ≤ n → unsigned_abs (a *ℤ b) ≤ m * n
product-small a b m n first second =
    rw (unsigned_abs-mul a b) (mul-le-mul first second)

-- nor a sum than the sum of what bounds its parts
pub sum-small : (a b : ℤ) (m n : ℕ) → unsigned_abs a ≤ m → unsigned_abs b ≤ n → unsigned_abs (a +ℤ b) ≤ m + n
sum-small a b m n first second = omega (arith, ints)

-- one sample more of the sum
pub sum_of-more : (boundaries : List ℕ) (samples : List (ℤ × ℕ)) (i : ℕ) (d : ℤ × ℕ) → i < length samples
    → sum_of boundaries (take (i + 1) samples) ≡ sum_of boundaries (take i samples) +ℤ amount_of boundaries (get_or samples i d)
sum_of-more boundaries samples i d within =
    let amounts = map (amount_of boundaries) samples in
    let within_amounts : i < length amounts = omega (arith, length-map samples (amount_of boundaries)) in
    let step = fold_more ◌+ℤ◌ (pos 0) amounts i (amount_of boundaries d) within_amounts in
    let before : take i amounts ≡ map (amount_of boundaries) (take i samples) = take-map (amount_of boundaries) i samples in
    let after : take (i + 1) amounts ≡ map (amount_of boundaries) (take (i + 1) samples) = take-map (amount_of boundaries) (i + 1) samples in
    let here : get_or amounts i (amount_of boundaries d) ≡ amount_of boundaries (get_or samples i d) = get_or-map (amount_of boundaries) samples i d (amount_of boundaries d) within in
    rw (before, after, here) at step

-- ---- as the code has them

-- a product of 64 bits
pub returned-product : (a b : ℤ) (m n : ℕ) → FitsSigned w64 a → FitsSigned w64 b → unsigned_abs a ≤ m → unsigned_abs b ≤ n
    → m * n < 2 ^ 63 → unsigned_abs (to_z w64 (of_z w64 (to_z w64 (of_z w64 a) *ℤ to_z w64 (of_z w64 b)))) ≤ m * n
returned-product a b m n fits more first second below =
    rw (to_z-of_z w64 a fits, to_z-of_z w64 b more, to_z-of_z w64 (a *ℤ b) (fits_signed_mul w64 a b m n first second below))
    (product-small a b m n first second)

-- a sum of 64 bits fits
pub sum-fits : (a b : ℤ) (m n : ℕ) → unsigned_abs a ≤ m → unsigned_abs b ≤ n → m + n < 2 ^ 63 → FitsSigned w64 (a +ℤ b)
sum-fits a b m n first second below =
    fits_signed_from_abs w64 (a +ℤ b) (omega (arith, sum-small a b m n first second, below))

-- so it is the sum
pub returned-sum : (a b : ℤ) (m n : ℕ) → FitsSigned w64 b → unsigned_abs a ≤ m → unsigned_abs b ≤ n → m + n < 2 ^ 63
    → to_z w64 (of_z w64 (a +ℤ to_z w64 (of_z w64 b))) ≡ a +ℤ b
returned-sum a b m n fits first second below =
    rw (to_z-of_z w64 b fits, to_z-of_z w64 (a +ℤ b) (sum-fits a b m n first second below))

-- a sum so far with one more part
pub sum-step : (a b s x t : ℤ) → a ≡ s → b ≡ x → t ≡ s +ℤ x → a +ℤ b ≡ t
sum-step a b s x t so_far part all = cc

-- ---- units

-- the units of a sample more
pub units_of-more : (samples : List (ℤ × ℕ)) (i : ℕ) (d : ℤ × ℕ) → i < length samples
    → units_of (take (i + 1) samples) ≡ units_of (take i samples) + (get_or samples i d).1
units_of-more samples i d within = sum_by_more (λ sample. sample.1) samples i d within

-- they are no more than those of all
pub units-bound : (samples : List (ℤ × ℕ)) (i : ℕ) (d : ℤ × ℕ) (most : ℕ) → i < length samples → units_of samples ≤ most
    → units_of (take i samples) + (get_or samples i d).1 ≤ most
units-bound samples i d most within le =
    omega (arith, le, units_of-more samples i d within, sum_by-take-le (λ (sample : ℤ × ℕ). sample.1) samples (i + 1))

-- the units that pass a test, of a sample more
pub units_where-more : (test : ℤ → Bool) (samples : List (ℤ × ℕ)) (i : ℕ) (d : ℤ × ℕ) → i < length samples
    → units_where test (take (i + 1) samples)
    ≡ units_where test (take i samples) + (if test (get_or samples i d).0 then (get_or samples i d).1 else 0)
units_where-more test samples i d within = sum_by_more (λ sample. if test sample.0 then sample.1 else 0) samples i d within

part-le : (test : Bool) (units : ℕ) → (if test then units else 0) ≤ units
part-le true units = omega arith
part-le false units = omega arith

-- those that pass a test are no more than all
pub units_where-le : (test : ℤ → Bool) (samples : List (ℤ × ℕ)) → units_where test samples ≤ units_of samples
units_where-le test [] = omega arith
units_where-le test (sample ∷ rest) =
    rw (sum_by-cons (λ (s : ℤ × ℕ). if test s.0 then s.1 else 0) sample rest, sum_by-cons (λ (s : ℤ × ℕ). s.1) sample rest)
    (omega (arith, units_where-le test rest, part-le (test sample.0) sample.1))

-- ---- the counts of buckets

pub length-bucket_counts : (boundaries : List ℕ) (samples : List (ℤ × ℕ))
    → length (bucket_counts boundaries samples) ≡ length boundaries - 1
length-bucket_counts boundaries samples =
    length-map-range_with_len (λ i. (pos (slice_index boundaries i), units_where (is_in_bucket boundaries i) samples)) 0 (length boundaries - 1)

pub bucket_counts-at : (boundaries : List ℕ) (samples : List (ℤ × ℕ)) (k : ℕ) (d : ℤ × ℕ) → k < length boundaries - 1
    → get_or (bucket_counts boundaries samples) k d ≡ (pos (slice_index boundaries k), units_where (is_in_bucket boundaries k) samples)
bucket_counts-at boundaries samples k d within =
    get_or-map-range_with_len (λ i. (pos (slice_index boundaries i), units_where (is_in_bucket boundaries i) samples)) 0
    (length boundaries - 1) k k d within (omega arith)

-- whether a value lies in a bucket, by its boundaries
in_bucket-by : (boundaries : List ℕ) (k : ℕ) (value : ℤ) → IsBucketOf boundaries (clamped value) k
    → is_in_bucket boundaries k value ≡ true
in_bucket-by boundaries k value is =
    let low = le-leb (slice_index boundaries k) (clamped value) is.low in
    let high = lt-ltb (clamped value) (slice_index boundaries (k + 1)) is.high in
    rw (low, high)

from-in_bucket : (boundaries : List ℕ) (k : ℕ) (value : ℤ) → k + 1 < length boundaries → is_in_bucket boundaries k value ≡ true
    → IsBucketOf boundaries (clamped value) k
from-in_bucket boundaries k value within e =
    let parts = and_parts _ _ e in
    record {
      within = within;
      low = leb-true (slice_index boundaries k) (clamped value) parts.0;
      high = ltb-true (clamped value) (slice_index boundaries (k + 1)) parts.1;
    }

-- a sample more goes to its bucket
in-other : (boundaries : List ℕ) (k bucket : ℕ) (value : ℤ) (found : Bool) → k + 1 < length boundaries
    → ((other : ℕ) → IsBucketOf boundaries (clamped value) other → other ≡ bucket) → (k ≡ bucket → ⊥)
    → is_in_bucket boundaries k value ≡ found → found ≡ false
in-other boundaries k bucket value true within only apart e = absurd (apart (only k (from-in_bucket boundaries k value within e)))
in-other boundaries k bucket value false within only apart e = refl

pub bucket_counts-more : (boundaries : List ℕ) (samples : List (ℤ × ℕ)) (i bucket : ℕ) (d : ℤ × ℕ) (value : ℤ) → i < length samples
    → value ≡ (get_or samples i d).0 → IsBucketOf boundaries (clamped value) bucket
    → ((other : ℕ) → IsBucketOf boundaries (clamped value) other → other ≡ bucket)
    → set (bucket_counts boundaries (take i samples)) bucket
    (pos (slice_index boundaries bucket), units_where (is_in_bucket boundaries bucket) (take i samples) + (get_or samples i d).1)
    ≡ bucket_counts boundaries (take (i + 1) samples)
bucket_counts-more boundaries samples i bucket d value within is found only =
    let counts = bucket_counts boundaries (take i samples) in
    let here : ℤ × ℕ = (pos (slice_index boundaries bucket), units_where (is_in_bucket boundaries bucket) (take i samples) + (get_or samples i d).1) in
    let inside = found.within in
    let long = length-bucket_counts boundaries (take i samples) in
    same_lists (set counts bucket here) (bucket_counts boundaries (take (i + 1) samples))
    (length-set counts bucket here ∙ (long ∙ sym (length-bucket_counts boundaries (take (i + 1) samples))))
    (λ k e lt.
    let below : k < length boundaries - 1 = omega (arith, lt, length-set counts bucket here, long) in
    let after = bucket_counts-at boundaries (take (i + 1) samples) k e below in
    let more = units_where-more (is_in_bucket boundaries k) samples i d within in
    elim (cases_eq k bucket) [
      | inl same ↦
          let placed : bucket < length counts = omega (arith, long, inside) in
          let yes : is_in_bucket boundaries bucket (get_or samples i d).0 ≡ true =
          rw (← is) (in_bucket-by boundaries bucket value found) in
          let pair : ℕ → ℤ × ℕ = λ u. (pos (slice_index boundaries bucket), u) in
          rw (after, same, get_or-set_same counts bucket here e placed) (ap pair (sym (rw (same, yes) at more)))
      | inr apart ↦
          let no : is_in_bucket boundaries k (get_or samples i d).0 ≡ false =
          rw (← is) (in-other boundaries k bucket value _ (omega (arith, below)) only apart refl) in
          let pair : ℕ → ℤ × ℕ = λ u. (pos (slice_index boundaries k), u) in
          let as_before = rw no at more in
          let unchanged : units_where (is_in_bucket boundaries k) (take i samples) ≡ units_where (is_in_bucket boundaries k) (take (i + 1) samples) =
          omega (arith, as_before) in
          rw (after, get_or-set_other counts bucket k here e apart, bucket_counts-at boundaries (take i samples) k e below)
          (ap pair unchanged)
    ])

-- what is at the bucket of a sample
pub bucket_counts-here : (items : List (ℤ × ℕ)) (boundaries : List ℕ) (samples : List (ℤ × ℕ)) (bucket : ℕ) (now : ℤ × ℕ)
    → items ≡ bucket_counts boundaries samples → bucket + 1 < length boundaries → now ≡ get_or items bucket now
    → now ≡ (pos (slice_index boundaries bucket), units_where (is_in_bucket boundaries bucket) samples)
bucket_counts-here items boundaries samples bucket now is within read =
    read ∙ (ap (λ (xs : List (ℤ × ℕ)). get_or xs bucket now) is ∙ bucket_counts-at boundaries samples bucket now (omega (arith, within)))

-- and what is written there
pub bucket_counts-step : (items : List (ℤ × ℕ)) (boundaries : List ℕ) (samples : List (ℤ × ℕ)) (i bucket : ℕ) (d : ℤ × ℕ) (value : ℤ)
    (now : ℤ × ℕ) (units : ℕ) → i < length samples → value ≡ (get_or samples i d).0 → IsBucketOf boundaries (clamped value) bucket
    → ((other : ℕ) → IsBucketOf boundaries (clamped value) other → other ≡ bucket)
    → items ≡ bucket_counts boundaries (take i samples) → now ≡ get_or items bucket now → units ≡ (get_or samples i d).1
    → set items bucket (now.0, now.1 + units) ≡ bucket_counts boundaries (take (i + 1) samples)
bucket_counts-step items boundaries samples i bucket d value now units within is found only so_far read same =
    let here = bucket_counts-here items boundaries (take i samples) bucket now so_far found.within read in
    let low : now.0 ≡ pos (slice_index boundaries bucket) = ap (λ (p : ℤ × ℕ). p.0) here in
    let before : now.1 ≡ units_where (is_in_bucket boundaries bucket) (take i samples) = ap (λ (p : ℤ × ℕ). p.1) here in
    rw (so_far, low, before, same) (bucket_counts-more boundaries samples i bucket d value within is found only)

-- they fit
pub bucket_counts-bound : (items : List (ℤ × ℕ)) (boundaries : List ℕ) (samples : List (ℤ × ℕ)) (i bucket : ℕ) (d now : ℤ × ℕ) (most : ℕ)
    → i < length samples → units_of samples ≤ most → bucket + 1 < length boundaries
    → items ≡ bucket_counts boundaries (take i samples) → now ≡ get_or items bucket now → now.1 + (get_or samples i d).1 ≤ most
bucket_counts-bound items boundaries samples i bucket d now most within le inside so_far read =
    let here = bucket_counts-here items boundaries (take i samples) bucket now so_far inside read in
    let before : now.1 ≡ units_where (is_in_bucket boundaries bucket) (take i samples) = ap (λ (p : ℤ × ℕ). p.1) here in
    omega (arith, before, units_where-le (is_in_bucket boundaries bucket) (take i samples), units-bound samples i d most within le)
