-- The buckets of a valid spec, and the bucket that was found for a value.
use Rattle.segment_invariant.proofs.Prelude.Std.{◌≡◌, ◌≢◌, ℕ, zero, suc, ◌-◌, ◌<◌, ◌≤◌, true, true≢false, ℤ, List, subst, w32, of_z, to_z, length, refl, sym, ap, ◌∙◌, arith, None, dite, to_z-of_z, slice_index}
use Rattle.segment_invariant.proofs.Prelude.Machine.{Spec, Linear, Boolean, Custom, Sparse, boundaries_of, buckets_of, spec_fault, has_buckets, key_of}
use Rattle.segment_invariant.proofs.Prelude.Invariant.{key_of_bucket}
use Rattle.std.proofs.Common.{FitsSigned}
use native.Mathlib.Decide.{dec_le}
use Rattle.std.proofs.lemmas.List.{get_or_past}
use Rattle.bucket_ranges.specs.Ranges.{clamped, AreBoundaries, IsBucketOf, SplitsValues}
use Rattle.bucket_ranges.proofs.Ascent.{boundaries_of-split}
use Rattle.bucket_ranges.proofs.Buckets.{ascends}
use Rattle.segment_machine.proofs.Keys.{keys_are_least}
use Rattle.segment_invariant.proofs.Packing.OffForms.{few_buckets}

-- what is found for a value at run time is found for the value
pub found_is : (ranges : List ℕ) (value : ℤ) (bucket : ℕ) → FitsSigned w32 value → IsBucketOf ranges (clamped (to_z w32 (of_z w32 value))) bucket
    → IsBucketOf ranges (clamped value) bucket
found_is ranges value bucket fits is = subst (λ (n : ℤ). IsBucketOf ranges (clamped n) bucket) (to_z-of_z w32 value fits) is

module _ (spec : Spec) (lawful : spec_fault spec ≡ None) (bucketed : has_buckets spec ≡ true) where
  pub apart : spec ≢ Sparse
  apart e = true≢false (sym bucketed ∙ ap has_buckets e)

  pub split : SplitsValues (buckets_of spec) (boundaries_of spec)
  split = boundaries_of-split spec lawful apart

  -- the first boundary is not the last, so there is a bucket
  some : 1 ≤ buckets_of spec
  some = by (buckets_of spec) refl
    where
      by : (n : ℕ) → buckets_of spec ≡ n → 1 ≤ n
      by zero none =
          let first = split.first in let last = split.last in let same = ap (slice_index (boundaries_of spec)) none in
          absurd (omega (arith, first, last, same))
      by (suc n) e = omega arith

  are_some : 1 < length (boundaries_of spec)
  are_some = let count = split.count in let least = some in omega (arith, count, least)

  pub count_is : (ranges : List ℕ) → ranges ≡ boundaries_of spec → length ranges - 1 ≡ buckets_of spec
  count_is ranges is = let count = split.count in let long = ap length is in omega (arith, count, long)

  are : AreBoundaries (boundaries_of spec)
  are = record {
    few = let count = split.count in let few = few_buckets spec lawful in omega (arith, count, few);
    small = λ i. dite (within i)
        (λ inside. let up = ascends (boundaries_of spec) i (buckets_of spec) split.ascending (omega (arith, inside, split.count)) (omega (arith, split.count)) in
        let last = split.last in omega (arith, up, last))
        (λ outside. let none = get_or_past (boundaries_of spec) i 0 (omega (arith, outside)) in omega (arith, none));
    ascending = split.ascending;
    ends = λ least. (split.first, ap (slice_index (boundaries_of spec)) (let count = split.count in omega (arith, count)) ∙ split.last);
  }
    where
      within : (i : ℕ) → Dec (i < length (boundaries_of spec))
      within i = dec_le (suc i) (length (boundaries_of spec))

  -- the bucket of a value has the key of the value
  module _ (value : ℤ) (bucket : ℕ) (is : IsBucketOf (boundaries_of spec) (clamped value) bucket) where
    pub key_is : key_of (boundaries_of spec) value ≡ key_of_bucket spec bucket
    key_is = keys_are_least (boundaries_of spec) value bucket are is

    pub below : bucket < buckets_of spec
    below = let within = is.within in let count = split.count in omega (arith, within, count)

-- ---- which specs have buckets

-- ranges without a bucket are those of a sparse histogram
pub is_sparse : (spec : Spec) (ranges : List ℕ) → spec_fault spec ≡ None → ranges ≡ boundaries_of spec → length ranges - 1 ≡ 0 → spec ≡ Sparse
is_sparse spec ranges lawful are none = by spec lawful (ap (λ (l : List ℕ). length l - 1) (sym are) ∙ none)
  where
    by : (spec : Spec) → spec_fault spec ≡ None → length (boundaries_of spec) - 1 ≡ 0 → spec ≡ Sparse
    by (Linear low high n) lawful none = absurd (let more = are_some (Linear low high n) lawful refl in omega (arith, more, none))
    by Boolean lawful none = absurd (let more = are_some Boolean lawful refl in omega (arith, more, none))
    by (Custom values) lawful none = absurd (let more = are_some (Custom values) lawful refl in omega (arith, more, none))
    by Sparse lawful none = refl

pub is_bucketed : (spec : Spec) (ranges : List ℕ) → ranges ≡ boundaries_of spec → length ranges - 1 ≢ 0 → has_buckets spec ≡ true
is_bucketed spec ranges are some = by spec (λ none. some (ap (λ (l : List ℕ). length l - 1) are ∙ none))
  where
    by : (spec : Spec) → length (boundaries_of spec) - 1 ≢ 0 → has_buckets spec ≡ true
    by (Linear low high n) _ = refl
    by Boolean _ = refl
    by (Custom values) _ = refl
    by Sparse more = absurd (more refl)

-- the ranges of a valid spec are boundaries
pub are_always : (spec : Spec) → spec_fault spec ≡ None → AreBoundaries (boundaries_of spec)
are_always (Linear low high n) lawful = are (Linear low high n) lawful refl
are_always Boolean lawful = are Boolean lawful refl
are_always (Custom values) lawful = are (Custom values) lawful refl
are_always Sparse lawful = record {
  few = omega arith;
  small = λ i. omega arith;
  ascending = λ i inside. absurd (omega (arith, inside));
  ends = λ least. absurd (omega (arith, least));
}
