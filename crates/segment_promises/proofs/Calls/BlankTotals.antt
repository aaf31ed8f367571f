-- The totals with which a snapshot begins have the keys of the buckets, and no units.
use Rattle.segment_invariant.proofs.Prelude.Std.{◌≡◌, ℕ, ◌-◌, ℤ, pos, map, true, List, length, slice_index, Some, None, ap, ◌∙◌, arith, All, range_with_len}
use Rattle.segment_invariant.proofs.Prelude.Machine.{boundaries_of, buckets_of, spec_fault, Known, bucket_key, has_buckets}
use Rattle.std.proofs.lemmas.Simd.{map-map}
use Rattle.std.proofs.lemmas.List.FromFn.{get_or-map-range_with_len, length-map-range_with_len}
use Rattle.segment_promises.specs.Totals.{blank_totals}
use Rattle.segment_promises.proofs.Calls.SpecBuckets.{count_is}

-- the keys of the buckets of a histogram
pub keys_of_buckets : (known : Known) (boundaries : List ℕ) → spec_fault known.spec ≡ None → has_buckets known.spec ≡ true
    → boundaries ≡ boundaries_of known.spec
    → (map (λ (total : ℤ × ℕ). total.0) (blank_totals boundaries) ≡ map (bucket_key (Some known)) (range_with_len 0 (buckets_of known.spec)))
    × (length (blank_totals boundaries) ≡ buckets_of known.spec)
keys_of_buckets known boundaries lawful has are =
    let n : length boundaries - 1 ≡ buckets_of known.spec = count_is known.spec lawful has boundaries are in (
      map-map (λ (total : ℤ × ℕ). total.0) (λ i. (pos (slice_index boundaries i), 0)) (range_with_len 0 (length boundaries - 1))
          ∙ (λ j. map (λ i. pos (slice_index (are j) i)) (range_with_len 0 (n j))),
      length-map-range_with_len (λ i. (pos (slice_index boundaries i), 0)) 0 (length boundaries - 1) ∙ n,
    )

pub no_units : (boundaries : List ℕ) → All (λ total. total.1 ≡ 0) (blank_totals boundaries)
no_units boundaries k d below =
    let blank : ℕ → ℤ × ℕ = λ i. (pos (slice_index boundaries i), 0) in
    let long = length-map-range_with_len blank 0 (length boundaries - 1) in
    ap (λ (total : ℤ × ℕ). total.1) (get_or-map-range_with_len blank 0 (length boundaries - 1) k k d (omega (arith, below, long)) (omega arith))
