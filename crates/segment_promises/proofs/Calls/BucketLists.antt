-- What a delta lists of the buckets of a histogram, one after the other: their keys ascend.
use Rattle.segment_invariant.proofs.Prelude.Std.{◌≡◌, ℕ, ◌+◌, ◌<◌, ◌≤◌, ℤ, pos, map, nat_lt, if◌then◌else◌, Bool, List, [], ◌∷◌, ◌++◌, slice_index, Some, refl, sym, ap, subst, arith, AllByRecursion, lt-ltb, All-push}
use Rattle.segment_invariant.proofs.Prelude.Machine.{boundaries_of, buckets_of, Known, bucket_key}
use Rattle.std.proofs.Common.{Less, Equal, Greater}
use Rattle.std.specs.List.Sorted.{IsStrictlySortedBy}
use Rattle.std.specs.Ordering.{int_cmp}
use Rattle.std.proofs.lemmas.List.{map_push}
use Rattle.bucket_ranges.specs.Ranges.{SplitsValues}
use Rattle.bucket_ranges.proofs.Buckets.{ascends}
use Rattle.segment_promises.specs.Calls.{AreBelow, AreUnits}
use Rattle.segment_promises.proofs.Growing.{all_push}

sorted_push : (keys : List ℤ) (key : ℤ) → IsStrictlySortedBy int_cmp keys → AllByRecursion (λ k. int_cmp k key ≡ Less) keys
    → IsStrictlySortedBy int_cmp (keys ++ key ∷ [])
unfolding IsStrictlySortedBy
sorted_push [] key sorted below = (tt, tt)
sorted_push (k ∷ keys) key (first, rest) (less, below) = (all_push (λ x. int_cmp k x ≡ Less) keys key first less, sorted_push keys key rest below)

pos_less : (a b : ℕ) → a < b → int_cmp (pos a) (pos b) ≡ Less
pos_less a b below = ap (λ (t : Bool). if t then Less else (if nat_lt b a then Greater else Equal)) (lt-ltb a b below)

pub still_below : (known : Known) (bucket : ℕ) (counts : List (ℤ × ℕ)) → AreBelow known bucket counts → AreBelow known (bucket + 1) counts
still_below known bucket [] all = all
still_below known bucket (c ∷ counts) ((i, lt, is), rest) = ((i, omega (arith, lt), is), still_below known bucket counts rest)

pub last_below : (known : Known) (bucket units : ℕ) (counts : List (ℤ × ℕ)) → AreBelow known bucket counts
    → AreBelow known (bucket + 1) (counts ++ (bucket_key (Some known) bucket, units) ∷ [])
last_below known bucket units [] all = ((bucket, omega arith, refl), tt)
last_below known bucket units (c ∷ counts) ((i, lt, is), rest) = ((i, omega (arith, lt), is), last_below known bucket units counts rest)

module _ (known : Known) (split : SplitsValues (buckets_of known.spec) (boundaries_of known.spec)) where
  pub keys_below : (bucket : ℕ) → bucket < buckets_of known.spec → (counts : List (ℤ × ℕ)) → AreBelow known bucket counts
      → AllByRecursion (λ k. int_cmp k (bucket_key (Some known) bucket) ≡ Less) (map (λ (c : ℤ × ℕ). c.0) counts)
  keys_below bucket under [] all = tt
  keys_below bucket under (c ∷ counts) ((i, lt, is), rest) =
      let long = split.count in
      let next = split.ascending i (omega (arith, lt, under, long)) in
      let up = ascends (boundaries_of known.spec) (i + 1) bucket split.ascending (omega (arith, lt)) (omega (arith, under, long)) in (
        subst (λ (k : ℤ). int_cmp k (bucket_key (Some known) bucket) ≡ Less) (sym is)
            (pos_less (slice_index (boundaries_of known.spec) i) (slice_index (boundaries_of known.spec) bucket) (omega (arith, next, up))),
        keys_below bucket under counts rest,
      )

  pub units_push : (bucket units : ℕ) → bucket < buckets_of known.spec → 1 ≤ units → (counts : List (ℤ × ℕ)) → AreBelow known bucket counts → AreUnits counts
      → AreUnits (counts ++ (bucket_key (Some known) bucket, units) ∷ [])
  units_push bucket units under least counts below are =
      let last : ℤ × ℕ = (bucket_key (Some known) bucket, units) in record {
        ascending = subst (IsStrictlySortedBy int_cmp) (sym (map_push (λ (c : ℤ × ℕ). c.0) counts last))
            (sorted_push (map (λ (c : ℤ × ℕ). c.0) counts) last.0 are.ascending (keys_below bucket under counts below));
        some = All-push (λ (c : ℤ × ℕ). 1 ≤ c.1) counts last are.some least;
      }
