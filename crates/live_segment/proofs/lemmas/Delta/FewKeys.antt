-- How many keys a delta and a snapshot have: no more than their histogram may have.
use Rattle.std.proofs.Common.{◌≡◌, ℕ, ◌-◌, ◌/◌, ◌≤◌, true, ℤ, List, length, Some, ap, arith}
use Rattle.std.proofs.lemmas.List.{length-map}
use Rattle.std.proofs.lemmas.List.FromFn.{length-map-range_with_len}
use Rattle.std.proofs.lemmas.List.Sorted.{length_permutation}
use Rattle.bucket_ranges.specs.declared.spec.Spec.TheVariants as spec
use Rattle.bucket_ranges.specs.Spec.{buckets_of}
use Rattle.segment_calls.specs.declared.answer.Snapshot.{Snapshot}
use Rattle.segment_machine.specs.declared.actor.Actor.{Actor}
use Rattle.segment_machine.specs.declared.actor.Known.{Known}
use Rattle.segment_machine.specs.Actor.{bucket_key, has_buckets}
use Rattle.segment_promises.specs.Values.{AreSorted}
use Rattle.live_segment.specs.declared.segment.Segment.{Segment}
use Rattle.live_segment.specs.Snapshot.Outcome.{HasSnapshot}
use Rattle.live_segment.specs.List.Values.{AreFewKeys}

module _ (segment : Segment) (known : Known) where
  -- ---- with buckets

  pub few_of_buckets : (counts : List (ℤ × ℕ)) → has_buckets known.spec ≡ true → length counts ≤ buckets_of known.spec → AreFewKeys segment known counts
  few_of_buckets counts bucketed few many (buckets, values) = let all = buckets bucketed in omega (arith, few, all)

  -- a snapshot has each bucket once
  pub few_of_snapshot : (old : Actor) (snapshot : Snapshot) (new : Actor) → has_buckets known.spec ≡ true → HasSnapshot known old snapshot new
      → AreFewKeys segment known snapshot.counts.items
  few_of_snapshot old snapshot new bucketed has =
      let keys = ap length (has.saw.buckets bucketed).0 in
      let counts = length-map snapshot.counts.items (λ (count : ℤ × ℕ). count.0) in
      let all = length-map-range_with_len (bucket_key (Some known)) 0 (buckets_of known.spec) in
      few_of_buckets snapshot.counts.items bucketed (omega (arith, keys, counts, all))

  -- ---- without

  module _ (sparse : known.spec ≡ spec.Sparse) (listed counts : List (ℤ × ℕ)) (sorted : AreSorted listed counts) where
    pub few_of_values : length listed ≤ (segment.setting.shape.size - 16) / 5 → AreFewKeys segment known counts
    few_of_values few many (buckets, values) =
        let all = values sparse in let moved = length_permutation listed counts sorted.moved in omega (arith, few, all, moved)
