-- What a snapshot returns is at least what its recorder had accepted and seen.
use Rattle.segment_invariant.proofs.Prelude.Std.{◌≡◌, ◌≢◌, ℕ, zero, suc, ◌+◌, ◌<◌, ◌≤◌, ℤ, true, List, length, ⊎_elim, refl, sym, ap, subst, ◌∙◌, arith, false, some, some-injective, get_elem?, if◌then◌else◌, Some, range_with_len, Contains, int_eq, Decides-int_eq, All-contains, Contains-append_right, length-map, at_map, at_from, sum_at_least, contains_mapped}
use Rattle.segment_invariant.proofs.Prelude.Machine.{Dimensions, buckets_of, Spent, Actor, Answered, Known, Sighting, tally_noted, has_buckets, bucket_key, units_listed, SawCount, is_opener, IsFirstSample, State}
use Rattle.segment_invariant.proofs.Prelude.Invariant.{Anatomy, IsFirstOf, Invariant}
use Rattle.std.proofs.lemmas.List.FromFn.{length-range_with_len}
use Rattle.bucket_ranges.specs.declared.spec.Spec.TheVariants as spec
use Rattle.segment_machine.specs.Actor.{accepted_since}
use Rattle.segment_machine.specs.Note.{SawAll}
use Rattle.segment_invariant.proofs.Counting.AddSample.{one_sample}
use Rattle.list_lemmas.proofs.Elements.{there_below}
use Rattle.list_lemmas.proofs.Maps.{one_at}
use Rattle.segment_invariant.proofs.Counting.Samples.{first_met}
use Rattle.segment_promises.specs.Deltas.{SnapshotsSeeAccepted}
use Rattle.segment_promises.proofs.Enough.{CoversBucket, CoversValue, knower_lives, buckets_enough, values_enough}

-- one that is listed with a key is among the units of that key
listed_least : (counts : List (ℤ × ℕ)) (i : ℕ) (count : ℤ × ℕ) (key : ℤ) → get_elem? counts i ≡ some count → count.0 ≡ key → count.1 ≤ units_listed counts key
listed_least counts i count key at is =
    let least = sum_at_least (λ (c : ℤ × ℕ). if int_eq c.0 key then c.1 else 0) counts i count at in
    let test = (Decides-int_eq count.0 key).1 is in
    let its : (if int_eq count.0 key then count.1 else 0) ≡ count.1 = (λ k. if test k then count.1 else 0) in
    omega (arith, least, its)

range_there : (a n j : ℕ) → j < n → get_elem? (range_with_len a n) j ≡ some (a + j)
range_there a zero j lt = absurd (omega (arith, lt))
range_there a (suc n) zero lt = let e : a ≡ a + 0 = omega arith in ap some e
range_there a (suc n) (suc j) lt = let e : a + 1 + j ≡ a + suc j = omega arith in range_there (a + 1) n j (omega (arith, lt)) ∙ ap some e

module _ (shape : Dimensions) (opened : Anatomy) (state : State) (kept : Invariant shape opened state) (id : ℕ) (a : Actor)
    (mine : get_elem? state.actors id ≡ some a) (known : Known) (has : Contains a.answers.names known) (records : is_opener a.role ≡ false)
    (answered : Answered) (saw : SawAll a known answered) where
  lives : a.hand.place ≢ Spent
  lives = knower_lives shape opened state kept id a mine known has

  -- a value whose first sample was visited is listed with what was seen of that sample
  value_listed : known.spec ≡ spec.Sparse → (value : ℤ) → CoversValue shape opened state kept id a mine known has records (units_listed answered.counts) value
  value_listed sparse value at least first (met, sampled) owes =
      let (count, counted, either) = saw.values sparse value at met sampled in
      ⊎_elim
      (λ none. let le = owes count counted in omega (arith, le, none))
      (λ there.
      let (c, among, is) = contains_mapped (λ (count : ℤ × ℕ). count.0) answered.counts value there in
      let (sample, is_first, its) = All-contains (λ (count : ℤ × ℕ). (sample : ℕ) × IsFirstSample a.seen known.reference count.0 sample × SawCount a (sample + 6) count.1)
      answered.counts c (saw.samples sparse) among in
      let also = subst (λ (v : ℤ). IsFirstOf kept.anatomy.records known.reference v sample) is
      (first_met shape opened state kept id a mine lives known.reference c.0 sample is_first) in
      let same = one_sample kept.anatomy.records known.reference value sample at also first in
      let le = owes c.1 (subst (λ (n : ℕ). SawCount a (n + 6) c.1) same its) in
      let (i, there) = at_from answered.counts c among in
      let more = listed_least answered.counts i c value there is in
      omega (arith, le, more))
      either

  -- a bucket's total is listed
  bucket_listed : has_buckets known.spec ≡ true → (i : ℕ) → i < buckets_of known.spec
      → CoversBucket shape opened state kept id a mine known has records (units_listed answered.counts) i
  bucket_listed bucketed i below =
      let (keys, each) = saw.buckets bucketed in
      let long : length answered.counts ≡ buckets_of known.spec =
      sym (length-map answered.counts (λ (count : ℤ × ℕ). count.0)) ∙ (ap length keys
      ∙ (length-map (range_with_len 0 (buckets_of known.spec)) (bucket_key (Some known)) ∙ length-range_with_len 0 (buckets_of known.spec))) in
      let (count, there) = there_below answered.counts i (omega (arith, below, long)) in
      let key : count.0 ≡ bucket_key (Some known) i = some-injective _ _
      (sym (at_map (λ (count : ℤ × ℕ). count.0) answered.counts i count there)
      ∙ (ap (λ (list : List ℤ). get_elem? list i) keys
      ∙ at_map (bucket_key (Some known)) (range_with_len 0 (buckets_of known.spec)) i i (range_there 0 (buckets_of known.spec) i below ∙ ap (λ (n : ℕ). some n) zero_i))) in
      (count.1, each i count there, listed_least answered.counts i count (bucket_key (Some known) i) there key)
    where
      zero_i : 0 + i ≡ i
      zero_i = omega arith

pub snapshots_see_accepted : SnapshotsSeeAccepted
snapshots_see_accepted shape opened state who opener a known answered kept first mine records has saw = (
  (
    λ bucketed. buckets_enough shape opened state kept who a mine known has records (units_listed answered.counts)
        (bucket_listed shape opened state kept who a mine known has records answered saw bucketed),
    λ sparse. values_enough shape opened state kept who a mine known has records (units_listed answered.counts) sparse
        (value_listed shape opened state kept who a mine known has records answered saw sparse),
  ),
  (let least = (kept.each who a mine (knower_lives shape opened state kept who a mine known has)).looks records in
      let noted = least.noted known answered.redundant has last in
      let begun = kept.first_noted known.name in
      let same = one_at state.actors 0 kept.roles.opener opener kept.roles.stands first in
      let since = ap (λ (o : Actor). tally_noted (accepted_since o a) known.name) same in
      omega (arith, noted, begun, since)),
  λ count had. ((kept.each who a mine (knower_lives shape opened state kept who a mine known has)).looks records).rising (record { at = known.reference + 13; word = count })
      (record { at = known.reference + 13; word = answered.redundant }) had last refl,
)
  where
    last : SawCount a (known.reference + 13) answered.redundant
    last =
        let (before, is) = saw.redundant in
        subst (λ (list : List Sighting). Contains list (record { at = known.reference + 13; word = answered.redundant })) (sym is)
        (Contains-append_right before _ _ (0, omega arith, refl))
