-- A snapshot gets its answer: its recorder has looked again, has loaded the sum and the redundant count, and notes what it saw.
use Rattle.std.proofs.Common.{◌≡◌, ◌≢◌, ℕ, ◌+◌, ◌≤◌, true, true≢false, ℤ, List, [], ◌∷◌, ◌++◌, drop, length, map, Some, inl, inr, ⊎_elim, refl, sym, ap, ◌∙◌, subst, arith, length-append}
use Rattle.std.specs.List.{Contains, range_with_len}
use Rattle.std.proofs.lemmas.List.{drop-append-le}
use Rattle.std.proofs.lemmas.List.Elements.{Contains-append_left}
use Rattle.bucket_ranges.specs.declared.spec.Spec.{Spec}
use Rattle.bucket_ranges.specs.declared.spec.Spec.TheVariants as spec
use Rattle.bucket_ranges.specs.Spec.{buckets_of}
use Rattle.segment_calls.specs.declared.answer.Snapshot.{Snapshot}
use Rattle.segment_machine.specs.declared.actor.Actor.{Actor}
use Rattle.segment_machine.specs.declared.actor.Answered.{Answered}
use Rattle.segment_machine.specs.declared.actor.Known.{Known}
use Rattle.segment_machine.specs.declared.seen.Sighting.{Sighting}
use Rattle.segment_machine.specs.Actor.{bucket_key, has_buckets, is_opener, SawCount}
use Rattle.segment_machine.specs.Calls.{sight}
use Rattle.segment_machine.specs.Event.{taking_event}
use Rattle.segment_machine.specs.Taking.{load_sum}
use Rattle.segment_machine.specs.Note.{answers, MayNote, noted, SawAll, SawBucket}
use Rattle.live_segment.specs.declared.recorder.KnownHistogram.{KnownHistogram}
use Rattle.live_segment.specs.declared.rule.Setting.{Setting}
use Rattle.live_segment.specs.declared.segment.Segment.{Segment}
use Rattle.live_segment.specs.Holders.{table_of, MayStep}
use Rattle.segment_promises.specs.Onward.{SeesOn}
use Rattle.live_segment.specs.Snapshot.Outcome.{HasLooked, HasLookedAtAll, HasSeenBuckets, HasSnapshot, saw_sum}
use Rattle.live_segment.specs.Steps.{Pass, IsAtRest}
use Rattle.live_segment.specs.Steps.Taking.{answered_as}
use Rattle.live_segment.specs.Steps.GhostNotes.{KnowsAlone}
use Rattle.live_segment.specs.Known.{KnowsRight, known_view}
use Rattle.live_segment.proofs.lemmas.Add.Beginning.{known_there}
use Rattle.segment_promises.specs.Totals.{blank_totals}
use Rattle.segment_promises.proofs.Calls.BlankTotals.{keys_of_buckets}
use Rattle.live_segment.proofs.lemmas.Steps.Proceeding.{sees_count, sees_on}

-- what it had seen since it began to look it has still seen when it sees more counts
pub counted_since : (a : Actor) (more : List Sighting) → a.since.counts ≤ length a.seen.counts
    → drop a.since.counts (a.seen.counts ++ more) ≡ drop a.since.counts a.seen.counts ++ more
counted_since a more since = drop-append-le a.since.counts a.seen.counts more since

pub saw_still : (a : Actor) (more : List Sighting) (at word : ℕ) → a.since.counts ≤ length a.seen.counts → SawCount a at word
    → Contains (drop a.since.counts (a.seen.counts ++ more)) (record { at = at; word = word })
saw_still a more at word since saw =
    let seen : Sighting = record { at = at; word = word } in
    subst (λ (l : List Sighting). Contains l seen) (sym (counted_since a more since)) (Contains-append_left (drop a.since.counts a.seen.counts) more seen saw)

-- a spec with buckets is not sparse
pub not_sparse : (s : Spec) → has_buckets s ≡ true → s ≢ spec.Sparse
not_sparse s has is = true≢false (sym has ∙ ap has_buckets is)

-- it may load the sum then
pub may_sum : (segment : Segment) (known : Known) (seat : Pass) (old : Actor) → seat.table_id ≡ table_of segment → IsAtRest old → KnowsAlone old known
    → HasLooked old seat.me.0 → MayStep segment seat (taking_event (load_sum known.reference))
may_sum segment known seat old table rests alone looked = record {
  table = table;
  recorder = ap (λ (x : Actor). is_opener x.role) looked.same ∙ rests.recorder;
  ready = (
    looked.free,
    (
      known,
      subst (λ (x : Actor). Contains x.answers.names known) (sym looked.same) (known_there old.answers.names known.reference known alone).0,
      refl,
    ),
  );
}

module _ (known : Known) (a b : Actor) (looked : HasLooked a b) (snapshot : Snapshot) where
  -- it has loaded the sum and the redundant count
  abbrev pub summed : Actor
  summed = saw_sum b known.reference snapshot.sum snapshot.redundant

  abbrev pub answered : Answered
  answered = answered_as summed known snapshot

  pub began : b.since.counts ≤ length b.seen.counts
  began =
      let (more, grown) = looked.seen.counts in
      let since : b.since.counts ≡ length a.seen.counts = ap (λ (x : Actor). x.since.counts) looked.same in
      let long : length b.seen.counts ≡ length a.seen.counts + length more = ap length grown ∙ length-append a.seen.counts more in
      omega (arith, since, long)

  pub redundant_last : (before : List Sighting)
      × (drop summed.since.counts summed.seen.counts ≡ before ++ record { at = known.reference + 13; word = snapshot.redundant } ∷ [])
  redundant_last = (drop b.since.counts b.seen.counts, counted_since b (sight (known.reference + 13) snapshot.redundant) began)

  same_answer : answered ≡ answered_as a known snapshot
  same_answer = ap (λ (x : Actor). answered_as (saw_sum x known.reference snapshot.sum snapshot.redundant) known snapshot) looked.same

  sees : SeesOn b.seen summed.seen
  sees = sees_count b.seen (sight (known.reference + 13) snapshot.redundant)

  -- it may note that, and has
  pub may_answer : (now : Actor) → KnowsAlone a known → SawAll summed known answered → now ≡ summed → MayNote now (answers (answered_as now known snapshot))
  may_answer now alone saw is = subst (λ (x : Actor). MayNote x (answers (answered_as x known snapshot))) (sym is) (
    known,
    subst (λ (x : Actor). Contains x.answers.names known) (sym looked.same) (known_there a.answers.names known.reference known alone).0,
    refl,
    saw,
    refl,
  )

  pub has_snapshot : (new : Actor) → SawAll summed known answered → new ≡ noted summed (answers answered) → HasSnapshot known a snapshot new
  has_snapshot new saw is = subst (HasSnapshot known a snapshot) (sym is) (record {
    same = ap (λ (x : Actor). let y = saw_sum x known.reference snapshot.sum snapshot.redundant in noted y (answers (answered_as y known snapshot))) looked.same;
    free = refl;
    seen = sees_on a.seen b.seen summed.seen looked.seen sees;
    saw = subst (SawAll (noted summed (answers answered)) known) same_answer (record {
      buckets = saw.buckets;
      samples = saw.samples;
      once = saw.once;
      values = saw.values;
      sum = saw.sum;
      redundant = saw.redundant;
    });
  })

-- a snapshot of buckets
module _ (known : Known) (a b : Actor) (snapshot : Snapshot) (has : has_buckets known.spec ≡ true) (seen : HasSeenBuckets known a snapshot.counts.items b) where
  saw_bucket : (bucket total : ℕ) → SawBucket b known bucket total → SawBucket (summed known a b seen.looked snapshot) known bucket total
  saw_bucket bucket total (word, single, form) = (
    word,
    single,
    ⊎_elim inl
        (λ (off, (counts, count, there, saw, sum)). inr (
          off,
          (
            counts,
            count,
            there,
            saw_still b (sight (known.reference + 13) snapshot.redundant) (counts + 4 + bucket) count (began known a b seen.looked snapshot) saw,
            sum,
          ),
        )) form,
  )

  saw_buckets : map (λ (total : ℤ × ℕ). total.0) snapshot.counts.items ≡ map (bucket_key (Some known)) (range_with_len 0 (buckets_of known.spec))
      → SawAll (summed known a b seen.looked snapshot) known (answered known a b seen.looked snapshot)
  saw_buckets keys = record {
    buckets = λ _. (keys, λ bucket count there. saw_bucket bucket count.1 (seen.saw bucket count there));
    samples = λ is. absurd (not_sparse known.spec has is);
    once = λ is. absurd (not_sparse known.spec has is);
    values = λ is. absurd (not_sparse known.spec has is);
    sum = refl;
    redundant = redundant_last known a b seen.looked snapshot;
  }

pub has_seen_buckets : {setting : Setting} {histogram : KnownHistogram} {a b : Actor} {totals counts : List (ℤ × ℕ)} → KnowsRight setting a histogram
    → has_buckets histogram.spec ≡ true → totals ≡ blank_totals histogram.ranges
    → map (λ (total : ℤ × ℕ). total.0) counts ≡ map (λ (total : ℤ × ℕ). total.0) totals → HasSeenBuckets (known_view histogram) a counts b
    → HasLookedAtAll (known_view histogram) a counts b
has_seen_buckets {setting} {histogram} {a} {b} {totals} {counts} right has blank keys seen = record {
  looked = seen.looked;
  saw = λ behind once snapshot is.
      saw_buckets (known_view histogram) a b snapshot has (subst (λ (l : List (ℤ × ℕ)). HasSeenBuckets (known_view histogram) a l b) (sym is) seen)
      (ap (map (λ (total : ℤ × ℕ). total.0)) (is) ∙ (keys ∙ (ap (map (λ (total : ℤ × ℕ). total.0)) blank
      ∙ (keys_of_buckets (known_view histogram) histogram.ranges right.lawful has right.ranges).0)));
}
