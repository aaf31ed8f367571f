-- A snapshot, event by event.
use Rattle.segment_invariant.proofs.Prelude.Std.{◌≡◌, ◌⊎◌, ℕ, ◌+◌, ◌*◌, ◌<◌, ◌≤◌, ℤ, Bool, true, false, true≢false, if◌then◌else◌, nat_lt, List, [], ◌∷◌, ◌++◌, drop, length, map, Option, Some, inl, inr, ⊎_elim, refl, sym, ap, subst, ◌∙◌, arith, All, Contains, range_with_len, cast_signed, w64, props, ∥∥₁_elim, ltb-true, ltb-false, append-nil, drop-append-le, length-append, All-contains, set-get_or, some, get_elem?}
use Rattle.segment_invariant.proofs.Prelude.Machine.{buckets_of, boundaries_of, single_of, units_packed, Dimensions, word_at, Actor, Answered, Known, Looking, SumLoaded, IsFirstSample, SawSample, Sparse, Buckets, SawCount, bucket_key, has_buckets, is_bound, is_opener, known_at, MayTurn, look_of, sight, sight_counts, load_counts, Event, next, counting_event, packing_event, taking_event, SawBucket, noted, load_single, load_count, load_redundant, load_sum}
use Rattle.bucket_ranges.specs.Ranges.{SplitsValues}
use Rattle.bucket_ranges.proofs.Ascent.{boundaries_of-split}
use Rattle.segment_invariant.proofs.Lists.Elements.{below_length, contains_at}
use Rattle.segment_invariant.proofs.Packing.OffForms.{few_buckets}
use Rattle.segment_machine.specs.Note.{SawAll, answers, looks, moment_of}
use Rattle.segment_machine.specs.Packing.{IsSingleOf}
use Rattle.hist_core.proofs.Parts.Alone.{by_event, seen_alike, seen_words}
use Rattle.hist_core.specs.declared.snapshot_call.SnapshotCall.{SnapshotCall}
use Rattle.hist_core.specs.declared.snapshot_call.SnapshotCallStep.TheVariants.{More, Done}
use Rattle.hist_core.specs.declared.snapshot_call.SnapshotStage.{SnapshotStage}
use Rattle.hist_core.specs.declared.snapshot_call.SnapshotStage.TheVariants.{LoadingSingle, LoadingCounts, LoadingCount, Walking, LoadingSample, LoadingSum, LoadingRedundant}
use Rattle.hist_core.specs.declared.mounted.Mounted.{Mounted}
use Rattle.hist_core.specs.StepsBy.{FrameOfStep, StepsBy, IsInOrder, WalksInOrder, is_tied, LiesWithin}
use Rattle.hist_core.specs.SnapshotCall.{HasKeys, IsBehindSingle, IsSnapshotCall, IsTotalPut, IsSomeSnapshotCall, LooksAnew, SnapshotCallGives, SawTotalsBefore, SawTotalsOf, StandsAtStage, behind_bucket}
use Rattle.hist_core.specs.Mounted.{AreMounted, HasWord, total_at}
use Rattle.segment_machine.specs.Form.{SaysPacked}
use Rattle.segment_promises.specs.Calls.{SeesMore}
use Rattle.segment_promises.proofs.Calls.Sights.{began_still, saw_bucket, saw_count, seen_here}
use Rattle.segment_promises.proofs.Calls.Places.{looks_there}
use Rattle.hist_core.proofs.Worlds.Quiet.{not_spent}
use Rattle.hist_core.proofs.DeltaCall.Counts.{are_mounted, count_placed, may_load, saw_total, some_buckets, still_mounted, total_is}
use Rattle.hist_core.proofs.DeltaCall.Going.{taking_sees}
use Rattle.hist_core.proofs.Walks.Passing.{all_still, are_all, are_first, are_once, are_units}
use Rattle.hist_core.proofs.DeltaCall.Singles.{none_packed}

-- it looks at the same histogram, with a total for each key
record IsSame (old new : SnapshotCall) : Type 0 where
  pub version : new.version ≡ old.version
  pub histogram : new.histogram ≡ old.histogram
  pub keys : map (λ total. total.0) new.totals.items ≡ map (λ total. total.0) old.totals.items
  pub long : length new.totals.items ≡ length old.totals.items

-- what a snapshot saw of the counts of a histogram
record SawTotalsIn (a : Actor) (known : Known) (answered : Answered) : Type 0 where
  pub buckets : has_buckets known.spec ≡ true
      → (map (λ count. count.0) answered.counts ≡ map (bucket_key (Some known)) (range_with_len 0 (buckets_of known.spec)))
      × ((bucket : ℕ) (count : ℤ × ℕ) → get_elem? answered.counts bucket ≡ some count → SawBucket a known bucket count.1)
  pub samples : known.spec ≡ Sparse
      → All (λ count. (sample : ℕ) × IsFirstSample a.seen known.reference count.0 sample × SawCount a (sample + 6) count.1) answered.counts
  pub once : known.spec ≡ Sparse → (i j : ℕ) (x y : ℤ × ℕ) → get_elem? answered.counts i ≡ some x → get_elem? answered.counts j ≡ some y
      → x.0 ≡ y.0 → i ≡ j
  pub values : known.spec ≡ Sparse → (value : ℤ) (sample : ℕ) → Contains a.seen.chain sample → SawSample a.seen known.reference value sample
      → (count : ℕ) × SawCount a (sample + 6) count × ((count ≡ 0) ⊎ Contains (map (λ count. count.0) answered.counts) value)

-- so it still has its keys
keys_still : (known : Known) (old new : SnapshotCall) → IsSame old new → HasKeys known old → HasKeys known new
keys_still known old new same has = record { bucketed = has.bucketed; keys = same.keys ∙ has.keys; buckets = same.long ∙ has.buckets }

module _ (shape : Dimensions) (known : Known) (snapshot_call : SnapshotCall) (a : Actor) (words : List ℕ) (is : IsSnapshotCall shape known snapshot_call a) where
  pub is_inside : (n : ℕ) → n ≡ shape.size → (snapshot_call.histogram + 15 ≤ n) × (n ≤ 1048576)
  is_inside n long =
      let within = is.within in let many = is.lawful_shape.many in (omega (arith, long, within), omega (arith, long, many))

  knows_it : HasKeys known snapshot_call → Buckets a known.reference known
  knows_it has = (is.knows, refl, has.bucketed)

  few : HasKeys known snapshot_call → buckets_of known.spec ≤ 1000
  few has = few_buckets known.spec is.lawful

  split : HasKeys known snapshot_call → SplitsValues (buckets_of known.spec) (boundaries_of known.spec)
  split has = boundaries_of-split known.spec is.lawful (λ sparse. true≢false (sym has.bucketed ∙ ap has_buckets sparse))

  -- it continues at another stage, and may have seen more
  pub goes_still : (new : SnapshotCall) (b : Actor) → new.version ≡ snapshot_call.version → new.histogram ≡ snapshot_call.histogram → FrameOfStep a b → MayTurn b
      → StandsAtStage shape known new b new.stage → IsSnapshotCall shape known new b
  goes_still new b versioned of beside turns stands = record {
    segment = ap (λ s. s.shape) beside.segment ∙ is.segment;
    version = ap (λ s. s.version) beside.segment ∙ (is.version ∙ sym versioned);
    lawful_shape = is.lawful_shape;
    recorder = ap is_opener beside.role ∙ is.recorder;
    counts_nothing = ap (λ e. e.running) beside.entries ∙ is.counts_nothing;
    takes_nothing = ap (λ d. d.taking) beside.deltas ∙ is.takes_nothing;
    turns = turns;
    reference = is.reference ∙ sym of;
    within = subst (λ (h : ℕ). h + 15 ≤ shape.size) (sym of) is.within;
    lawful = is.lawful;
    knows = subst (λ (l : List Known). Contains l known) (sym beside.names) is.knows;
    alone = ap (λ (l : List Known). known_at l known.reference) beside.names ∙ is.alone;
    stands = stands;
  }

  -- ---- the single word is loaded
  module _ (loads : snapshot_call.stage ≡ LoadingSingle) where
    before_single : StandsAtStage shape known snapshot_call a LoadingSingle
    before_single = subst (StandsAtStage shape known snapshot_call a) loads is.stands

    abbrev has_single : HasKeys known snapshot_call
    has_single = before_single.0

    abbrev found : ℕ
    found = word_at words (known.reference + 9)

    abbrev event : Event
    event = packing_event (load_single known.reference)

    abbrev acted : Actor
    acted = next (noted a looks) event found

    beside : FrameOfStep a acted
    beside = seen_alike a acted refl refl refl refl refl refl refl refl

    module _ (learned : IsSingleOf (noted a looks) known.reference found) (new : SnapshotCall) where
      has_word : HasWord known found acted
      has_word = record {
        began = record {
          singles = let long = length-append a.seen.singles (sight (known.reference + 9) found) in omega (arith, long);
          counts = omega arith;
        };
        saw = seen_here (length a.seen.singles) a.seen.singles (known.reference + 9) found (omega arith);
        formed = (learned known (knows_it has_single)).0;
        counts = (look_of a.hand.place known.reference).counts;
        stands = ap (λ (n : ℕ). Looking (record { histogram = n; single = Some found; counts = (look_of a.hand.place known.reference).counts })) (looks_there a.hand.place known.reference);
      }

      same_behind : (stage : SnapshotStage) → IsBehindSingle snapshot_call found new stage → IsSame snapshot_call new
      same_behind (LoadingCounts packed kept) (off, says, small, same) = record {
        version = ap (λ (l : SnapshotCall). l.version) same;
        histogram = ap (λ (l : SnapshotCall). l.histogram) same;
        keys = ap (λ (l : SnapshotCall). map (λ total. total.0) l.totals.items) same;
        long = ap (λ (l : SnapshotCall). length l.totals.items) same;
      }
      same_behind LoadingSum (on, packed, same) = record {
        version = ap (λ (l : SnapshotCall). l.version) same;
        histogram = ap (λ (l : SnapshotCall). l.histogram) same;
        keys = packed.keys;
        long = packed.long;
      }
      same_behind LoadingSingle none = absurd none
      same_behind (LoadingCount mounted bucket) none = absurd none
      same_behind (LoadingRedundant sum) none = absurd none
      same_behind (Walking walk) none = absurd none
      same_behind (LoadingSample at value) none = absurd none

      stands_behind : (stage : SnapshotStage) → IsBehindSingle snapshot_call found new stage → StandsAtStage shape known new acted stage
      stands_behind (LoadingCounts packed kept) (off, says, small, same) = (
        keys_still known snapshot_call new (same_behind (LoadingCounts packed kept) (off, says, small, same)) has_single,
        small,
        (
          found,
          has_word,
          off,
          subst (λ (p : ℕ × ℕ). SaysPacked p.0 p.1 found packed kept) (λ i. (sym (ap (λ (l : SnapshotCall). l.version) same) i, has_single.buckets i)) says,
        ),
      )
      stands_behind LoadingSum (on, packed, same) = (
        inl (
          keys_still known snapshot_call new (same_behind LoadingSum (on, packed, same)) has_single,
          λ i total there. (
            found,
            has_word.saw,
            inl (
              on,
              ⊎_elim
                  (λ is_units. is_units ∙ ap (λ (p : ℕ × ℕ). units_packed (single_of p.0 p.1 found) i) (λ j. (sym is.version j, has_single.buckets j)))
                  (λ (apart, was).
                  All-contains (λ (t : ℤ × ℕ). t.1 ≡ 0) snapshot_call.totals.items total before_single.1 (contains_at snapshot_call.totals.items i total was)
                  ∙ (sym (none_packed (single_of snapshot_call.version (length snapshot_call.totals.items) found) i apart)
                  ∙ ap (λ (p : ℕ × ℕ). units_packed (single_of p.0 p.1 found) i) (λ j. (sym is.version j, has_single.buckets j))))
                  (packed.units i total there),
            ),
          ),
        ),
        has_word.began,
      )
      stands_behind LoadingSingle none = absurd none
      stands_behind (LoadingCount mounted bucket) none = absurd none
      stands_behind (LoadingRedundant sum) none = absurd none
      stands_behind (Walking walk) none = absurd none
      stands_behind (LoadingSample at value) none = absurd none

    pub loads_single : (new : SnapshotCall) → IsBehindSingle snapshot_call (word_at words (snapshot_call.histogram + 9)) new new.stage
        → StepsBy shape.size snapshot_call.version a words words (SnapshotCallGives shape known snapshot_call.stage new More a)
    loads_single new behind = record {
      before = looks ∷ [];
      at = noted a looks;
      told = ((λ e. true≢false (sym (ap is_bound e) ∙ is.turns), is.recorder, is.counts_nothing, is.takes_nothing), refl);
      event = event;
      ready = (is.turns, (known, knows_it has_single));
      words_are = sym (set-get_or words (known.reference + 9) 0);
      goes = λ learned apart ordered.
          let there : IsBehindSingle snapshot_call found new new.stage = subst (λ (h : ℕ). IsBehindSingle snapshot_call (word_at words (h + 9)) new new.stage) (sym is.reference) behind in
          let same = same_behind learned new new.stage there in
          ([], acted, refl, (beside, refl, subst (λ (stage : SnapshotStage). LooksAnew stage a acted) (sym loads) refl, goes_still new acted same.version same.histogram beside refl (stands_behind learned new new.stage there)));
    }

  -- ---- the counts reference is loaded
  module _ (packed : Option ℕ) (kept : ℕ) (loads : snapshot_call.stage ≡ LoadingCounts packed kept) where
    before_counts : StandsAtStage shape known snapshot_call a (LoadingCounts packed kept)
    before_counts = subst (StandsAtStage shape known snapshot_call a) loads is.stands

    abbrev has_counts : HasKeys known snapshot_call
    has_counts = before_counts.0

    pub loads_counts : (counts : ℕ) → counts ≡ word_at words (snapshot_call.histogram + 8)
        → let new : SnapshotCall = record snapshot_call { stage = LoadingCount (record { counts = counts; packed = packed; kept = kept }) 0 } in
        StepsBy shape.size snapshot_call.version a words words (SnapshotCallGives shape known snapshot_call.stage new More a)
    loads_counts counts is_counts =
        let found : ℕ = word_at words (known.reference + 8) in
        let same : found ≡ counts = ap (λ (h : ℕ). word_at words (h + 8)) is.reference ∙ sym is_counts in
        let event : Event = counting_event (load_counts known.reference) in
        let acted : Actor = next a event found in
        let new : SnapshotCall = record snapshot_call { stage = LoadingCount (record { counts = counts; packed = packed; kept = kept }) 0 } in
        let beside : FrameOfStep a acted = seen_words a acted (sight_counts known.reference found) refl refl refl refl refl refl refl refl in by_event event (is.turns, (known, knows_it has_counts))
        (sym (set-get_or words (known.reference + 8) 0))
        (λ learned apart ordered. (
          beside,
          refl,
          subst (λ (stage : SnapshotStage). LooksAnew stage a acted) (sym loads) refl,
          goes_still new acted refl refl beside refl (
            keys_still known snapshot_call new (record { version = refl; histogram = refl; keys = refl; long = refl }) has_counts,
            (λ i total lt there. absurd (omega (arith, lt))),
            some_buckets known.spec (split has_counts),
            (
              before_counts.2.0,
              subst (λ (n : ℕ). AreMounted known (record { counts = n; packed = packed; kept = kept }) before_counts.2.0 acted) same
                  (are_mounted known before_counts.2.0 a before_counts.2.1 before_counts.2.2 (knows_it has_counts) found packed kept
                  (subst (λ (v : ℕ). SaysPacked v (buckets_of known.spec) before_counts.2.0 packed kept) (sym is.version) before_counts.2.3) before_counts.1 learned),
            ),
          ),
        ))

  -- ---- the count of a bucket is loaded
  module _ (mounted : Mounted) (bucket : ℕ) (loads : snapshot_call.stage ≡ LoadingCount mounted bucket) where
    stands : StandsAtStage shape known snapshot_call a (LoadingCount mounted bucket)
    stands = subst (StandsAtStage shape known snapshot_call a) loads is.stands

    abbrev has_count : HasKeys known snapshot_call
    has_count = stands.0

    abbrev word : ℕ
    word = stands.3.0

    abbrev are : AreMounted known mounted word a
    are = stands.3.1

    abbrev at : ℕ
    at = mounted.counts + 4 + bucket

    abbrev count : ℕ
    count = word_at words at

    abbrev counted : Actor
    counted = next a (taking_event (load_count at)) count

    count_inside : (n : ℕ) → n ≡ shape.size → (mounted.counts + (4 + bucket) < n) × (bucket < length snapshot_call.totals.items)
    count_inside n long =
        let inside = stands.2 in
        let within = subst (λ s. mounted.counts + (4 + 2 * buckets_of known.spec) ≤ s.size) is.segment are.within in
        let buckets = has_count.buckets in (omega (arith, inside, within, long), omega (arith, inside, buckets))

    module _ (total : ℕ) (is_total : total ≡ total_at mounted bucket count) (new : SnapshotCall)
        (put : IsTotalPut bucket total (record snapshot_call { stage = behind_bucket (length snapshot_call.totals.items) mounted bucket }) new) where
      same : IsSame snapshot_call new
      same = record {
        version = ap (λ (l : SnapshotCall). l.version) put.same;
        histogram = ap (λ (l : SnapshotCall). l.histogram) put.same;
        keys = put.keys;
        long = put.long;
      }

      saw_these : count ≤ 4294967295 → SawTotalsBefore known new.totals.items (bucket + 1) counted
      saw_these small i x lt there =
          ⊎_elim
          (λ (here, same).
          subst (λ (p : ℕ × ℕ). SawBucket counted known p.0 p.1) (λ j. (sym here j, sym (same ∙ (is_total ∙ total_is known mounted word a are bucket stands.2 count small)) j))
          (saw_total known mounted word a are bucket stands.2 count))
          (λ (apart, was). saw_bucket a counted (taking_sees a (load_count at) count) are.began known i x.1 (stands.1 i x (omega (arith, lt, apart)) was))
          (put.units i x there)

      stands_then : count ≤ 4294967295 → StandsAtStage shape known new counted (behind_bucket (length snapshot_call.totals.items) mounted bucket)
      stands_then small = by (nat_lt (bucket + 1) (length snapshot_call.totals.items)) refl
        where
          by : (test : Bool) → nat_lt (bucket + 1) (length snapshot_call.totals.items) ≡ test
              → StandsAtStage shape known new counted (if test then LoadingCount mounted (bucket + 1) else LoadingSum)
          by true lt = (
            keys_still known snapshot_call new same has_count,
            saw_these small,
            (let under = ltb-true (bucket + 1) (length snapshot_call.totals.items) lt in let buckets = has_count.buckets in omega (arith, under, buckets)),
            (word, still_mounted known mounted word a are bucket stands.2 count),
          )
          by false ge = (
            inl (
              keys_still known snapshot_call new same has_count,
              (λ i x there.
                  saw_these small i x
                  (let over = ltb-false (bucket + 1) (length snapshot_call.totals.items) ge in let long = put.long in let below = below_length new.totals.items i x there in
                  omega (arith, over, long, below)) there),
            ),
            began_still a counted (taking_sees a (load_count at) count) are.began,
          )

      pub puts_count : StepsBy shape.size snapshot_call.version a words words (SnapshotCallGives shape known snapshot_call.stage new More a)
      puts_count =
          let beside : FrameOfStep a counted = seen_alike a counted refl refl refl refl refl refl refl refl in by_event (taking_event (load_count at)) (may_load known mounted word a are bucket stands.2 count)
          (sym (set-get_or words at 0))
          (λ learned apart ordered. (
            beside,
            refl,
            subst (λ (stage : SnapshotStage). LooksAnew stage a counted) (sym loads) refl,
            goes_still new counted same.version same.histogram beside (ap is_bound (count_placed known mounted word a are bucket stands.2 count))
                (subst (StandsAtStage shape known new counted) (sym (ap (λ (l : SnapshotCall). l.stage) put.same)) (stands_then learned.0)),
          ))

  -- ---- the sum is loaded
  module _ (loads : snapshot_call.stage ≡ LoadingSum) where
    before_sum : StandsAtStage shape known snapshot_call a LoadingSum
    before_sum = subst (StandsAtStage shape known snapshot_call a) loads is.stands

    pub loads_sum : (sum : ℤ) → sum ≡ cast_signed w64 (word_at words (snapshot_call.histogram + 11))
        → StepsBy shape.size snapshot_call.version a words words (SnapshotCallGives shape known snapshot_call.stage (record snapshot_call { stage = LoadingRedundant sum }) More a)
    loads_sum sum is_sum =
        let found : ℕ = word_at words (known.reference + 11) in
        let event : Event = taking_event (load_sum known.reference) in
        let acted : Actor = next a event found in
        let beside : FrameOfStep a acted = seen_alike a acted refl refl refl refl refl refl refl refl in by_event event (is.turns, (known, is.knows, refl))
        (sym (set-get_or words (known.reference + 11) 0))
        (λ learned apart ordered. (
          beside,
          refl,
          subst (λ (stage : SnapshotStage). LooksAnew stage a acted) (sym loads) refl,
          goes_still (record snapshot_call { stage = LoadingRedundant sum }) acted refl refl beside refl (
            ⊎_elim (λ (has, totals). inl (keys_still known snapshot_call (record snapshot_call { stage = LoadingRedundant sum }) (record { version = refl; histogram = refl; keys = refl; long = refl }) has, totals))
                (λ all. inr (all_still known a acted (taking_sees a (load_sum known.reference) found) snapshot_call.totals.items refl refl all)) before_sum.0,
            record { singles = before_sum.1.singles; counts = before_sum.1.counts },
            ap (λ (h : ℕ). SumLoaded known.reference (cast_signed w64 (word_at words (h + 11)))) is.reference ∙ ap (SumLoaded known.reference) (sym is_sum),
          ),
        ))

  -- ---- the redundant count is loaded, and the snapshot returns
  module _ (sum : ℤ) (loads : snapshot_call.stage ≡ LoadingRedundant sum) (redundant : ℕ) (is_redundant : redundant ≡ word_at words (snapshot_call.histogram + 13)) where
    before_last : StandsAtStage shape known snapshot_call a (LoadingRedundant sum)
    before_last = subst (StandsAtStage shape known snapshot_call a) loads is.stands

    abbrev last : ℕ
    last = word_at words (known.reference + 13)

    last_is : last ≡ redundant
    last_is = ap (λ (h : ℕ). word_at words (h + 13)) is.reference ∙ sym is_redundant

    abbrev loading : Event
    loading = taking_event (load_redundant known.reference)

    abbrev loaded : Actor
    loaded = next a loading last

    abbrev answered : Answered
    answered = record { name = known.name; counts = snapshot_call.totals.items; sum = sum; redundant = redundant; moment = moment_of a }

    sees : SeesMore a loaded
    sees = taking_sees a (load_redundant known.reference) last

    -- of buckets, or of samples
    saw_totals : SawTotalsOf known snapshot_call a → IsInOrder a → SawTotalsIn loaded known answered
    saw_totals (inl (has, saw)) order = record {
      buckets = λ bucketed. (has.keys, λ bucket count there. saw_bucket a loaded sees before_last.1 known bucket count.1 (saw bucket count there));
      samples = λ sparse. absurd (true≢false (sym has.bucketed ∙ ap has_buckets sparse));
      once = λ sparse. absurd (true≢false (sym has.bucketed ∙ ap has_buckets sparse));
      values = λ sparse. absurd (true≢false (sym has.bucketed ∙ ap has_buckets sparse));
    }
    saw_totals (inr all) order = record {
      buckets = λ bucketed. absurd (true≢false (sym bucketed ∙ ap has_buckets all.way.sparse));
      samples = λ sparse k d low.
          let (sample, first, saw) = are_first known snapshot_call.totals.items a order all k d low in (sample, first, saw_count a loaded sees before_last.1 (sample + 6) _ saw);
      once = λ sparse. are_once known snapshot_call.totals.items a order all;
      values = λ sparse value sample met saw.
          let (count, counted, either) = are_all known snapshot_call.totals.items a order all value sample met saw in
          (count, saw_count a loaded sees before_last.1 (sample + 6) count counted, either);
    }

    saw_all : IsInOrder a → SawAll loaded known answered
    saw_all order = let saw = saw_totals before_last.0 order in record {
      buckets = saw.buckets;
      samples = saw.samples;
      once = saw.once;
      values = saw.values;
      sum = before_last.2;
      redundant = (
        drop a.since.counts a.seen.counts,
        drop-append-le a.since.counts a.seen.counts (sight (known.reference + 13) last) before_last.1.counts
            ∙ ap (λ (n : ℕ). drop a.since.counts a.seen.counts ++ record { at = known.reference + 13; word = n } ∷ []) last_is,
      );
    }

    pub answers_so : WalksInOrder a → StepsBy shape.size snapshot_call.version a words words (SnapshotCallGives shape known snapshot_call.stage snapshot_call (Done sum redundant) a)
    answers_so order = let saw = saw_all (order (not_spent a.hand.place is.turns)) in record {
      before = [];
      at = a;
      told = refl;
      event = loading;
      ready = ((sum, before_last.2), (known, is.knows, refl));
      words_are = sym (set-get_or words (known.reference + 13) 0);
      goes = λ learned apart ordered. (
        answers answered ∷ [],
        noted loaded (answers answered),
        ((known, is.knows, refl, saw, refl), refl),
        (
          ap is_tied before_last.2,
          refl,
          subst (λ (stage : SnapshotStage). LooksAnew stage a (noted loaded (answers answered))) (sym loads) refl,
          record {
            beside = record {
              role = refl;
              segment = refl;
              units = refl;
              entries = refl;
              deltas = refl;
              names = refl;
              chain = ([], sym (append-nil a.seen.chain));
              words = ([], sym (append-nil a.seen.words));
            };
            answered = answered;
            deltas = refl;
            name = refl;
            counts = refl;
            sum_is = refl;
            redundant_is = refl;
            saw = record {
              buckets = saw.buckets;
              samples = saw.samples;
              once = saw.once;
              values = saw.values;
              sum = saw.sum;
              redundant = saw.redundant;
            };
            values = λ sparse.
                ⊎_elim (λ (has, totals). absurd (true≢false (sym has.bucketed ∙ ap has_buckets sparse)))
                (λ all. are_units known snapshot_call.totals.items a (order (not_spent a.hand.place is.turns)) all) before_last.0;
          },
        ),
      );
    }

-- the record of a snapshot that some actor runs lies within the words, which are at most 2^20
pub lies_within : (snapshot_call : SnapshotCall) (words : List ℕ) → ∥ IsSomeSnapshotCall (length words) snapshot_call ∥₁ → LiesWithin (length words) snapshot_call.histogram
lies_within snapshot_call words stands = ∥∥₁_elim stands (hlevel props) (λ (shape, known, a, long, is).
    let inside = is_inside shape known snapshot_call a words is (length words) long in record { within = inside.0; few = inside.1 })

-- and of a histogram with buckets there are few
pub some_few : (snapshot_call : SnapshotCall) (words : List ℕ) → snapshot_call.stage ≡ LoadingSingle → ∥ IsSomeSnapshotCall (length words) snapshot_call ∥₁ → length snapshot_call.totals.items ≤ 1000
some_few snapshot_call words loads stands = ∥∥₁_elim stands (hlevel props) (λ (shape, known, a, long, is).
    let has = (subst (StandsAtStage shape known snapshot_call a) loads is.stands).0 in
    let buckets = has.buckets in let few = few shape known snapshot_call a words is has in omega (arith, buckets, few))

-- the count of a bucket lies within the words
pub some_count : (snapshot_call : SnapshotCall) (words : List ℕ) (mounted : Mounted) (bucket : ℕ) → snapshot_call.stage ≡ LoadingCount mounted bucket → ∥ IsSomeSnapshotCall (length words) snapshot_call ∥₁
    → (mounted.counts + (4 + bucket) < length words) × (bucket < length snapshot_call.totals.items) × (length snapshot_call.totals.items ≤ 1000)
some_count snapshot_call words mounted bucket loads stands = ∥∥₁_elim stands (hlevel props) (λ (shape, known, a, long, is).
    let inside = count_inside shape known snapshot_call a words is mounted bucket loads (length words) long in
    let has = (subst (StandsAtStage shape known snapshot_call a) loads is.stands).0 in
    let buckets = has.buckets in let few = few shape known snapshot_call a words is has in (inside.0, inside.1, omega (arith, buckets, few)))
