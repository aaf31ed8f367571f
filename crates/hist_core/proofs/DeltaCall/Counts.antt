-- A delta loads the counts reference, and the count of each bucket.
use Rattle.segment_invariant.proofs.Prelude.Std.{◌≡◌, ◌≢◌, ℕ, zero, suc, ℤ, take, slice_index, ◌+◌, ◌-◌, ◌*◌, ◌%◌, ◌^◌, ◌<◌, ◌≤◌, ◌==◌, Bool, true, false, true≢false, if◌then◌else◌, nat_lt, List, [], ◌∷◌, ◌++◌, drop, length, Option, Some, None, inl, inr, ⊎_elim, refl, sym, ap, subst, ◌∙◌, arith, props, ∥∥₁_elim, Contains, eq-eqb, eqb-true, ne_eqb, ltb-true, ltb-false, take-append-drop, Contains-append_right, set-get_or, dite, ℕ_discrete}
use Rattle.segment_invariant.proofs.Prelude.Machine.{boundaries_of, buckets_of, single_of, units_packed, SingleWord, Dimensions, word_at, Actor, Known, Taken, Look, Place, Looking, CountLoaded, Sighting, Buckets, is_bound, word_seen, look_of, sight, sight_counts, load_counts, Event, next, counting_event, taking_event, SawBucket, load_count, Spec}
use Rattle.std.specs.Prelude.{nat_eq}
use Rattle.std.specs.Option.{option_eq}
use Rattle.bucket_ranges.specs.Ranges.{SplitsValues}
use Rattle.segment_invariant.proofs.Consistency.Marks.{packed_all}
use Rattle.segment_machine.specs.Calls.{AreCountsOf, CountsStay}
use Rattle.segment_machine.specs.Form.{is_off, SaysPacked}
use Rattle.segment_machine.specs.Note.{TookBucket}
use Rattle.segment_machine.specs.Taking.{at_count, MayLoadCount}
use Rattle.segment_promises.proofs.Calls.BucketLists.{still_below}
use Rattle.segment_promises.specs.Calls.{AreBelow}
use Rattle.segment_promises.proofs.Calls.Sights.{seen_here, took_bucket}
use Rattle.segment_promises.proofs.Calls.Places.{looks_again}
use Rattle.hist_core.proofs.Parts.Alone.{by_event}
use Rattle.hist_core.specs.declared.mounted.Mounted.{Mounted}
use Rattle.hist_core.specs.declared.delta_call.DeltaStage.TheVariants.{LoadingCounts, LoadingCount, Raising, LoadingSum}
use Rattle.hist_core.specs.declared.delta_call.DeltaCall.{DeltaCall}
use Rattle.hist_core.specs.declared.delta_call.DeltaCallStep.TheVariants.{More}
use Rattle.hist_core.specs.StepsBy.{StepsBy}
use Rattle.hist_core.specs.Mounted.{AreMounted, HasLoaded, HasWord, look_at, total_at}
use Rattle.hist_core.specs.DeltaCall.{HasRoomForBuckets, IsSomeDeltaCall, IsDeltaCall, IsUnderWay, StandsAtStage, DeltaCallGives, behind_bucket}
use Rattle.hist_core.proofs.DeltaCall.Going.{acts_on, buckets_are, goes_still, knows_it, same_way, split, taking_sees, delta_beside}
use Rattle.hist_core.proofs.DeltaCall.Sights.{mounted_still}
use Rattle.hist_core.proofs.DeltaCall.Singles.{none_packed}

-- whether a bucket is the packed one
pub is_packed : (packed : Option ℕ) (bucket : ℕ) → option_eq nat_eq packed (Some bucket) ≡ true → packed ≡ Some bucket
is_packed None bucket is = absurd (cc is)
is_packed (Some b) bucket is = ap Some (eqb-true b bucket is)

pub is_other : (packed : Option ℕ) (bucket : ℕ) → option_eq nat_eq packed (Some bucket) ≡ false → packed ≢ Some bucket
is_other packed bucket is same = true≢false (sym (ap (λ (p : Option ℕ). option_eq nat_eq p (Some bucket)) same ∙ eq-eqb bucket bucket refl) ∙ is)

-- ---- words that were seen

-- the word that was seen last at a place is the first one there, if none was seen there before, or the same was
seen_now : (list : List Sighting) (at word : ℕ) → ((other : ℕ) → word_seen list at ≡ Some other → word ≡ other)
    → word_seen (list ++ sight at word) at ≡ Some word
seen_now [] at word same = ap (λ (b : Bool). if b then Some word else None) (eq-eqb at at refl)
seen_now (s ∷ list) at word same = by (s.at == at) refl (seen_now list at word)
  where
    by : (b : Bool) → (s.at == at) ≡ b → (((other : ℕ) → word_seen list at ≡ Some other → word ≡ other) → word_seen (list ++ sight at word) at ≡ Some word)
        → word_seen (s ∷ list ++ sight at word) at ≡ Some word
    by true e behind =
        let first : word_seen (s ∷ list) at ≡ Some s.word = ap (λ (b : Bool). if b then Some s.word else word_seen list at) e in
        ap (λ (b : Bool). if b then Some s.word else word_seen (list ++ sight at word) at) e ∙ ap Some (sym (same s.word first))
    by false e behind =
        ap (λ (b : Bool). if b then Some s.word else word_seen (list ++ sight at word) at) e
        ∙ behind (λ other there. same other (ap (λ (b : Bool). if b then Some s.word else word_seen list at) e ∙ there))

-- a reference that is not 0 is seen as it was found
counts_there : (words : List Sighting) (histogram found : ℕ) → found ≢ 0 → ((counts : ℕ) → word_seen words (histogram + 8) ≡ Some counts → found ≡ counts)
    → word_seen (words ++ sight_counts histogram found) (histogram + 8) ≡ Some found
counts_there words histogram found used same =
    ap (λ (b : Bool). word_seen (words ++ (if b then [] else sight (histogram + 8) found)) (histogram + 8)) (ne_eqb found 0 used)
    ∙ seen_now words (histogram + 8) found same

-- what comes after the front of a list is in the list
behind_front : (n : ℕ) (list : List Sighting) (x : Sighting) → Contains (drop n list) x → Contains list x
behind_front n list x has = subst (λ (l : List Sighting). Contains l x) (take-append-drop n list) (Contains-append_right (take n list) (drop n list) x has)

-- ---- the counts reference is loaded

-- by an actor that has loaded a single word that is off
module _ (known : Known) (word : ℕ) (a : Actor) (loaded : HasWord known word a) (off : is_off word ≡ true) (knows : Buckets a known.reference known)
    (found : ℕ) (packed : Option ℕ) (kept : ℕ) (says : SaysPacked a.segment.version (buckets_of known.spec) word packed kept) (few_kept : kept ≤ 65535) where
  abbrev mounted : Mounted
  mounted = record { counts = found; packed = packed; kept = kept }

  abbrev mounting : Actor
  mounting = next a (counting_event (load_counts known.reference)) found

  abbrev look : Look
  look = record { histogram = known.reference; single = Some word; counts = loaded.counts }

  placed : mounting.hand.place ≡ Looking (look_at known mounted word)
  placed =
      ap (λ (p : Place). Looking (record (look_of p known.reference) { counts = found })) loaded.stands
      ∙ ap (λ (l : Look). Looking (record l { counts = found })) (looks_again (Looking look) look known.reference refl refl)

  pub are_mounted : AreCountsOf a known.reference found × CountsStay a.seen known.reference found → AreMounted known mounted word mounting
  are_mounted learned =
      let used : found ≢ 0 = learned.1.1 word (behind_front a.since.singles a.seen.singles (record { at = known.reference + 9; word = word }) loaded.saw) off in record {
        began = record { singles = loaded.began.singles; counts = loaded.began.counts };
        saw = loaded.saw;
        off = off;
        says = says;
        few = few_kept;
        stands = inl (placed, used, (word, refl, off), knows);
        there = counts_there a.seen.words known.reference found used learned.1.0;
        used = used;
        within = learned.0 known knows used;
      }

-- ---- a count is loaded

-- by an actor that is at the counts
module _ (known : Known) (mounted : Mounted) (word : ℕ) (a : Actor) (are : AreMounted known mounted word a) (bucket : ℕ) (below : bucket < buckets_of known.spec) (found : ℕ) where
  abbrev at : ℕ
  at = mounted.counts + 4 + bucket

  abbrev form : Option SingleWord
  form = single_of a.segment.version (buckets_of known.spec) word

  abbrev counted : Actor
  counted = next a (taking_event (load_count at)) found

  pub may_load : MayLoadCount a at
  may_load = inl (look_at known mounted word, known, bucket, are.stands, below, refl)

  pub count_placed : counted.hand.place ≡ CountLoaded (look_at known mounted word) bucket found
  count_placed =
      let bucket_is : at - (mounted.counts + 4) ≡ bucket = omega arith in
      ⊎_elim
      (λ (place, _, _, _). ap (λ (p : Place). at_count p at found) place ∙ ap (λ (b : ℕ). CountLoaded (look_at known mounted word) b found) bucket_is)
      (λ (_, _, place, _). ap (λ (p : Place). at_count p at found) place ∙ ap (λ (b : ℕ). CountLoaded (look_at known mounted word) b found) bucket_is) are.stands

  knows_counts : Buckets a known.reference known
  knows_counts = ⊎_elim (λ (_, _, _, b). b) (λ (_, _, _, b). b) are.stands

  pub still_mounted : AreMounted known mounted word counted
  still_mounted =
      mounted_still a counted (taking_sees a (load_count at) found) are.began known mounted word are (inr (bucket, found, count_placed, knows_counts))

  -- the total of the bucket was seen
  pub saw_total : SawBucket counted known bucket (found + units_packed form bucket)
  saw_total = (
    word,
    still_mounted.saw,
    inr (are.off, (mounted.counts, found, still_mounted.there, seen_here a.since.counts a.seen.counts at found are.began.counts, refl)),
  )

  -- it is what the call has as the total
  pub total_is : found ≤ 4294967295 → total_at mounted bucket found ≡ found + units_packed form bucket
  total_is few_units = by (option_eq nat_eq mounted.packed (Some bucket)) refl
    where
      by : (b : Bool) → option_eq nat_eq mounted.packed (Some bucket) ≡ b
          → (if b then (found + mounted.kept) % 2 ^ 64 else found) ≡ found + units_packed form bucket
      by true e =
          let packs = is_packed mounted.packed bucket e in
          let kept_is : mounted.kept ≡ units_packed form bucket = are.says.1 ∙ packed_all form bucket (sym are.says.0 ∙ packs) in
          let small = are.few in omega (arith, kept_is, small, few_units)
      by false e =
          let apart = is_other mounted.packed bucket e in
          let none = none_packed form bucket (λ there. apart (are.says.0 ∙ there)) in omega (arith, none)

  pub loaded_so : (total : ℕ) → total ≡ found + units_packed form bucket → HasLoaded known mounted word bucket total counted
  loaded_so total is = ((found, count_placed, is), subst (SawBucket counted known bucket) (sym is) saw_total)

-- ---- a delta

-- a spec that has boundaries has some bucket
pub some_buckets : (spec : Spec) → SplitsValues (buckets_of spec) (boundaries_of spec) → 0 < buckets_of spec
some_buckets spec split = by (buckets_of spec) refl split.first split.last
  where
    by : (n : ℕ) → buckets_of spec ≡ n → slice_index (boundaries_of spec) 0 ≡ 0 → slice_index (boundaries_of spec) (buckets_of spec) ≡ 2147483647 → 0 < n
    by zero none first last = let same = ap (slice_index (boundaries_of spec)) none in absurd (omega (arith, first, last, same))
    by (suc n) e first last = omega arith

module _ (shape : Dimensions) (known : Known) (earlier : List Taken) (delta_call : DeltaCall) (a : Actor) (words : List ℕ) (is : IsDeltaCall shape known earlier delta_call a) where
  -- after a bucket
  pub stands_behind : (mounted : Mounted) (word bucket : ℕ) (new : DeltaCall) (b : Actor) → new.ranges ≡ delta_call.ranges → new.stage ≡ behind_bucket delta_call mounted bucket
      → IsUnderWay known earlier new b → bucket < buckets_of known.spec → ((i : ℕ) → i < bucket + 1 → TookBucket b known i)
      → AreBelow known (bucket + 1) new.counts.items → length new.counts.items ≤ bucket + 1 → AreMounted known mounted word b → HasRoomForBuckets known new
      → StandsAtStage shape known earlier new b new.stage
  stands_behind mounted word bucket new b ranges stage way inside took below few_units are has =
      subst (StandsAtStage shape known earlier new b) (sym stage) (by (nat_lt (bucket + 1) (length delta_call.ranges - 1)) refl)
    where
      by : (test : Bool) → nat_lt (bucket + 1) (length delta_call.ranges - 1) ≡ test
          → StandsAtStage shape known earlier new b (if test then LoadingCount mounted (bucket + 1) else LoadingSum)
      by true lt = (
        way,
        record {
          took = took;
          below = below;
          few = few_units;
          inside = let under = ltb-true (bucket + 1) (length delta_call.ranges - 1) lt in let count = buckets_are shape known earlier delta_call a is has.0 in omega (arith, under, count);
        },
        (word, are),
        has,
      )
      by false ge = (
        way,
        inl (has.0, λ i lt. took i (let over = ltb-false (bucket + 1) (length delta_call.ranges - 1) ge in let count = buckets_are shape known earlier delta_call a is has.0 in omega (arith, over, count, lt))),
      )

  -- it has loaded the counts reference
  module _ (packed : Option ℕ) (kept : ℕ) (loads : delta_call.stage ≡ LoadingCounts packed kept) where
    before_counts : StandsAtStage shape known earlier delta_call a (LoadingCounts packed kept)
    before_counts = subst (StandsAtStage shape known earlier delta_call a) loads is.stands

    pub loads_counts : (counts : ℕ) → counts ≡ word_at words (delta_call.histogram + 8)
        → let new : DeltaCall = record delta_call { stage = LoadingCount (record { counts = counts; packed = packed; kept = kept }) 0 } in
        StepsBy shape.size delta_call.version a words words (DeltaCallGives shape known earlier new More a)
    loads_counts counts is_counts =
        let found : ℕ = word_at words (known.reference + 8) in
        let same : found ≡ counts = ap (λ (h : ℕ). word_at words (h + 8)) is.reference ∙ sym is_counts in
        let event : Event = counting_event (load_counts known.reference) in
        let acted : Actor = next a event found in
        let new : DeltaCall = record delta_call { stage = LoadingCount (record { counts = counts; packed = packed; kept = kept }) 0 } in
        let beside = delta_beside a acted refl refl refl refl refl refl refl refl (sight_counts known.reference found, refl) refl in
        by_event event (is.turns, (known, knows_it shape known earlier delta_call a is before_counts.4.0))
        (sym (set-get_or words (known.reference + 8) 0))
        (λ learned apart ordered. (
          beside,
          goes_still shape known earlier delta_call a is new acted (record { version = refl; histogram = refl; ranges = refl; room = refl }) beside refl is.units (
            let way = before_counts.0 in record { taking = way.taking; last = way.last; taken = way.taken; name = way.name; counts = way.counts; sum = way.sum },
            record {
              took = λ i lt. absurd (omega (arith, lt));
              below = subst (AreBelow known 0) (sym before_counts.1) tt;
              few = let e = ap length before_counts.1 in omega (arith, e);
              inside = some_buckets known.spec (split shape known earlier delta_call a is before_counts.4.0);
            },
            (
              before_counts.3.0,
              subst (λ (n : ℕ). AreMounted known (record { counts = n; packed = packed; kept = kept }) before_counts.3.0 acted) same
                  (are_mounted known before_counts.3.0 a before_counts.3.1 before_counts.3.2 (knows_it shape known earlier delta_call a is before_counts.4.0) found packed kept
                  (subst (λ (v : ℕ). SaysPacked v (buckets_of known.spec) before_counts.3.0 packed kept) (sym is.version) before_counts.3.3) before_counts.2 learned),
            ),
            before_counts.4,
          ),
        ))

  -- it has loaded the count of a bucket
  module _ (mounted : Mounted) (bucket : ℕ) (loads : delta_call.stage ≡ LoadingCount mounted bucket) where
    stands : StandsAtStage shape known earlier delta_call a (LoadingCount mounted bucket)
    stands = subst (StandsAtStage shape known earlier delta_call a) loads is.stands

    abbrev word : ℕ
    word = stands.2.0

    abbrev are : AreMounted known mounted word a
    are = stands.2.1

    abbrev found : ℕ
    found = word_at words (mounted.counts + 4 + bucket)

    abbrev acted : Actor
    acted = next a (taking_event (load_count (mounted.counts + 4 + bucket))) found

    pub count_inside : (n : ℕ) → n ≡ shape.size → (mounted.counts + (4 + bucket) < n) × (bucket < length delta_call.ranges - 1)
    count_inside n long =
        let inside = stands.1.inside in
        let within = subst (λ s. mounted.counts + (4 + 2 * buckets_of known.spec) ≤ s.size) is.segment are.within in
        let count = buckets_are shape known earlier delta_call a is stands.3.0 in (omega (arith, inside, within, long), omega (arith, inside, count))

    took_before : (i : ℕ) → i < bucket → TookBucket acted known i
    took_before i lt = took_bucket a acted (taking_sees a (load_count (mounted.counts + 4 + bucket)) found) are.began known i (stands.1.took i lt)

    way : (t : DeltaCall) → t.counts ≡ delta_call.counts → IsUnderWay known earlier t acted
    way t same = let was = same_way known earlier delta_call t a same stands.0 in
        record { taking = was.taking; last = was.last; taken = was.taken; name = was.name; counts = was.counts; sum = was.sum }

    units_are : found ≤ 4294967295 → total_at mounted bucket found ≡ found + units_packed (single_of a.segment.version (buckets_of known.spec) word) bucket
    units_are few_units = total_is known mounted word a are bucket stands.1.inside found few_units

    -- it has none
    pub loads_none : total_at mounted bucket found ≡ 0 → (new : DeltaCall) → new ≡ record delta_call { stage = behind_bucket delta_call mounted bucket }
        → StepsBy shape.size delta_call.version a words words (DeltaCallGives shape known earlier new More a)
    loads_none none new is_new = subst (λ (t : DeltaCall). StepsBy shape.size delta_call.version a words words (DeltaCallGives shape known earlier t More a)) (sym is_new)
        (acts_on shape known earlier delta_call a is words words (load_count (mounted.counts + 4 + bucket)) (record delta_call { stage = behind_bucket delta_call mounted bucket })
        (record { version = refl; histogram = refl; ranges = refl; room = refl })
        (may_load known mounted word a are bucket stands.1.inside found) (sym (set-get_or words (mounted.counts + 4 + bucket) 0))
        (ap is_bound (count_placed known mounted word a are bucket stands.1.inside found)) is.units
        (λ learned.
        stands_behind mounted word bucket (record delta_call { stage = behind_bucket delta_call mounted bucket }) acted refl refl
        (way (record delta_call { stage = behind_bucket delta_call mounted bucket }) refl) stands.1.inside
        (λ i lt. dite (ℕ_discrete i bucket)
        (λ here. subst (TookBucket acted known) (sym here)
        (0, subst (SawBucket acted known bucket) (sym (units_are learned.0) ∙ none) (saw_total known mounted word a are bucket stands.1.inside found), inl refl))
        (λ apart. took_before i (omega (arith, lt, apart))))
        (below_on delta_call.counts.items stands.1.below) (let few_now = stands.1.few in omega (arith, few_now))
        (still_mounted known mounted word a are bucket stands.1.inside found) stands.3))
      where
        below_on : (counts : List (ℤ × ℕ)) → AreBelow known bucket counts → AreBelow known (bucket + 1) counts
        below_on counts below = still_below known bucket counts below

    -- it has some
    pub loads_some : total_at mounted bucket found ≢ 0 → (total : ℕ) → total ≡ total_at mounted bucket found
        → StepsBy shape.size delta_call.version a words words (DeltaCallGives shape known earlier (record delta_call { stage = Raising mounted bucket total }) More a)
    loads_some some total is_total =
        acts_on shape known earlier delta_call a is words words (load_count (mounted.counts + 4 + bucket)) (record delta_call { stage = Raising mounted bucket total })
        (record { version = refl; histogram = refl; ranges = refl; room = refl })
        (may_load known mounted word a are bucket stands.1.inside found) (sym (set-get_or words (mounted.counts + 4 + bucket) 0))
        (ap is_bound (count_placed known mounted word a are bucket stands.1.inside found)) is.units
        (λ learned. (
          way (record delta_call { stage = Raising mounted bucket total }) refl,
          record { took = took_before; below = stands.1.below; few = stands.1.few; inside = stands.1.inside },
          omega (arith, some, is_total),
          (
            word,
            still_mounted known mounted word a are bucket stands.1.inside found,
            loaded_so known mounted word a are bucket stands.1.inside found total (is_total ∙ units_are learned.0),
          ),
          stands.3,
        ))

-- the count of a bucket lies within the words
pub some_count : (delta_call : DeltaCall) (words : List ℕ) (mounted : Mounted) (bucket : ℕ) → delta_call.stage ≡ LoadingCount mounted bucket → ∥ IsSomeDeltaCall (length words) delta_call ∥₁
    → (mounted.counts + (4 + bucket) < length words) × (length words ≤ 1048576) × (bucket < length delta_call.ranges - 1)
some_count delta_call words mounted bucket loads stands = ∥∥₁_elim stands (hlevel props) (λ (shape, known, earlier, a, long, is).
    let inside = count_inside shape known earlier delta_call a words is mounted bucket loads (length words) long in
    let many = is.lawful_shape.many in
    (inside.0, omega (arith, long, many), inside.1))

-- where the count of a bucket is
pub where_count : (words : List ℕ) (counts bucket : ℕ) → word_at words (counts + (4 + bucket)) ≡ word_at words (counts + 4 + bucket)
where_count words counts bucket = let same : counts + (4 + bucket) ≡ counts + 4 + bucket = omega arith in ap (word_at words) same

-- whatever it finds, it continues
module _ (shape : Dimensions) (known : Known) (earlier : List Taken) (delta_call : DeltaCall) (a : Actor) (words : List ℕ) (is : IsDeltaCall shape known earlier delta_call a)
    (mounted : Mounted) (bucket : ℕ) (loads : delta_call.stage ≡ LoadingCount mounted bucket) (total : ℕ)
    (is_total : total ≡ total_at mounted bucket (word_at words (mounted.counts + (4 + bucket)))) where
  total_there : total ≡ total_at mounted bucket (word_at words (mounted.counts + 4 + bucket))
  total_there = is_total ∙ ap (total_at mounted bucket) (where_count words mounted.counts bucket)

  pub gives_none : total ≡ 0 → StepsBy shape.size delta_call.version a words words (DeltaCallGives shape known earlier (record delta_call { stage = behind_bucket delta_call mounted bucket }) More a)
  gives_none none = loads_none shape known earlier delta_call a words is mounted bucket loads (sym total_there ∙ none) (record delta_call { stage = behind_bucket delta_call mounted bucket }) refl

  pub gives_some : total ≢ 0 → StepsBy shape.size delta_call.version a words words (DeltaCallGives shape known earlier (record delta_call { stage = Raising mounted bucket total }) More a)
  gives_some some = loads_some shape known earlier delta_call a words is mounted bucket loads (λ none. some (total_there ∙ none)) total total_there
