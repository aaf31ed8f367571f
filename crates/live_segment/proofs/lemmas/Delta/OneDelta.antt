-- A delta of a histogram with buckets: it begins with the single word, takes what the word holds, and ends with the sum.
use Rattle.std.proofs.Common.{◌≡◌, ◌≢◌, ℕ, ◌+◌, ◌-◌, ◌*◌, ◌<◌, ◌≤◌, ◌==◌, ℤ, max, if◌then◌else◌, Bool, true, false, true≢false, List, [], ◌∷◌, ◌++◌, drop, take, length, Option, Some, None, inl, inr, ⊎_elim, refl, sym, ap, subst, ◌∙◌, arith}
use Rattle.std.specs.Prelude.{unwrap_or}
use Rattle.std.specs.List.{Contains}
use Rattle.std.specs.List.Sorted.{IsStrictlySortedBy}
use Rattle.std.proofs.Math.Seq.{drop-append_seam}
use Rattle.std.proofs.lemmas.Bool.{lt-ltb, le-ltb}
use Rattle.std.proofs.lemmas.List.Elements.{All-push, Contains-append_right}
use Rattle.std.proofs.lemmas.List.{take-append-drop}
use mathlib.Core.Logic.{dite}
use native.Mathlib.Decide.{ℕ_discrete}
use Rattle.bucket_ranges.specs.Spec.{buckets_of}
use Rattle.bucket_ranges.specs.Single.{single_of, packed_bucket, units_packed}
use Rattle.bucket_ranges.specs.declared.single.SingleWord.{SingleWord}
use Rattle.segment_image.specs.Shape.{Dimensions}
use Rattle.segment_machine.specs.declared.actor.Actor.{Actor}
use Rattle.segment_machine.specs.declared.actor.Known.{Known}
use Rattle.segment_machine.specs.declared.actor.Taken.{Taken}
use Rattle.segment_machine.specs.declared.place.Look.{Look}
use Rattle.segment_machine.specs.declared.place.Place.{Place}
use Rattle.segment_machine.specs.declared.place.Place.TheVariants.{Looking}
use Rattle.segment_machine.specs.declared.seen.Seen.{Seen}
use Rattle.segment_machine.specs.declared.seen.Sighting.{Sighting}
use Rattle.segment_machine.specs.Actor.{Buckets, SawCount, SawSingle, bucket_key, has_buckets, is_bound, is_opener, known_at, known_buckets, word_seen}
use Rattle.segment_machine.specs.Calls.{back, ended, form_seen, look_of, sight, sight_counts}
use Rattle.segment_machine.specs.Counting.{load_counts}
use Rattle.segment_machine.specs.Event.{Event, next, counting_event, packing_event, taking_event}
use Rattle.segment_machine.specs.Form.{is_off, units_in, SaysPacked}
use Rattle.segment_machine.specs.Note.{TookBucket, noted, takes}
use Rattle.segment_machine.specs.Packing.{load_single}
use Rattle.segment_machine.specs.Taking.{Takes, raise_single_mark, single_key}
use Rattle.segment_invariant.proofs.Consistency.Keys.{packed_within}
use Rattle.segment_invariant.proofs.Consistency.Marks.{packed_all}
use Rattle.segment_invariant.proofs.Lists.Maps.{contains_map}
use Rattle.live_segment.specs.declared.segment.Segment.{Segment}
use Rattle.live_segment.specs.Delta.Outcome.{HasTakenBuckets, TakesAt, TakesOn, TakesWord, units_of_key}
use Rattle.live_segment.specs.Holders.{MayStep}
use Rattle.live_segment.specs.Seated.{IsSeated}
use Rattle.segment_promises.specs.Onward.{SeesOn}
use Rattle.live_segment.specs.Rule.{IsOf}
use Rattle.live_segment.specs.Steps.{IsAtRest, IsSame, Pass, Stepped}
use Rattle.live_segment.specs.Steps.Taking.{MayBeginDelta, HasBegunDelta}
use Rattle.live_segment.specs.Steps.GhostNotes.{KnowsAlone, Noted}
use Rattle.live_segment.proofs.lemmas.Add.Beginning.{known_there}
use Rattle.live_segment.proofs.lemmas.Snapshot.BucketsSeen.{counts_there}
use Rattle.segment_promises.proofs.Calls.Sights.{long_still}
use Rattle.live_segment.proofs.lemmas.Delta.OneBucket.{marked, none_packed, nothing_more, saw_here, takes_by, takes_not, takes_of}
use Rattle.live_segment.proofs.lemmas.Steps.Proceeding.{sees_count, sees_lists}
use Rattle.segment_promises.proofs.Growing.{ended_grows, grows_by, grows_not}
use Rattle.segment_promises.proofs.Ranks.{on_units}
use Rattle.segment_promises.proofs.Calls.Places.{looks_again, looks_there}

-- ---- it begins

module _ {segment : Segment} (known : Known) {first : Pass} (seated : IsSeated segment first) (rests : IsAtRest first.me.0)
    (alone : KnowsAlone first.me.0 known) (bucketed : has_buckets known.spec ≡ true) where
  has : Contains first.me.0.answers.names known
  has = (known_there first.me.0.answers.names known.reference known alone).0

  abbrev single : Event
  single = packing_event (load_single known.reference)

  pub may_take : MayBeginDelta first known.reference (λ at. packing_event (load_single at))
  may_take = (
    known,
    (refl, alone),
    record {
      recorder = rests.recorder;
      may = (
        (
          λ e. true≢false (sym (ap is_bound e) ∙ rests.free),
          rests.recorder,
          rests.runs,
          rests.takes,
          contains_map (λ (k : Known). k.name) first.me.0.answers.names known has,
        ),
        refl,
      );
      ready = (rests.free, (known, (has, refl, bucketed)));
      goes = λ found learned. refl;
    },
  )

  module _ (word : ℕ) (one : Pass) (begun : HasBegunDelta first known.reference (λ at. packing_event (load_single at)) word one) where
    told : Noted first (takes known.name ∷ []) single [] word one
    told = begun known (refl, alone)

    abbrev at_word : Actor
    at_word = next (noted first.me.0 (takes known.name)) single word

    pub view : one.me.0 ≡ at_word
    view = told.view

    pub same : IsSame first one
    same = told.same

    looks_here : look_of first.me.0.hand.place known.reference ≡ record (look_of first.me.0.hand.place known.reference) { histogram = known.reference }
    looks_here = λ i. record (look_of first.me.0.hand.place known.reference) { histogram = looks_there first.me.0.hand.place known.reference i }

    saw_word : SawSingle at_word (known.reference + 9) word
    saw_word =
        let it : Sighting = record { at = known.reference + 9; word = word } in
        subst (λ (l : List Sighting). Contains l it) (sym (drop-append_seam first.me.0.seen.singles (it ∷ []))) (0, omega arith, refl)

    pub takes_word : TakesWord segment known word one
    takes_word = record {
      table = told.same.0 ∙ seated.table;
      recorder = ap (λ (a : Actor). is_opener a.role) view ∙ rests.recorder;
      of = subst (IsOf segment.setting) (sym view) (record { shape = seated.of.shape; version = seated.of.version; cursors = seated.of.cursors });
      alone = subst (λ (a : Actor). KnowsAlone a known) (sym view) alone;
      bucketed = bucketed;
      takes = subst (λ (a : Actor). Takes a known.reference known) (sym view) (refl, has, refl, (first.me.0.deltas.taken, _, refl, refl));
      saw = subst (λ (a : Actor). SawSingle a (known.reference + 9) word) (sym view) saw_word;
      formed = subst (λ (a : Actor). single_of a.segment.version (buckets_of known.spec) word ≢ None) (sym view) (told.learned known (has, refl, bucketed)).0;
      counted = (look_of first.me.0.hand.place known.reference).counts;
      stands = ap (λ (a : Actor). a.hand.place) view ∙ ap (λ (l : Look). Looking (record l { single = Some word })) looks_here;
      singles = subst (λ (a : Actor). a.since.singles ≤ length a.seen.singles) (sym view)
          (long_still (length first.me.0.seen.singles) first.me.0.seen.singles (first.me.0.seen.singles ++ sight (known.reference + 9) word) (omega arith)
          (sight (known.reference + 9) word, refl));
      counts = subst (λ (a : Actor). a.since.counts ≤ length a.seen.counts) (sym view) (omega arith);
    }

-- ---- it takes what the word says

-- what comes after the front of a list is on it
behind_front : (n : ℕ) (list : List Sighting) (x : Sighting) → Contains (drop n list) x → Contains list x
behind_front n list x has = subst (λ (l : List Sighting). Contains l x) (take-append-drop n list) (Contains-append_right (take n list) (drop n list) x has)

module _ (segment : Segment) (known : Known) (word : ℕ) (old : Pass) (takes : TakesWord segment known word old) where
  abbrev look : Look
  look = record { histogram = known.reference; single = Some word; counts = takes.counted }

  abbrev held : Option SingleWord
  held = single_of old.me.0.segment.version (buckets_of known.spec) word

  knows : Buckets old.me.0 known.reference known
  knows = ((known_there old.me.0.answers.names known.reference known takes.alone).0, refl, takes.bucketed)

  free : is_bound old.me.0.hand.place ≡ false
  free = ap is_bound takes.stands

  said : (packed : Option ℕ) (kept : ℕ) → SaysPacked segment.setting.version (buckets_of known.spec) word packed kept
      → (packed ≡ packed_bucket held) × (kept ≡ units_in held)
  said packed kept says =
      let one : single_of segment.setting.version (buckets_of known.spec) word ≡ held =
      ap (λ (v : ℕ). single_of v (buckets_of known.spec) word) (sym takes.of.version) in
      (says.0 ∙ ap packed_bucket one, says.1 ∙ ap units_in one)

  -- if it is off, the counts are in use
  pub may_load : MayStep segment old (counting_event (load_counts known.reference))
  may_load = record { table = takes.table; recorder = takes.recorder; ready = (free, (known, knows)) }

  module _ (off : is_off word ≡ true) (counts : ℕ) (mid : Pass) (load : Stepped old (counting_event (load_counts known.reference)) counts mid) where
    used : counts ≢ 0
    used = load.learned.1.1 word (behind_front old.me.0.since.singles old.me.0.seen.singles (record { at = known.reference + 9; word = word }) takes.saw) off

    placed : mid.me.0.hand.place ≡ Looking (record { histogram = known.reference; single = Some word; counts = counts })
    placed = ap (λ (a : Actor). a.hand.place) load.view
        ∙ (ap (λ (p : Place). Looking (record (look_of p known.reference) { counts = counts })) takes.stands
        ∙ ap (λ (l : Look). Looking (record l { counts = counts })) (looks_again (Looking look) look known.reference refl refl))

    abbrev seen : Seen
    seen = record old.me.0.seen {
      words = old.me.0.seen.words ++ sight_counts known.reference counts;
      ends = ended old.me.0.seen.ends (known.reference + 8) (counts == 0);
    }

    sees : SeesOn old.me.0.seen seen
    sees = sees_lists old.me.0.seen (grows_not old.me.0.seen.chain) (ended_grows old.me.0.seen.ends (known.reference + 8) (counts == 0)) (grows_not old.me.0.seen.tails)
        (grows_not old.me.0.seen.singles) (grows_not old.me.0.seen.counts) (grows_by old.me.0.seen.words (sight_counts known.reference counts)) (grows_not old.me.0.seen.cursors)

    abbrev place : Place
    place = Looking (record (look_of old.me.0.hand.place known.reference) { counts = counts })

    pub loads_on : TakesOn [] old.me.0 mid.me.0
    loads_on = takes_by old.me.0 mid.me.0 place [] seen
        (load.view ∙ ap (λ (l : List Taken). record old.me.0 {
          hand = record old.me.0.hand { place = place };
          deltas = record old.me.0.deltas { taken = l };
          seen = seen;
        }) (sym (nothing_more old.me.0.deltas.taken))) sees

    pub takes_at : (packed : Option ℕ) (kept : ℕ) → SaysPacked segment.setting.version (buckets_of known.spec) word packed kept
        → TakesAt segment known (record { counts = counts; packed = packed; kept = kept }) mid
    takes_at packed kept says =
        let (packs, keeps) = said packed kept says in
        let version : mid.me.0.segment.version ≡ old.me.0.segment.version = ap (λ (a : Actor). a.segment.version) load.view in record {
          table = load.same.0 ∙ takes.table;
          recorder = ap (λ (a : Actor). is_opener a.role) load.view ∙ takes.recorder;
          of = subst (IsOf segment.setting) (sym load.view) (record { shape = takes.of.shape; version = takes.of.version; cursors = takes.of.cursors });
          alone = subst (λ (a : Actor). KnowsAlone a known) (sym load.view) takes.alone;
          takes = takes_of old.me.0 mid.me.0 [] known.reference known loads_on takes.takes;
          word = word;
          saw = subst (λ (a : Actor). SawSingle a (known.reference + 9) word) (sym load.view) takes.saw;
          off = off;
          packed = packs ∙ ap (λ (v : ℕ). packed_bucket (single_of v (buckets_of known.spec) word)) (sym version);
          kept = keeps ∙ ap (λ (v : ℕ). units_in (single_of v (buckets_of known.spec) word)) (sym version);
          stands = inl (placed, used, (word, refl, off), subst (λ (a : Actor). Buckets a known.reference known) (sym load.view) knows);
          there = ap (λ (a : Actor). word_seen a.seen.words (known.reference + 8)) load.view
              ∙ counts_there old.me.0.seen.words known.reference counts used load.learned.1.0;
          within = (
            used,
            subst (λ (s : Dimensions). counts + (4 + 2 * buckets_of known.spec) ≤ s.size) (sym (ap (λ (a : Actor). a.segment.shape) load.view))
                (load.learned.0 known knows used),
          );
          singles = subst (λ (a : Actor). a.since.singles ≤ length a.seen.singles) (sym load.view) takes.singles;
          counts = subst (λ (a : Actor). a.since.counts ≤ length a.seen.counts) (sym load.view) takes.counts;
        }

  -- if it is not off, it has all units that there are
  module _ (on : is_off word ≡ false) where
    took_else : (a : Actor) (bucket : ℕ) → SawSingle a (known.reference + 9) word → a.segment.version ≡ old.me.0.segment.version
        → packed_bucket held ≢ Some bucket → TookBucket a known bucket
    took_else a bucket saw version apart =
        let none = ap (λ (v : ℕ). units_packed (single_of v (buckets_of known.spec) word) bucket) version ∙ none_packed held bucket apart in
        (0, (word, saw, inl (on, sym none)), inl refl)

    pub took_nothing : (kept : ℕ) → SaysPacked segment.setting.version (buckets_of known.spec) word None kept → HasTakenBuckets known [] old.me.0 old.me.0
    unfolding IsStrictlySortedBy
    took_nothing kept says =
        let (none, _) = said None kept says in record {
          on = takes_not old.me.0;
          free = free;
          took = λ bucket below. took_else old.me.0 bucket takes.saw refl (λ e. let there : None ≡ Some bucket = none ∙ e in cc there);
          units = record { ascending = tt; some = λ k d low. absurd (omega arith) };
          few = omega arith;
        }

    module _ (bucket units : ℕ) (says : SaysPacked segment.setting.version (buckets_of known.spec) word (Some bucket) units) where
      some : 1 ≤ units
      some =
          let (packs, keeps) = said (Some bucket) units says in
          ⊎_elim
          (λ none. let there : Some bucket ≡ None = packs ∙ ap (λ (w : ℕ). packed_bucket (single_of old.me.0.segment.version (buckets_of known.spec) w)) none in absurd (cc there))
          (λ (least, is). let e = keeps ∙ ap units_in is in omega (arith, e, least)) (on_units old.me.0.segment.version (buckets_of known.spec) word takes.formed on)

      pub within : bucket < buckets_of known.spec
      within =
          let (packs, keeps) = said (Some bucket) units says in
          packed_within old.me.0.segment.version (buckets_of known.spec) word bucket (sym packs)

      form_there : form_seen old.me.0 known.reference word ≡ held
      form_there = ap (λ (k : Option Known). single_of old.me.0.segment.version (known_buckets k) word) takes.alone

      pub may_raise : MayStep segment old (taking_event (raise_single_mark known.reference units))
      may_raise = record {
        table = takes.table;
        recorder = takes.recorder;
        ready = (
          some,
          (known, takes.takes),
          inl (
            look,
            known,
            word,
            (takes.stands, refl, refl, on, knows),
            takes.saw,
            (said (Some bucket) units says).1 ∙ ap units_in (sym form_there),
          ),
        );
      }

      key_packed : single_key old.me.0 old.me.0.hand.place ≡ bucket_key (Some known) bucket
      key_packed =
          let names = old.me.0.answers.names in
          ap (single_key old.me.0) takes.stands
          ∙ (ap (λ (f : Option SingleWord). bucket_key (known_at names known.reference) (unwrap_or (packed_bucket f) 0)) form_there
          ∙ (ap (λ (p : Option ℕ). bucket_key (known_at names known.reference) (unwrap_or p 0)) (sym (said (Some bucket) units says).0)
          ∙ ap (λ (k : Option Known). bucket_key k bucket) takes.alone))

      module _ (found : ℕ) (new : Pass) (raise : Stepped old (taking_event (raise_single_mark known.reference units)) found new) where
        abbrev key : ℤ
        key = bucket_key (Some known) bucket

        abbrev mark : ℕ
        mark = known.reference + 10

        abbrev raised : Seen
        raised = record old.me.0.seen { counts = old.me.0.seen.counts ++ sight mark (max found units) }

        raises_on : TakesOn (units_of_key key (units - found)) old.me.0 new.me.0
        raises_on = takes_by old.me.0 new.me.0 (back old.me.0.hand.place) (units_of_key key (units - found)) raised
            (raise.view ∙ ap (λ (l : List Taken). record old.me.0 {
              hand = record old.me.0.hand { place = back old.me.0.hand.place };
              deltas = record old.me.0.deltas { taken = l };
              seen = raised;
            }) (marked (single_key old.me.0 old.me.0.hand.place) key found units old.me.0.deltas.taken key_packed))
            (sees_count old.me.0.seen (sight mark (max found units)))

        saw_still : SawSingle new.me.0 (known.reference + 9) word
        saw_still = subst (λ (a : Actor). SawSingle a (known.reference + 9) word) (sym raise.view) takes.saw

        version : new.me.0.segment.version ≡ old.me.0.segment.version
        version = ap (λ (a : Actor). a.segment.version) raise.view

        took_here : TookBucket new.me.0 known bucket
        took_here =
            let (packs, keeps) = said (Some bucket) units says in (
              units,
              (
                word,
                saw_still,
                inl (
                  on,
                  keeps ∙ (packed_all held bucket (sym packs) ∙ ap (λ (v : ℕ). units_packed (single_of v (buckets_of known.spec) word) bucket) (sym version)),
                ),
              ),
              inr (
                mark,
                max found units,
                inl (word, saw_still, ap (λ (v : ℕ). packed_bucket (single_of v (buckets_of known.spec) word)) version ∙ sym packs, refl),
                subst (λ (a : Actor). SawCount a mark (max found units)) (sym raise.view) (saw_here old.me.0 mark (max found units) takes.counts),
                omega arith,
              ),
            )

        took_packed : (i : ℕ) → TookBucket new.me.0 known i
        took_packed i = dite (ℕ_discrete i bucket)
            (λ here. subst (TookBucket new.me.0 known) (sym here) took_here)
            (λ apart.
            took_else new.me.0 i saw_still version
            (λ e. apart (let same : Some bucket ≡ Some i = (said (Some bucket) units says).0 ∙ e in let one : bucket ≡ i = cc in sym one)))

        free_still : is_bound new.me.0.hand.place ≡ false
        free_still = ap (λ (a : Actor). is_bound a.hand.place) raise.view ∙ ap (λ (p : Place). is_bound (back p)) takes.stands

        pub took_some : found < units → HasTakenBuckets known ((key, units - found) ∷ []) old.me.0 new.me.0
        unfolding IsStrictlySortedBy
        took_some more = record {
          on = subst (λ (l : List (ℤ × ℕ)). TakesOn l old.me.0 new.me.0)
              (ap (λ (b : Bool). if b then (key, units - found) ∷ [] else []) (lt-ltb 0 (units - found) (omega (arith, more)))) raises_on;
          free = free_still;
          took = λ i below. took_packed i;
          units = record { ascending = (tt, tt); some = All-push (λ (c : ℤ × ℕ). 1 ≤ c.1) [] (key, units - found) (λ k d low. absurd (omega arith)) (omega (arith, more)) };
          few = let below = within in omega (arith, below);
        }

        pub took_no_more : units ≤ found → HasTakenBuckets known [] old.me.0 new.me.0
        unfolding IsStrictlySortedBy
        took_no_more none = record {
          on = subst (λ (l : List (ℤ × ℕ)). TakesOn l old.me.0 new.me.0)
              (ap (λ (b : Bool). if b then (key, units - found) ∷ [] else []) (le-ltb 0 (units - found) (omega (arith, none)))) raises_on;
          free = free_still;
          took = λ i below. took_packed i;
          units = record { ascending = tt; some = λ k d low. absurd (omega arith) };
          few = omega arith;
        }
