-- A delta begins: it loads the single word, and takes the packed units if the counts are not in use.
use Rattle.segment_invariant.proofs.Prelude.Std.{◌≡◌, ◌≢◌, ℕ, ◌+◌, ◌-◌, ◌<◌, ◌≤◌, ℤ, pos, max, Bool, false, true≢false, if◌then◌else◌, List, [], ◌∷◌, ◌++◌, length, slice_index, Option, Some, None, inl, inr, ⊎_elim, refl, sym, ap, subst, ◌∙◌, arith, slice_set, unwrap_or, vec_capacity, props, ∥∥₁_elim, ne_eqb, append-nil, length-append, set-get_or, dite, ℕ_discrete}
use Rattle.segment_invariant.proofs.Prelude.Machine.{buckets_of, single_of, packed_bucket, units_packed, SingleWord, Empty, Packed, Disabled, FrozenEmpty, Frozen, Dimensions, word_at, Actor, Known, Taken, Place, Looking, bucket_key, is_bound, known_at, units_listed, back, look_of, sight, Event, next, packing_event, taking_event, noted, load_single, raise_single_mark}
use Rattle.segment_invariant.proofs.Consistency.Keys.{packed_within}
use Rattle.segment_invariant.proofs.Consistency.Marks.{packed_all}
use Rattle.segment_invariant.proofs.Lists.Maps.{contains_map}
use Rattle.segment_machine.specs.Actor.{SawSingle, known_buckets}
use Rattle.segment_machine.specs.Calls.{form_seen}
use Rattle.segment_machine.specs.Form.{is_off, units_in, SaysPacked}
use Rattle.segment_machine.specs.Note.{TookBucket, nothing_taken, takes}
use Rattle.segment_machine.specs.Packing.{IsSingleOf}
use Rattle.segment_machine.specs.Taking.{single_key}
use Rattle.segment_promises.specs.Calls.{AreBelow, AreUnits}
use Rattle.segment_promises.proofs.Calls.Sights.{seen_here}
use Rattle.segment_promises.proofs.Calls.Places.{looks_there}
use Rattle.hist_core.specs.declared.delta_call.DeltaStage.{DeltaStage}
use Rattle.hist_core.specs.declared.delta_call.DeltaStage.TheVariants.{LoadingSingle, TakingPacked, LoadingCounts, LoadingCount, Raising, Walking, LoadingSample, RaisingSample, LoadingSum, Swapping}
use Rattle.hist_core.specs.declared.delta_call.DeltaCall.{DeltaCall}
use Rattle.hist_core.specs.declared.delta_call.DeltaCallStep.{DeltaCallStep}
use Rattle.hist_core.specs.declared.delta_call.DeltaCallStep.TheVariants.{More, Took, Done}
use Rattle.hist_core.specs.StepsBy.{StepsBy}
use Rattle.hist_core.specs.Mounted.{HasWord}
use Rattle.hist_core.specs.DeltaCall.{IsBehindSingle, IsSomeDeltaCall, TakesBucket, IsDeltaCall, IsUnderWay, StandsAtStage, DeltaCallGives, FrameOfDelta, TookBuckets}
use Rattle.hist_core.proofs.SnapshotCall.Looks.{on_units}
use Rattle.hist_core.proofs.DeltaCall.Going.{IsSame, same_still, same_taken, same_way, acts_on, buckets_are, goes_still, knows_it, long_ranges, split, takes_it, delta_beside}
use Rattle.hist_core.proofs.DeltaCall.Lists.{lists_on, way_on}

-- a bucket that is not the packed one has no packed units
pub none_packed : (form : Option SingleWord) (bucket : ℕ) → packed_bucket form ≢ Some bucket → units_packed form bucket ≡ 0
none_packed None bucket apart = refl
none_packed (Some Empty) bucket apart = refl
none_packed (Some (Packed b units)) bucket apart = ap (λ (t : Bool). if t then units else 0) (ne_eqb b bucket (λ same. apart (ap Some same)))
none_packed (Some (Disabled packed)) bucket apart = refl
none_packed (Some FrozenEmpty) bucket apart = refl
none_packed (Some (Frozen b units)) bucket apart = ap (λ (t : Bool). if t then units else 0) (ne_eqb b bucket (λ same. apart (ap Some same)))

-- if a single word is not off, a bucket that it does not name has no units
pub took_else : (known : Known) (word bucket : ℕ) (a : Actor) → SawSingle a (known.reference + 9) word → is_off word ≡ false
    → packed_bucket (single_of a.segment.version (buckets_of known.spec) word) ≢ Some bucket → TookBucket a known bucket
took_else known word bucket a saw on apart =
    (0, (word, saw, inl (on, sym (none_packed (single_of a.segment.version (buckets_of known.spec) word) bucket apart))), inl refl)

module _ (shape : Dimensions) (known : Known) (earlier : List Taken) (delta_call : DeltaCall) (a : Actor) (words : List ℕ) (is : IsDeltaCall shape known earlier delta_call a) where
  -- ---- the single word is loaded
  module _ (loads : delta_call.stage ≡ LoadingSingle) where
    begins : StandsAtStage shape known earlier delta_call a LoadingSingle
    begins = subst (StandsAtStage shape known earlier delta_call a) loads is.stands

    abbrev found : ℕ
    found = word_at words (known.reference + 9)

    abbrev begun : Actor
    begun = noted a (takes known.name)

    abbrev event : Event
    event = packing_event (load_single known.reference)

    abbrev acted : Actor
    acted = next begun event found

    way_begun : (t : DeltaCall) → t.counts.items ≡ [] → IsUnderWay known earlier t acted
    way_begun t none = record {
      taking = refl;
      last = nothing_taken a known.name;
      taken = ap (λ (l : List Taken). l ++ nothing_taken a known.name ∷ []) begins.1;
      name = refl;
      counts = λ key. ap (λ (l : List (ℤ × ℕ)). units_listed l key) none;
      sum = refl;
    }

    aside : FrameOfDelta a acted
    aside = delta_beside a acted refl refl refl refl refl refl refl refl ([], sym (append-nil a.seen.words)) refl

    module _ (learned : IsSingleOf begun known.reference found) where
      has_word : HasWord known found acted
      has_word = record {
        began = record {
          singles = let long = length-append a.seen.singles (sight (known.reference + 9) found) in omega (arith, long);
          counts = omega arith;
        };
        saw = seen_here (length a.seen.singles) a.seen.singles (known.reference + 9) found (omega arith);
        formed = (learned known (knows_it shape known earlier delta_call a is begins.3.0)).0;
        counts = (look_of a.hand.place known.reference).counts;
        stands = ap (λ (n : ℕ). Looking (record { histogram = n; single = Some found; counts = (look_of a.hand.place known.reference).counts })) (looks_there a.hand.place known.reference);
      }

      says_there : (packed : Option ℕ) (kept : ℕ) → SaysPacked delta_call.version (length delta_call.ranges - 1) found packed kept
          → SaysPacked delta_call.version (buckets_of known.spec) found packed kept
      says_there packed kept says = subst (λ (n : ℕ). SaysPacked delta_call.version n found packed kept) (buckets_are shape known earlier delta_call a is begins.3.0) says

      stands_behind : (stage : DeltaStage) → IsBehindSingle delta_call found stage → StandsAtStage shape known earlier (record delta_call { stage = stage }) acted stage
      stands_behind (LoadingCounts packed kept) (off, says, few) =
          (way_begun (record delta_call { stage = LoadingCounts packed kept }) begins.2, begins.2, few, (found, has_word, off, says_there packed kept says), begins.3)
      stands_behind (TakingPacked bucket units) (on, says) =
          (way_begun (record delta_call { stage = TakingPacked bucket units }) begins.2, begins.2, (found, has_word, on, says_there (Some bucket) units says), begins.3)
      stands_behind LoadingSum (on, none) = (
        way_begun (record delta_call { stage = LoadingSum }) begins.2,
        inl (
          begins.3.0,
          λ i below.
              took_else known found i acted has_word.saw on
              (λ e. let there : None ≡ Some i = sym none ∙ (ap (λ (p : ℕ × ℕ). packed_bucket (single_of p.0 p.1 found)) (λ j. (sym is.version j, buckets_are shape known earlier delta_call a is begins.3.0 j)) ∙ e) in cc there),
        ),
      )
      stands_behind LoadingSingle none = absurd none
      stands_behind (LoadingCount mounted bucket) none = absurd none
      stands_behind (Raising mounted bucket total) none = absurd none
      stands_behind (Swapping sum) none = absurd none
      stands_behind (Walking walk) none = absurd none
      stands_behind (LoadingSample at value) none = absurd none
      stands_behind (RaisingSample at value count) none = absurd none

    pub loads_single : (stage : DeltaStage) → IsBehindSingle delta_call (word_at words (delta_call.histogram + 9)) stage
        → StepsBy shape.size delta_call.version a words words (DeltaCallGives shape known earlier (record delta_call { stage = stage }) More a)
    loads_single stage behind = record {
      before = takes known.name ∷ [];
      at = begun;
      told = (
        (
          λ e. true≢false (sym (ap is_bound e) ∙ is.turns),
          is.recorder,
          is.counts_nothing,
          begins.0,
          contains_map (λ (k : Known). k.name) a.answers.names known is.knows,
        ),
        refl,
      );
      event = event;
      ready = (is.turns, (known, knows_it shape known earlier delta_call a is begins.3.0));
      words_are = sym (set-get_or words (known.reference + 9) 0);
      goes = λ learned apart ordered. (
        [],
        acted,
        refl,
        (
          aside,
          goes_still shape known earlier delta_call a is (record delta_call { stage = stage }) acted (record { version = refl; histogram = refl; ranges = refl; room = refl }) aside refl is.units
              (stands_behind learned stage (subst (λ (h : ℕ). IsBehindSingle delta_call (word_at words (h + 9)) stage) (sym is.reference) behind)),
        ),
      );
    }

  -- ---- the packed units are taken
  module _ (bucket units : ℕ) (packs : delta_call.stage ≡ TakingPacked bucket units) where
    stands : StandsAtStage shape known earlier delta_call a (TakingPacked bucket units)
    stands = subst (StandsAtStage shape known earlier delta_call a) packs is.stands

    abbrev word : ℕ
    word = stands.2.0

    abbrev loaded : HasWord known word a
    loaded = stands.2.1

    on : is_off word ≡ false
    on = stands.2.2

    abbrev held : Option SingleWord
    held = single_of a.segment.version (buckets_of known.spec) word

    says : SaysPacked a.segment.version (buckets_of known.spec) word (Some bucket) units
    says = subst (λ (v : ℕ). SaysPacked v (buckets_of known.spec) word (Some bucket) units) (sym is.version) stands.2.3

    some : 1 ≤ units
    some =
        ⊎_elim
        (λ none. let there : Some bucket ≡ None = says.0 ∙ ap (λ (w : ℕ). packed_bucket (single_of a.segment.version (buckets_of known.spec) w)) none in absurd (cc there))
        (λ has. let least = has.some in let e = says.1 ∙ ap units_in has.form in omega (arith, e, least)) (on_units a.segment.version (buckets_of known.spec) word loaded.formed on)

    pub packed_inside : bucket < buckets_of known.spec
    packed_inside = packed_within a.segment.version (buckets_of known.spec) word bucket (sym says.0)

    form_there : form_seen a known.reference word ≡ held
    form_there = ap (λ (k : Option Known). single_of a.segment.version (known_buckets k) word) is.alone

    abbrev least_found : ℕ
    least_found = word_at words (known.reference + 10)

    abbrev raising : Event
    raising = taking_event (raise_single_mark known.reference units)

    abbrev raised : Actor
    raised = next a raising least_found

    key_packed : pos (slice_index delta_call.ranges bucket) ≡ single_key a a.hand.place
    key_packed =
        let names = a.answers.names in
        sym (ap (single_key a) loaded.stands
        ∙ (ap (λ (f : Option SingleWord). bucket_key (known_at names known.reference) (unwrap_or (packed_bucket f) 0)) form_there
        ∙ (ap (λ (p : Option ℕ). bucket_key (known_at names known.reference) (unwrap_or p 0)) (sym says.0)
        ∙ (ap (λ (k : Option Known). bucket_key k bucket) is.alone
        ∙ ap (λ (l : List ℕ). pos (slice_index l bucket)) (sym is.ranges)))))

    took_here : TookBucket raised known bucket
    took_here = (
      units,
      (word, loaded.saw, inl (on, says.1 ∙ packed_all held bucket (sym says.0))),
      inr (
        known.reference + 10,
        max least_found units,
        inl (word, loaded.saw, sym says.0, refl),
        seen_here a.since.counts a.seen.counts (known.reference + 10) (max least_found units) loaded.began.counts,
        omega arith,
      ),
    )

    took_all : TookBuckets known raised
    took_all i below = dite (ℕ_discrete i bucket)
        (λ here. subst (TookBucket raised known) (sym here) took_here)
        (λ apart. took_else known word i raised loaded.saw on (λ e. apart (let same : Some bucket ≡ Some i = says.0 ∙ e in let one : bucket ≡ i = cc in sym one)))

    pub takes_packed : (new : DeltaCall) (said : DeltaCallStep) → TakesBucket bucket units (word_at words (delta_call.histogram + 10)) (record delta_call { stage = LoadingSum }) new said
        → IsSame delta_call new → new.stage ≡ LoadingSum → (new_words : List ℕ)
        → new_words ≡ slice_set words (delta_call.histogram + 10) (max (word_at words (delta_call.histogram + 10)) units)
        → StepsBy shape.size delta_call.version a words new_words (λ b. FrameOfDelta a b × IsDeltaCall shape known earlier new b)
    takes_packed new said taken same stage new_words are =
        let there : TakesBucket bucket units least_found (record delta_call { stage = LoadingSum }) new said =
        subst (λ (h : ℕ). TakesBucket bucket units (word_at words (h + 10)) (record delta_call { stage = LoadingSum }) new said) (sym is.reference) taken in
        let none : AreUnits (record delta_call { stage = LoadingSum }).counts.items = is.units in
        let listed = lists_on known (split shape known earlier delta_call a is stands.3.0) bucket units least_found (record delta_call { stage = LoadingSum }) new said packed_inside is.ranges none
        (subst (λ (l : List (ℤ × ℕ)). AreBelow known bucket l) (sym stands.1) tt) (let e = ap length stands.1 in omega (arith, e)) there in
        acts_on shape known earlier delta_call a is words new_words (raise_single_mark known.reference units) new same (
          some,
          (known, takes_it shape known earlier delta_call a is stands.0),
          inl (
            record { histogram = known.reference; single = Some word; counts = loaded.counts },
            known,
            word,
            (loaded.stands, refl, refl, on, knows_it shape known earlier delta_call a is stands.3.0),
            loaded.saw,
            says.1 ∙ ap units_in (sym form_there),
          ),
        )
        (are ∙ ap (λ (h : ℕ). slice_set words (h + 10) (max (word_at words (h + 10)) units)) (sym is.reference))
        (ap (λ (p : Place). is_bound (back p)) loaded.stands) listed.units
        (λ learned.
        subst (StandsAtStage shape known earlier new raised) (sym stage) (
          way_on known earlier bucket units least_found (record delta_call { stage = LoadingSum }) new said a raised (single_key a a.hand.place) key_packed there (same_way known earlier delta_call (record delta_call { stage = LoadingSum }) a refl stands.0) refl,
          inl (stands.3.0, took_all),
        ))

-- what it does with the packed units lies within what it has
pub packed_room : (delta_call : DeltaCall) (words : List ℕ) (bucket units : ℕ) → delta_call.stage ≡ TakingPacked bucket units → ∥ IsSomeDeltaCall (length words) delta_call ∥₁
    → (bucket + 1 < length delta_call.ranges) × (length delta_call.counts.items < vec_capacity delta_call.counts)
packed_room delta_call words bucket units packs stands = ∥∥₁_elim stands (hlevel props) (λ (shape, known, earlier, a, long, is).
    let inside = packed_inside shape known earlier delta_call a words is bucket units packs in
    let stood : StandsAtStage shape known earlier delta_call a (TakingPacked bucket units) = subst (StandsAtStage shape known earlier delta_call a) packs is.stands in
    let ranges = long_ranges shape known earlier delta_call a is stood.3.0 in
    let none = ap length stood.1 in
    let room = stood.3.1 in
    (omega (arith, inside, ranges), omega (arith, none, room, inside)))

-- whatever it took of them, it continues
module _ (shape : Dimensions) (known : Known) (earlier : List Taken) (delta_call : DeltaCall) (a : Actor) (words : List ℕ) (is : IsDeltaCall shape known earlier delta_call a)
    (bucket units : ℕ) (packs : delta_call.stage ≡ TakingPacked bucket units) where
  pub gives_packed : (new : DeltaCall) (said : DeltaCallStep) (mark : ℕ) → TakesBucket bucket units mark (record delta_call { stage = LoadingSum }) new said
      → mark ≡ word_at words (delta_call.histogram + 10) → (new_words : List ℕ)
      → new_words ≡ slice_set words (delta_call.histogram + 10) (max (word_at words (delta_call.histogram + 10)) units)
      → StepsBy shape.size delta_call.version a words new_words (DeltaCallGives shape known earlier new said a)
  gives_packed new More mark (none, same) is_mark new_words are =
      takes_packed shape known earlier delta_call a words is bucket units packs new More (subst (λ (n : ℕ). units ≤ n) is_mark none, same)
      (same_still delta_call LoadingSum new same) (ap (λ (t : DeltaCall). t.stage) same) new_words are
  gives_packed new (Took key taken) mark (some, is_key, is_units, same, listed, room) is_mark new_words are =
      takes_packed shape known earlier delta_call a words is bucket units packs new (Took key taken)
      (subst (λ (n : ℕ). n < units) is_mark some, is_key, is_units ∙ ap (λ (n : ℕ). units - n) is_mark, same, listed, room)
      (same_taken delta_call LoadingSum new same room) (ap (λ (t : DeltaCall). t.stage) same) new_words are
  gives_packed new (Done sum) mark none is_mark new_words are = absurd none
