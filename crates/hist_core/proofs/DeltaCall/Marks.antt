-- A delta raises the mark of a bucket to the units that it saw there.
use Rattle.segment_invariant.proofs.Prelude.Std.{◌≡◌, ◌≢◌, ℕ, ◌+◌, ◌-◌, ◌*◌, ◌<◌, ◌≤◌, ℤ, pos, max, Bool, true, false, if◌then◌else◌, List, ◌++◌, drop, length, slice_index, Option, Some, inl, inr, refl, sym, ap, subst, ◌∙◌, arith, slice_set, unwrap_or, vec_capacity, Contains, props, ∥∥₁_elim, dite, ℕ_discrete}
use Rattle.segment_invariant.proofs.Prelude.Machine.{buckets_of, single_of, packed_bucket, SingleWord, Dimensions, word_at, Actor, Known, Taken, CountLoaded, Sighting, bucket_key, has_buckets, is_bound, known_at, back, change_last, sight, next, taking_event, raise_mark, raise_single_mark}
use Rattle.std.specs.Prelude.{nat_eq}
use Rattle.std.specs.Option.{option_eq}
use Rattle.segment_invariant.proofs.Consistency.Marks.{packed_all}
use Rattle.segment_machine.specs.Actor.{known_buckets}
use Rattle.segment_machine.specs.Calls.{form_seen}
use Rattle.segment_machine.specs.Form.{units_in}
use Rattle.segment_machine.specs.Note.{IsMarkOf, TookBucket}
use Rattle.segment_machine.specs.Taking.{TakingEvent, single_key, take_units, taken_key}
use Rattle.segment_promises.specs.Calls.{AreUnits}
use Rattle.segment_promises.proofs.Calls.Sights.{saw_bucket, seen_here, took_bucket}
use Rattle.hist_core.specs.declared.mounted.Mounted.{Mounted}
use Rattle.hist_core.specs.declared.delta_call.DeltaStage.{DeltaStage}
use Rattle.hist_core.specs.declared.delta_call.DeltaStage.TheVariants.{Raising}
use Rattle.hist_core.specs.declared.delta_call.DeltaCall.{DeltaCall}
use Rattle.hist_core.specs.declared.delta_call.DeltaCallStep.{DeltaCallStep}
use Rattle.hist_core.specs.declared.delta_call.DeltaCallStep.TheVariants.{More, Took, Done}
use Rattle.hist_core.specs.StepsBy.{StepsBy}
use Rattle.hist_core.specs.Mounted.{AreMounted, HasLoaded, look_at}
use Rattle.hist_core.specs.DeltaCall.{HasDrawn, IsSomeDeltaCall, TakesBucket, IsDeltaCall, StandsAtStage, DeltaCallGives, FrameOfDelta, behind_bucket, mark_of}
use Rattle.hist_core.proofs.DeltaCall.Counts.{is_other, is_packed, stands_behind}
use Rattle.hist_core.proofs.DeltaCall.Going.{IsSame, acts_on, buckets_are, knows_it, long_ranges, same_still, same_taken, same_way, split, takes_it, taking_sees}
use Rattle.hist_core.proofs.DeltaCall.Lists.{AreListed, lists_on, way_on}
use Rattle.hist_core.proofs.DeltaCall.Sights.{mounted_still}
use Rattle.hist_core.proofs.DeltaCall.Singles.{none_packed}

module _ (shape : Dimensions) (known : Known) (earlier : List Taken) (delta_call : DeltaCall) (a : Actor) (words : List ℕ) (is : IsDeltaCall shape known earlier delta_call a)
    (mounted : Mounted) (bucket total : ℕ) (raises : delta_call.stage ≡ Raising mounted bucket total) where
  stands : StandsAtStage shape known earlier delta_call a (Raising mounted bucket total)
  stands = subst (StandsAtStage shape known earlier delta_call a) raises is.stands

  abbrev drawn : HasDrawn known delta_call bucket a
  drawn = stands.1

  abbrev word : ℕ
  word = stands.3.0

  abbrev are : AreMounted known mounted word a
  are = stands.3.1

  abbrev loaded : HasLoaded known mounted word bucket total a
  loaded = stands.3.2

  abbrev count : ℕ
  count = loaded.0.0

  abbrev held : Option SingleWord
  held = single_of a.segment.version (buckets_of known.spec) word

  abbrev next_stage : DeltaStage
  next_stage = behind_bucket delta_call mounted bucket

  abbrev resting : DeltaCall
  resting = record delta_call { stage = next_stage }

  pub mark_inside : (n : ℕ) → n ≡ shape.size
      → (mounted.counts + 4 + (length delta_call.ranges - 1) + bucket < n) × (bucket + 1 < length delta_call.ranges) × (length delta_call.counts.items < vec_capacity delta_call.counts)
  mark_inside n long =
      let inside = drawn.inside in
      let within = subst (λ s. mounted.counts + (4 + 2 * buckets_of known.spec) ≤ s.size) is.segment are.within in
      let count_is = buckets_are shape known earlier delta_call a is stands.4.0 in let ranges = long_ranges shape known earlier delta_call a is stands.4.0 in
      let listed = drawn.few in let room = stands.4.1 in (
        omega (arith, inside, within, count_is, long),
        omega (arith, inside, ranges),
        omega (arith, listed, inside, room),
      )

  -- a mark is raised, wherever it is
  module _ (e : TakingEvent) (at found : ℕ) (key : ℤ) (new : DeltaCall) (said : DeltaCallStep) where
    abbrev acted : Actor
    acted = next a (taking_event e) found

    module _ (deltas : acted.deltas ≡ record a.deltas { taken = change_last (take_units key total found) a.deltas.taken })
        (place : acted.hand.place ≡ back a.hand.place) (counts : acted.seen.counts ≡ a.seen.counts ++ sight at (max found total))
        (since : acted.since ≡ a.since) (names : acted.answers.names ≡ a.answers.names) (is_key : pos (slice_index delta_call.ranges bucket) ≡ key)
        (taken : TakesBucket bucket total found resting new said) (ranges : new.ranges ≡ delta_call.ranges) (stage : new.stage ≡ next_stage)
        (room : vec_capacity new.counts ≡ vec_capacity delta_call.counts) where
      listed : AreListed known (split shape known earlier delta_call a is stands.4.0) bucket new.counts.items
      listed = lists_on known (split shape known earlier delta_call a is stands.4.0) bucket total found resting new said drawn.inside is.ranges is.units drawn.below drawn.few taken

      still : AreMounted known mounted word acted
      still = mounted_still a acted (taking_sees a e found) are.began known mounted word are
          (inl (
            place ∙ ap back loaded.0.1,
            are.used,
            (word, refl, are.off),
            subst (λ (l : List Known). Contains l known × (known.reference ≡ known.reference) × (has_buckets known.spec ≡ true)) (sym names) (knows_it shape known earlier delta_call a is stands.4.0),
          ))

      took : IsMarkOf acted known bucket at → TookBucket acted known bucket
      took of = (
        total,
        saw_bucket a acted (taking_sees a e found) are.began known bucket total loaded.1,
        inr (
          at,
          max found total,
          of,
          subst (λ (l : List Sighting). Contains l (record { at = at; word = max found total }))
              (λ i. drop (sym since i).counts (sym counts i)) (seen_here a.since.counts a.seen.counts at (max found total) are.began.counts),
          omega arith,
        ),
      )

      pub raised_so : IsMarkOf acted known bucket at → StandsAtStage shape known earlier new acted new.stage
      raised_so of =
          stands_behind shape known earlier delta_call a words is mounted word bucket new acted ranges stage
          (way_on known earlier bucket total found resting new said a acted key is_key taken (same_way known earlier delta_call resting a refl stands.0) deltas)
          drawn.inside
          (λ i lt. dite (ℕ_discrete i bucket)
          (λ here. subst (TookBucket acted known) (sym here) (took of))
          (λ apart. took_bucket a acted (taking_sees a e found) are.began known i (drawn.took i (omega (arith, lt, apart)))))
          listed.below listed.few still (stands.4.0, subst (λ (n : ℕ). buckets_of known.spec ≤ n) (sym room) stands.4.1)

      pub units_so : AreUnits new.counts.items
      units_so = listed.units

      pub free_so : is_bound acted.hand.place ≡ false
      free_so = ap is_bound (place ∙ ap back loaded.0.1)

  form_there : form_seen a known.reference word ≡ held
  form_there = ap (λ (k : Option Known). single_of a.segment.version (known_buckets k) word) is.alone

  key_is : bucket_key (known_at a.answers.names known.reference) bucket ≡ pos (slice_index delta_call.ranges bucket)
  key_is = ap (λ (k : Option Known). bucket_key k bucket) is.alone ∙ ap (λ (l : List ℕ). pos (slice_index l bucket)) (sym is.ranges)

  -- the packed bucket has the single mark
  module _ (packs : mounted.packed ≡ Some bucket) where
    holds : packed_bucket held ≡ Some bucket
    holds = sym are.says.0 ∙ packs

    key_packed : pos (slice_index delta_call.ranges bucket) ≡ single_key a a.hand.place
    key_packed =
        let names = a.answers.names in
        sym (ap (single_key a) loaded.0.1
        ∙ (ap (λ (f : Option SingleWord). bucket_key (known_at names known.reference) (unwrap_or (packed_bucket f) 0)) form_there
        ∙ (ap (λ (p : Option ℕ). bucket_key (known_at names known.reference) (unwrap_or p 0)) holds ∙ key_is)))

    pub raises_single : (new : DeltaCall) (said : DeltaCallStep) → TakesBucket bucket total (word_at words (delta_call.histogram + 10)) resting new said → IsSame delta_call new
        → new.stage ≡ next_stage → (new_words : List ℕ)
        → new_words ≡ slice_set words (delta_call.histogram + 10) (max (word_at words (delta_call.histogram + 10)) total)
        → StepsBy shape.size delta_call.version a words new_words (λ b. FrameOfDelta a b × IsDeltaCall shape known earlier new b)
    raises_single new said taken same stage new_words are_words =
        let found : ℕ = word_at words (known.reference + 10) in
        let e : TakingEvent = raise_single_mark known.reference total in
        let there : TakesBucket bucket total found resting new said =
        subst (λ (h : ℕ). TakesBucket bucket total (word_at words (h + 10)) resting new said) (sym is.reference) taken in
        acts_on shape known earlier delta_call a is words new_words e new same (
          stands.2,
          (known, takes_it shape known earlier delta_call a is stands.0),
          inr (
            look_at known mounted word,
            bucket,
            count,
            word,
            loaded.0.1,
            refl,
            refl,
            ap packed_bucket form_there ∙ holds,
            loaded.0.2 ∙ ap (λ (n : ℕ). count + n) (sym (packed_all held bucket holds) ∙ ap units_in (sym form_there)),
          ),
        )
        (are_words ∙ ap (λ (h : ℕ). slice_set words (h + 10) (max (word_at words (h + 10)) total)) (sym is.reference))
        (free_so e (known.reference + 10) found (single_key a a.hand.place) new said refl refl refl refl refl key_packed there same.ranges stage same.room)
        (units_so e (known.reference + 10) found (single_key a a.hand.place) new said refl refl refl refl refl key_packed there same.ranges stage same.room)
        (λ learned.
        raised_so e (known.reference + 10) found (single_key a a.hand.place) new said refl refl refl refl refl key_packed there same.ranges stage same.room
        (inl (word, are.saw, holds, refl)))

  -- each other one has its own after the counts
  module _ (apart : mounted.packed ≢ Some bucket) where
    other : packed_bucket held ≢ Some bucket
    other e = apart (are.says.0 ∙ e)

    count_is : count ≡ total
    count_is = let none = none_packed held bucket other in let is_sum = loaded.0.2 in omega (arith, none, is_sum)

    abbrev own_mark : ℕ
    own_mark = mounted.counts + 4 + buckets_of known.spec + bucket

    key_other : pos (slice_index delta_call.ranges bucket) ≡ taken_key a a.hand.place
    key_other = sym (ap (taken_key a) loaded.0.1 ∙ key_is)

    pub raises_other : (at : ℕ) → at ≡ mounted.counts + 4 + (length delta_call.ranges - 1) + bucket → (new : DeltaCall) (said : DeltaCallStep)
        → TakesBucket bucket total (word_at words at) resting new said → IsSame delta_call new → new.stage ≡ next_stage → (new_words : List ℕ)
        → new_words ≡ slice_set words at (max (word_at words at) total)
        → StepsBy shape.size delta_call.version a words new_words (λ b. FrameOfDelta a b × IsDeltaCall shape known earlier new b)
    raises_other at is_at new said taken same stage new_words are_words =
        let here : at ≡ own_mark = let long = buckets_are shape known earlier delta_call a is stands.4.0 in omega (arith, is_at, long) in
        let found : ℕ = word_at words own_mark in
        let e : TakingEvent = raise_mark own_mark total in
        let there : TakesBucket bucket total found resting new said =
        subst (λ (n : ℕ). TakesBucket bucket total (word_at words n) resting new said) here taken in
        acts_on shape known earlier delta_call a is words new_words e new same (
          stands.2,
          inl (
            look_at known mounted word,
            known,
            bucket,
            word,
            loaded.0.1 ∙ ap (λ (n : ℕ). CountLoaded (look_at known mounted word) bucket n) count_is,
            takes_it shape known earlier delta_call a is stands.0,
            refl,
            (λ e. other (ap packed_bucket (sym form_there) ∙ e)),
            refl,
          ),
        )
        (are_words ∙ ap (λ (n : ℕ). slice_set words n (max (word_at words n) total)) here)
        (free_so e own_mark found (taken_key a a.hand.place) new said refl refl refl refl refl key_other there same.ranges stage same.room)
        (units_so e own_mark found (taken_key a a.hand.place) new said refl refl refl refl refl key_other there same.ranges stage same.room)
        (λ learned.
        raised_so e own_mark found (taken_key a a.hand.place) new said refl refl refl refl refl key_other there same.ranges stage same.room
        (inr (mounted.counts, are.there, refl)))

  -- ---- whichever it is

  abbrev spot_of_mark : ℕ
  spot_of_mark = mark_of delta_call mounted bucket

  raises_there : (new : DeltaCall) (said : DeltaCallStep) → TakesBucket bucket total (word_at words spot_of_mark) resting new said → IsSame delta_call new → new.stage ≡ next_stage
      → (new_words : List ℕ) → new_words ≡ slice_set words spot_of_mark (max (word_at words spot_of_mark) total)
      → StepsBy shape.size delta_call.version a words new_words (λ b. FrameOfDelta a b × IsDeltaCall shape known earlier new b)
  raises_there new said taken same stage new_words are_words = by (option_eq nat_eq mounted.packed (Some bucket)) refl taken are_words
    where
      by : (b : Bool) → option_eq nat_eq mounted.packed (Some bucket) ≡ b
          → let at : ℕ = if b then delta_call.histogram + 10 else mounted.counts + 4 + (length delta_call.ranges - 1) + bucket in
          TakesBucket bucket total (word_at words at) resting new said → new_words ≡ slice_set words at (max (word_at words at) total)
          → StepsBy shape.size delta_call.version a words new_words (λ b. FrameOfDelta a b × IsDeltaCall shape known earlier new b)
      by true e taken are_words = raises_single (is_packed mounted.packed bucket e) new said taken same stage new_words are_words
      by false e taken are_words =
          raises_other (is_other mounted.packed bucket e) (mounted.counts + 4 + (length delta_call.ranges - 1) + bucket) refl new said taken same stage new_words are_words

  pub gives_raised : (new : DeltaCall) (said : DeltaCallStep) (mark : ℕ) → TakesBucket bucket total mark resting new said → mark ≡ word_at words spot_of_mark
      → (new_words : List ℕ) → new_words ≡ slice_set words spot_of_mark (max (word_at words spot_of_mark) total)
      → StepsBy shape.size delta_call.version a words new_words (DeltaCallGives shape known earlier new said a)
  gives_raised new More mark (none, same) is_mark new_words are_words =
      raises_there new More (subst (λ (n : ℕ). total ≤ n) is_mark none, same) (same_still delta_call next_stage new same) (ap (λ (t : DeltaCall). t.stage) same) new_words are_words
  gives_raised new (Took key taken) mark (some, is_key, is_units, same, listed, room) is_mark new_words are_words =
      raises_there new (Took key taken)
      (subst (λ (n : ℕ). n < total) is_mark some, is_key, is_units ∙ ap (λ (n : ℕ). total - n) is_mark, same, listed, room)
      (same_taken delta_call next_stage new same room) (ap (λ (t : DeltaCall). t.stage) same) new_words are_words
  gives_raised new (Done sum) mark none is_mark new_words are_words = absurd none

-- the mark of a bucket lies within the words, and there is room to list it
pub some_mark : (delta_call : DeltaCall) (words : List ℕ) (mounted : Mounted) (bucket total : ℕ) → delta_call.stage ≡ Raising mounted bucket total → ∥ IsSomeDeltaCall (length words) delta_call ∥₁
    → (mounted.counts + 4 + (length delta_call.ranges - 1) + bucket < length words) × (bucket + 1 < length delta_call.ranges)
    × (length delta_call.counts.items < vec_capacity delta_call.counts)
some_mark delta_call words mounted bucket total raises stands = ∥∥₁_elim stands (hlevel props) (λ (shape, known, earlier, a, long, is).
    mark_inside shape known earlier delta_call a words is mounted bucket total raises (length words) long)

-- wherever that is
pub mark_there : (delta_call : DeltaCall) (words : List ℕ) (mounted : Mounted) (bucket : ℕ) → delta_call.histogram + 15 ≤ length words
    → mounted.counts + 4 + (length delta_call.ranges - 1) + bucket < length words → mark_of delta_call mounted bucket < length words
mark_there delta_call words mounted bucket first second = by (option_eq nat_eq mounted.packed (Some bucket))
  where
    by : (b : Bool) → (if b then delta_call.histogram + 10 else mounted.counts + 4 + (length delta_call.ranges - 1) + bucket) < length words
    by true = omega (arith, first)
    by false = second
