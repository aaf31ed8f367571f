-- A walk along the samples of a sparse histogram, event by event.
use Rattle.segment_invariant.proofs.Prelude.Std.{◌≡◌, ◌≢◌, ℕ, ◌+◌, ◌*◌, ◌<◌, ◌≤◌, ◌==◌, ℤ, Bool, true, false, true≢false, if◌then◌else◌, List, [], ◌∷◌, ◌++◌, length, inl, inr, ⊎_elim, refl, sym, ap, subst, ◌∙◌, arith, eqb-true, eq-eqb, Some, Contains, append-nil, Contains-append_right, set-get_or}
use Rattle.segment_invariant.proofs.Prelude.Machine.{Dimensions, word_at, Actor, Known, Place, word_seen, MayTurn, sight, Learned, next, walking_event, SawOther, load_next, load_published}
use Rattle.bucket_ranges.specs.Reading.{is_i32}
use Rattle.segment_machine.specs.Taking.{is_looking}
use Rattle.segment_machine.specs.Walking.{IsFixed, WalkingEvent, behind}
use Rattle.segment_promises.proofs.Growing.{extended_grows, grows_not}
use Rattle.segment_promises.proofs.ValueWalks.{behind_it, comes_first, comes_on, met, passed_few, split_at_it}
use Rattle.segment_promises.specs.Calls.{BeganBefore, SeesMore}
use Rattle.segment_promises.proofs.Calls.Sights.{began_still, saw_word}
use Rattle.segment_promises.proofs.Calls.Places.{behind_free, behind_is}
use Rattle.segment_promises.proofs.Calls.SeenWords.{seen_now}
use Rattle.hist_core.proofs.Parts.Alone.{by_event, seen_words, frame_of}
use Rattle.hist_core.specs.declared.walk.Met.{Met}
use Rattle.hist_core.specs.declared.walk.Met.TheVariants.{Nothing, Sample, End}
use Rattle.hist_core.specs.declared.walk.SampleWalk.{SampleWalk}
use Rattle.hist_core.specs.declared.walk.SampleWalk.TheVariants.{LoadingFirst, LoadingType, LoadingHistogram, LoadingValue, LoadingNext}
use Rattle.hist_core.specs.StepsBy.{FrameOfStep, StepsBy}
use Rattle.hist_core.specs.Walk.{HasComeTo, HasSetOut, IsBehindValue, IsSampleWalkProgress, MayWalk, Meets, MetRecord, OfPassed, PassedRecord, WalksAt, behind_next, behind_type, spot_of}
use Rattle.hist_core.proofs.Walks.Passing.{way_still}

-- an actor that has loaded a next is at no single word and no counts, if it was at none before
behind_apart : (p : Place) (at found : ℕ) → is_looking p ≡ false → is_looking (behind p at found) ≡ false
behind_apart = behind_is is_looking refl (λ cursor from next. refl)

pub walk_beside : (a : Actor) (e : WalkingEvent) (found : ℕ) → FrameOfStep a (next a (walking_event e) found)
walk_beside a (load_next at) found =
    frame_of a (next a (walking_event (load_next at)) found) refl refl refl refl refl refl (extended_grows a.seen.chain at found) ([], sym (append-nil a.seen.words))
walk_beside a (load_published at index) found = seen_words a (next a (walking_event (load_published at index)) found) (sight (at + index) found) refl refl refl refl refl refl refl refl

walk_sees : (a : Actor) (e : WalkingEvent) (found : ℕ) → SeesMore a (next a (walking_event e) found)
walk_sees a (load_next at) found = record {
  segment = refl;
  since = refl;
  singles = grows_not a.seen.singles;
  counts = grows_not a.seen.counts;
  words = grows_not a.seen.words;
}
walk_sees a (load_published at index) found = record {
  segment = refl;
  since = refl;
  singles = grows_not a.seen.singles;
  counts = grows_not a.seen.counts;
  words = (sight (at + index) found, refl);
}

-- What holds of the records that an actor passed holds still when it has seen more, and of a record more that is a sample of no value.
pub record GoesAlong (known : Known) (holds : OfPassed) : Type 0 where
  pub still : (a b : Actor) → SeesMore a b → BeganBefore a → (passed : List ℕ) → holds passed a → holds passed b
  pub others : (a : Actor) (passed : List ℕ) (at : ℕ) → ((value : ℤ) → is_i32 value ≡ true → SawOther a.seen known.reference value at) → holds passed a
      → holds (passed ++ at ∷ []) a

-- an actor that has set out began to look before
pub began_before : (shape : Dimensions) (known : Known) (holds : OfPassed) (walk : SampleWalk) (a : Actor) → HasSetOut walk → WalksAt shape known holds walk a → BeganBefore a
began_before shape known holds LoadingFirst a set_out stands = absurd set_out
began_before shape known holds (LoadingType at) a set_out stands = stands.way.began
began_before shape known holds (LoadingHistogram at) a set_out stands = stands.0.way.began
began_before shape known holds (LoadingValue at of) a set_out stands = stands.0.way.began
began_before shape known holds (LoadingNext at) a set_out stands = stands.way.began

module _ (shape : Dimensions) (version : ℕ) (known : Known) (holds : OfPassed) (along : GoesAlong known holds) (a : Actor) (words : List ℕ)
    (here : a.segment.shape ≡ shape) (turns : MayTurn a) where
  abbrev Gives : Met → Actor → Type 0
  Gives met b = FrameOfStep a b × (b.since ≡ a.since) × (b.done ≡ a.done) × MayTurn b × HasComeTo shape known holds met b

  -- ---- the next of a record is loaded

  comes_to : (found : ℕ) (passed : List ℕ) (b : Actor) → IsSampleWalkProgress known passed found b → holds passed b → HasComeTo shape known holds (behind_next found) b
  comes_to found passed b way all = by (found == 12) refl
    where
      by : (test : Bool) → (found == 12) ≡ test → HasComeTo shape known holds (if test then End else Nothing (LoadingType found)) b
      by true e = record { passed = passed; way = subst (λ (n : ℕ). IsSampleWalkProgress known passed n b) (eqb-true found 12 e) way; lists = all }
      by false e = (tt, record { passed = passed; way = way; record_there = λ ends. true≢false (sym (eq-eqb found 12 ends) ∙ e); lists = all })

  first_so : MayWalk known a → ((b : Actor) → holds [] b) → BeganBefore a → (m : Met) → m ≡ behind_next (word_at words (known.reference + 3))
      → StepsBy shape.size version a words words (Gives m)
  first_so may none began m is =
      let found : ℕ = word_at words (known.reference + 3) in
      let event : WalkingEvent = load_next known.reference in
      let acted : Actor = next a (walking_event event) found in
      let (front, later, split) = may.met in by_event (walking_event event) (
        turns,
        inr (inl (subst (λ (l : List ℕ). Contains l known.reference) (sym split)
            (Contains-append_right front (known.reference ∷ later) known.reference (0, omega arith, refl)))),
      )
      (sym (set-get_or words (known.reference + 3) 0))
      (λ learned apart ordered. (
        walk_beside a event found,
        refl,
        refl,
        behind_free a.hand.place known.reference found turns,
        subst (λ (m : Met). HasComeTo shape known holds m acted) (sym is) (comes_to found [] acted (record {
          sparse = may.sparse;
          apart = behind_apart a.hand.place known.reference found may.apart;
          began = began_still a acted (walk_sees a event found) began;
          comes = comes_first a acted known.reference found refl front later split learned refl;
        }) (none acted)),
      ))

  next_so : (at : ℕ) → PassedRecord known holds at a → (m : Met) → m ≡ behind_next (word_at words (at + 3)) → StepsBy shape.size version a words words (Gives m)
  next_so at it m is =
      let found : ℕ = word_at words (at + 3) in
      let event : WalkingEvent = load_next at in
      let acted : Actor = next a (walking_event event) found in
      let passed : List ℕ = it.passed in
      let way : IsSampleWalkProgress known passed at a = it.way in
      let sees : SeesMore a acted = walk_sees a event found in
      let split = split_at_it a known.reference passed at way.comes it.record_there in
      let rest : List ℕ = (behind_it a known.reference passed at way.comes it.record_there).0 in by_event (walking_event event) (turns, inr (inl (met a a known.reference 0 refl way.comes.front passed at rest split)))
      (sym (set-get_or words (at + 3) 0))
      (λ learned apart ordered. (
        walk_beside a event found,
        refl,
        refl,
        behind_free a.hand.place at found turns,
        subst (λ (m : Met). HasComeTo shape known holds m acted) (sym is) (comes_to found (passed ++ at ∷ []) acted (record {
          sparse = way.sparse;
          apart = behind_apart a.hand.place at found way.apart;
          began = began_still a acted sees way.began;
          comes = comes_on a acted known.reference found refl way.comes.front passed at rest split learned refl;
        }) (along.still a acted sees way.began (passed ++ at ∷ []) it.lists)),
      ))

  -- ---- a word of a record is loaded that never changes

  module _ (at : ℕ) (it : MetRecord known holds at a) where
    abbrev passed : List ℕ
    passed = it.passed

    abbrev way : IsSampleWalkProgress known passed at a
    way = it.way

    pub there : Contains a.seen.chain at
    there = met a a known.reference 0 refl way.comes.front passed at (behind_it a known.reference passed at way.comes it.record_there).0
        (split_at_it a known.reference passed at way.comes it.record_there)

    module _ (index : ℕ) (fixed : IsFixed a at index) where
      abbrev event : WalkingEvent
      event = load_published at index

      abbrev found : ℕ
      found = word_at words (at + index)

      abbrev acted : Actor
      acted = next a (walking_event event) found

      -- it has seen that word then
      seen_there : Learned a (walking_event event) found → word_seen acted.seen.words (at + index) ≡ Some found
      seen_there learned = seen_now a.seen.words (at + index) found learned.1

      still_met : MetRecord known holds at acted
      still_met = record {
        passed = passed;
        way = way_still known a acted (walk_sees a event found) passed at refl way.apart way;
        record_there = it.record_there;
        lists = along.still a acted (walk_sees a event found) way.began passed it.lists;
      }

      -- it is a sample of no value
      passes_it : ((value : ℤ) → is_i32 value ≡ true → SawOther acted.seen known.reference value at) → PassedRecord known holds at acted
      passes_it none = record {
        passed = passed;
        way = way_still known a acted (walk_sees a event found) passed at refl way.apart way;
        record_there = it.record_there;
        lists = along.others acted passed at none (along.still a acted (walk_sees a event found) way.began passed it.lists);
      }

      does_load : (m : Met) → (Learned a (walking_event event) found → HasComeTo shape known holds m acted) → StepsBy shape.size version a words words (Gives m)
      does_load m comes = by_event (walking_event event) (turns, there, fixed)
          (sym (set-get_or words (at + index) 0))
          (λ learned apart ordered. (walk_beside a event found, refl, refl, turns, comes learned))

  -- the type
  type_so : (at : ℕ) → MetRecord known holds at a → StepsBy shape.size version a words words (Gives (Nothing (behind_type at (word_at words (at + 2)))))
  type_so at it = does_load at it 2 (inl refl) (Nothing (behind_type at tag)) (λ learned. by (tag == 3) refl learned)
    where
      tag : ℕ
      tag = word_at words (at + 2)

      by : (test : Bool) → (tag == 3) ≡ test → Learned a (walking_event (load_published at 2)) tag
          → HasComeTo shape known holds (Nothing (if test then LoadingHistogram at else LoadingNext at)) (next a (walking_event (load_published at 2)) tag)
      by true e learned =
          let sample = eqb-true tag 3 e in (
            tt,
            (
              still_met at it 2 (inl refl),
              (
                seen_there at it 2 (inl refl) learned ∙ ap Some sample,
                subst (λ (d : Dimensions). at + 8 ≤ d.size) here (learned.0.1 refl sample),
              ),
            ),
          )
      by false e learned =
          (tt, passes_it at it 2 (inl refl) (λ value fits. inl (tag, seen_there at it 2 (inl refl) learned, λ same. true≢false (sym (eq-eqb tag 3 same) ∙ e))))

  -- the histogram of a sample
  histogram_so : (at : ℕ) → WalksAt shape known holds (LoadingHistogram at) a
      → StepsBy shape.size version a words words (Gives (Nothing (LoadingValue at (word_at words (at + 4)))))
  histogram_so at (it, (tag, within)) =
      let of : ℕ = word_at words (at + 4) in
      let b : Actor = next a (walking_event (load_published at 4)) of in
      let fixed : IsFixed a at 4 = inr (inr (tag, omega arith, omega arith)) in
      does_load at it 4 fixed (Nothing (LoadingValue at of)) (λ learned. (
        tt,
        (
          still_met at it 4 fixed,
          (saw_word a b (walk_sees a (load_published at 4) of) it.way.began (at + 2) 3 tag, within),
          seen_there at it 4 fixed learned,
        ),
      ))

  -- its value
  module _ (at of : ℕ) (stands : WalksAt shape known holds (LoadingValue at of) a) where
    fixed_value : IsFixed a at 5
    fixed_value = inr (inr (stands.1.0, omega arith, omega arith))

    abbrev word : ℕ
    word = word_at words (at + 5)

    abbrev valued : Actor
    valued = next a (walking_event (load_published at 5)) word

    seen_still : (index seen : ℕ) → word_seen a.seen.words (at + index) ≡ Some seen → word_seen valued.seen.words (at + index) ≡ Some seen
    seen_still index seen saw = saw_word a valued (walk_sees a (load_published at 5) word) stands.0.way.began (at + index) seen saw

    value_so : (m : Met) → IsBehindValue known.reference at of word m → StepsBy shape.size version a words words (Gives m)
    value_so (Sample r value) (same, its, fits, valued_so) =
        subst (λ (n : ℕ). StepsBy shape.size version a words words (Gives (Sample n value))) (sym same)
        (does_load at stands.0 5 fixed_value (Sample at value) (λ learned. (
          still_met at stands.0 5 fixed_value,
          stands.1.1,
          (
            seen_still 2 3 stands.1.0,
            seen_still 4 of stands.2 ∙ ap Some its,
            seen_there at stands.0 5 fixed_value learned ∙ ap Some valued_so,
            fits,
          ),
        )))
    value_so (Nothing (LoadingNext r)) (same, other) =
        subst (λ (n : ℕ). StepsBy shape.size version a words words (Gives (Nothing (LoadingNext n)))) (sym same)
        (does_load at stands.0 5 fixed_value (Nothing (LoadingNext at)) (λ learned. (
          tt,
          passes_it at stands.0 5 fixed_value (λ value fits.
              ⊎_elim (λ apart. inr (inl (of, seen_still 4 of stands.2, apart)))
              (λ none. inr (inr (word, seen_there at stands.0 5 fixed_value learned, none value fits))) other),
        )))
    value_so (Nothing LoadingFirst) none = absurd none
    value_so (Nothing (LoadingType r)) none = absurd none
    value_so (Nothing (LoadingHistogram r)) none = absurd none
    value_so (Nothing (LoadingValue r o)) none = absurd none
    value_so End none = absurd none

  -- ---- whichever it is

  pub walks_so : (walk : SampleWalk) → WalksAt shape known holds walk a → BeganBefore a → (m : Met) → Meets walk known.reference (word_at words (spot_of known.reference walk)) m
      → StepsBy shape.size version a words words (Gives m)
  walks_so LoadingFirst stands began m is = first_so stands.0 stands.1 began m is
  walks_so (LoadingType at) stands began m is = subst (λ (x : Met). StepsBy shape.size version a words words (Gives x)) (sym is) (type_so at stands)
  walks_so (LoadingHistogram at) stands began m is = subst (λ (x : Met). StepsBy shape.size version a words words (Gives x)) (sym is) (histogram_so at stands)
  walks_so (LoadingValue at of) stands began m is = value_so at of stands m is
  walks_so (LoadingNext at) stands began m is = next_so at stands m is

  record_inside : (at : ℕ) → (at ≢ 12 → at + 5 ≤ a.segment.shape.size) → at ≢ 12 → at + 5 ≤ shape.size
  record_inside at within there = subst (λ (d : Dimensions). at + 5 ≤ d.size) here (within there)

  -- the word that it loads lies within the segment
  pub spot_inside : (walk : SampleWalk) → WalksAt shape known holds walk a → known.reference + 15 ≤ shape.size → spot_of known.reference walk < shape.size
  spot_inside LoadingFirst stands within = omega (arith, within)
  spot_inside (LoadingType at) stands within = let low = record_inside at stands.way.comes.within stands.record_there in omega (arith, low)
  spot_inside (LoadingHistogram at) stands within = let low = stands.1.1 in omega (arith, low)
  spot_inside (LoadingValue at of) stands within = let low = stands.1.1 in omega (arith, low)
  spot_inside (LoadingNext at) stands within = let low = record_inside at stands.way.comes.within stands.record_there in omega (arith, low)

  -- how many records can have been passed
  pub few_passed : (at : ℕ) (it : MetRecord known holds at a) → 5 * (length it.passed + 1) + 16 ≤ shape.size
  few_passed at it = subst (λ (d : Dimensions). 5 * (length it.passed + 1) + 16 ≤ d.size) here (passed_few a known.reference it.passed at it.way.comes it.record_there)
