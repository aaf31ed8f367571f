-- A search for the sample of a value, event by event.
use Rattle.segment_invariant.proofs.Prelude.Std.{◌≡◌, ◌≢◌, ℕ, ◌+◌, ◌≤◌, ◌==◌, ℤ, Bool, true, false, true≢false, if◌then◌else◌, List, [], ◌∷◌, ◌++◌, length, inl, inr, refl, sym, ap, subst, ◌∙◌, arith, append_assoc, eqb-true, eq-eqb, Some, All, Contains, props, ∥∥₁_elim, length_push, All-nil, All-push, Contains-append_right, set-get_or}
use Rattle.segment_invariant.proofs.Prelude.Machine.{Dimensions, word_at, IsShape, is_reference, stops, IsPrefix, Actor, Known, word_seen, Learned, next, walking_event, SawOther, load_published}
use Rattle.std.proofs.lemmas.List.{get_or_push}
use Rattle.bucket_ranges.specs.Reading.{is_i32}
use Rattle.list_core.specs.declared.walk.WalkStep.{WalkStep}
use Rattle.list_core.specs.declared.walk.WalkStep.TheVariants.{Record, End, Stray}
use Rattle.list_core.specs.Walk.{said_of, given_after, stands_behind}
use Rattle.list_core.proofs.Prefixes.{prefix_of_prefix}
use Rattle.segment_machine.specs.Actor.{Sparse}
use Rattle.segment_machine.specs.Walking.{IsFixed, WalkingEvent}
use Rattle.segment_promises.proofs.Growing.{others_still, reference_within, still}
use Rattle.segment_promises.proofs.Calls.SeenWords.{seen_now}
use Rattle.hist_core.proofs.Parts.Alone.{by_event}
use Rattle.hist_core.specs.declared.new_record.NewRecord.{NewRecord as NewRecordOf}
use Rattle.hist_core.specs.declared.new_record.NewRecordStep.{NewRecordStep}
use Rattle.hist_core.specs.declared.new_record.NewRecordStep.TheVariants as made
use Rattle.hist_core.specs.declared.sample_search.SampleSearch.{SampleSearch}
use Rattle.hist_core.specs.declared.sample_search.SampleSearchStep.{SampleSearchStep}
use Rattle.hist_core.specs.declared.sample_search.SampleSearchStep.TheVariants.{More, Found}
use Rattle.hist_core.specs.declared.sample_search.SampleSearchStage.{SampleSearchStage}
use Rattle.hist_core.specs.declared.sample_search.SampleSearchStage.TheVariants.{Walking, LoadingType, LoadingHistogram, LoadingValue, Making}
use Rattle.hist_core.specs.StepsBy.{SharedEffect, links, raises, DoesOnly, FrameOfStep, SawEnd, SeesNoMore, StepsBy, IsFree}
use Rattle.hist_core.specs.NewRecord.{NewRecordGives, MayMake, is_full, serves_wanted}
use Rattle.hist_core.specs.NewRecord as new_record
use Rattle.hist_core.specs.SampleSearch.{HaveOthers, IsIts, IsMade, IsMakingSample, IsSampleSearch, IsSomeSampleSearch, IsStarted, StandsAtRecord, SampleSearchGives, StandsAtStage, behind_type, serves_sample, wanted_of}
use Rattle.hist_core.proofs.Worlds.Free.{free_turns}
use Rattle.hist_core.proofs.Makes.Drafts.{begins}
use Rattle.hist_core.proofs.Parts.Allocations.{EndsWith, goes_with, walks_saying}
use Rattle.hist_core.proofs.Parts.Deeds.{does_less, does_nothing}
use Rattle.hist_core.proofs.Walks.Walking.{walk_beside}

-- ---- it begins

-- a walk that has given a record is there
stands_last : (front : List ℕ) (at : ℕ) → at ≡ stands_behind (front ++ at ∷ [])
stands_last front at = let long = length_push front at in sym (get_or_push (stops front) at 0 (length (front ++ at ∷ [])) (omega (arith, long)))

-- an actor that may turn to it begins at the record of a sparse histogram that it knows and has visited
pub begins_at : (shape : Dimensions) (histogram : ℕ) (value : ℤ) (s : SampleSearch) (a : Actor) → IsStarted shape histogram value s → a.segment.shape ≡ shape
    → IsShape shape → IsFree a → (known : Known) × Sparse a histogram known → is_i32 value ≡ true → histogram ≢ 0 → is_reference shape.size histogram ≡ true
    → (front behind : List ℕ) × (a.seen.chain ≡ front ++ histogram ∷ behind) → IsSampleSearch shape s a
begins_at shape histogram value s a starts segment lawful free knows valued some reach (front, behind, chain) = record {
  shaped = starts.shaped;
  segment = segment;
  lawful_shape = lawful;
  some = λ none. some (sym starts.of ∙ none);
  valued = ap is_i32 starts.counts ∙ valued;
  knows = subst (λ (h : ℕ). (known : Known) × Sparse a h known) (sym starts.of) knows;
  front = front;
  behind = [];
  walk = starts.walk ∙ (stands_last front histogram ∙ ap (λ (h : ℕ). stands_behind (front ++ h ∷ [])) (sym starts.of));
  reach = ap (is_reference shape.size) starts.walk ∙ reach;
  chain = subst (λ (h : ℕ). IsPrefix (front ++ h ∷ []) a.seen.chain) (sym starts.of) (behind, chain ∙ sym (append_assoc front (histogram ∷ []) behind));
  whole = λ new_record. absurd (subst IsMakingSample starts.stage new_record);
  stands = subst (StandsAtStage shape s a []) (sym starts.stage) (free, All-nil _);
}

-- ---- a step

module _ (shape : Dimensions) (version : ℕ) (s : SampleSearch) (a : Actor) (words : List ℕ) (long : length words ≡ shape.size) (is : IsSampleSearch shape s a) where
  -- all that the walk has given
  abbrev given : List ℕ
  given = is.front ++ s.histogram ∷ is.behind

  others_on : (b : Actor) → FrameOfStep a b → (records : List ℕ) → HaveOthers s a records → HaveOthers s b records
  others_on b beside records others = others_still a.seen b.seen beside.words s.histogram s.value records others

  -- it continues, and so may its walk
  goes_further : (walk : ℕ) (behind : List ℕ) (stage : SampleSearchStage) (b : Actor) → FrameOfStep a b → walk ≡ stands_behind (is.front ++ s.histogram ∷ behind)
      → is_reference shape.size walk ≡ true → IsPrefix (is.front ++ s.histogram ∷ behind) b.seen.chain
      → (IsMakingSample stage → (is.front ++ s.histogram ∷ behind ≡ b.seen.chain) × SawEnd b.seen)
      → StandsAtStage shape (record s { walk = walk; stage = stage }) b behind stage → IsSampleSearch shape (record s { walk = walk; stage = stage }) b
  goes_further walk behind stage b beside here reach chain whole stands = record {
    shaped = is.shaped;
    segment = ap (λ x. x.shape) beside.segment ∙ is.segment;
    lawful_shape = is.lawful_shape;
    some = is.some;
    valued = is.valued;
    knows = let (known, (inside, there, sparse)) = is.knows in (known, (subst (λ (l : List Known). Contains l known) (sym beside.names) inside, there, sparse));
    front = is.front;
    behind = behind;
    walk = here;
    reach = reach;
    chain = chain;
    whole = whole;
    stands = stands;
  }

  goes_still : (stage : SampleSearchStage) (b : Actor) → FrameOfStep a b → (IsMakingSample stage → (given ≡ b.seen.chain) × SawEnd b.seen)
      → StandsAtStage shape (record s { stage = stage }) b is.behind stage
      → IsSampleSearch shape (record s { stage = stage }) b
  goes_still stage b beside whole stands =
      goes_further s.walk is.behind stage b beside is.walk is.reach (prefix_of_prefix given a.seen.chain b.seen.chain is.chain beside.chain) whole stands

  -- ---- a next

  module _ (walks : s.stage ≡ Walking) where
    stood : IsFree a × HaveOthers s a is.behind
    stood = subst (StandsAtStage shape s a is.behind) walks is.stands

    loads : (said : WalkStep) → said ≡ said_of (length words) (word_at words (s.walk + 3))
        → StepsBy shape.size version a words words (λ b. FrameOfStep a b × (b.done ≡ a.done) × EndsWith given said b × IsFree b × IsPrefix (given_after given said) b.seen.chain)
    loads = walks_saying shape version a given words s.walk is.segment long is.walk stood.0 is.chain

    -- it found a record, whose type it loads next
    pub meets : (reference walk : ℕ) → Record reference ≡ said_of (length words) (word_at words (s.walk + 3))
        → walk ≡ stands_behind (given ++ reference ∷ []) → is_reference (length words) walk ≡ true → walk ≡ reference
        → StepsBy shape.size version a words words (SampleSearchGives shape (record s { walk = walk; stage = LoadingType reference }) More a)
    meets reference walk says walked reach here =
        let onward = append_assoc is.front (s.histogram ∷ is.behind) (reference ∷ []) in
        let within = reference_within shape reference is.lawful_shape (subst (λ (p : ℕ × ℕ). is_reference p.0 p.1 ≡ true) (λ i. (long i, here i)) reach) in
        goes_with (loads (Record reference) says) (λ b (beside, done, ends_so, free, front). (
          beside,
          does_nothing (serves_sample s a) a b done,
          goes_further walk (is.behind ++ reference ∷ []) (LoadingType reference) b beside (walked ∙ ap stands_behind onward)
              (subst (λ (n : ℕ). is_reference n walk ≡ true) long reach) (subst (λ (l : List ℕ). IsPrefix l b.seen.chain) onward front) (λ none. absurd none)
              (record { free = free; passed = is.behind; are = refl; others = others_on b beside is.behind stood.1; within = within }),
        ))

    -- a word that no list has: it is where it was
    pub strays : (walk : ℕ) → Stray ≡ said_of (length words) (word_at words (s.walk + 3)) → walk ≡ s.walk
        → StepsBy shape.size version a words words (SampleSearchGives shape (record s { walk = walk }) More a)
    strays walk says here = goes_with (loads Stray says) (λ b (beside, done, ends_so, free, front). (
      beside,
      does_nothing (serves_sample s a) a b done,
      goes_further walk is.behind s.stage b beside (here ∙ is.walk) (ap (is_reference shape.size) here ∙ is.reach) front
          (λ new_record. absurd (subst IsMakingSample walks new_record)) (subst (StandsAtStage shape (record s { walk = walk }) b is.behind) (sym walks) (free, others_on b beside is.behind stood.1)),
    ))

    -- its actor may make a sample
    may_make : (b : Actor) → FrameOfStep a b → MayMake shape (wanted_of s) b
    may_make b beside = record {
      some = omega arith;
      first = is.some;
      enough = omega arith;
      one_page = let wide = is.lawful_shape.wide in omega (arith, wide);
      holds = λ front k kept. (k, kept);
      may = λ own tag size.
          let (known, (inside, there, sparse)) = is.knows in
          (tag, size, is.valued, (known, (subst (λ (l : List Known). Contains l known) (sym beside.names) inside, there, sparse)));
    }

    -- at the end of the list it begins to make a sample
    pub ends : (walk : ℕ) (makes : NewRecordOf) → End ≡ said_of (length words) (word_at words (s.walk + 3)) → walk ≡ s.walk → new_record.IsStarted s.shape 4 3 makes
        → StepsBy shape.size version a words words (SampleSearchGives shape (record s { walk = walk; stage = Making makes }) More a)
    ends walk makes says here starts = goes_with (loads End says) (λ b (beside, done, ends_so, free, front). (
      beside,
      does_nothing (serves_sample s a) a b done,
      goes_further walk is.behind (Making makes) b beside (here ∙ is.walk) (ap (is_reference shape.size) here ∙ is.reach) front (λ new_record. ends_so) (
        others_on b beside is.behind stood.1,
        begins shape (wanted_of s) makes b (ap (λ x. x.shape) beside.segment ∙ is.segment) is.lawful_shape (may_make b beside) (free_turns b.hand.place free)
            (subst (λ (d : Dimensions). new_record.IsStarted d 4 3 makes) is.shaped starts),
      ),
    ))

  -- ---- a record that it found

  module _ (at : ℕ) (met : StandsAtRecord shape s at a is.behind) where
    -- it is on the chain that its actor has seen
    chain_is : (rest : List ℕ) × (a.seen.chain ≡ is.front ++ s.histogram ∷ (met.passed ++ at ∷ rest))
    chain_is = let (rest, chain) = is.chain in (
      rest,
      chain
          ∙ (append_assoc is.front (s.histogram ∷ is.behind) rest
          ∙ ap (λ (l : List ℕ). is.front ++ s.histogram ∷ l) (ap (λ (l : List ℕ). l ++ rest) met.are ∙ append_assoc met.passed (at ∷ []) rest)),
    )

    there : Contains a.seen.chain at
    there = subst (λ (l : List ℕ). Contains l at) (sym chain_is.1)
        (Contains-append_right is.front (s.histogram ∷ (met.passed ++ at ∷ chain_is.0)) at
        (Contains-append_right (s.histogram ∷ met.passed) (at ∷ chain_is.0) at (0, omega arith, refl)))

    -- a word of it that never changes is loaded
    module _ (index : ℕ) (fixed : IsFixed a at index) where
      abbrev event : WalkingEvent
      event = load_published at index

      abbrev found : ℕ
      found = word_at words (at + index)

      abbrev acted : Actor
      acted = next a (walking_event event) found

      beside : FrameOfStep a acted
      beside = walk_beside a event found

      -- nothing is done to the segment
      none : DoesOnly false false (serves_sample s a) a acted
      none = does_nothing (serves_sample s a) a acted refl

      -- its actor has seen that word then
      seen_there : Learned a (walking_event event) found → word_seen acted.seen.words (at + index) ≡ Some found
      seen_there learned = seen_now a.seen.words (at + index) found learned.1

      -- and what it had seen
      seen_still : (other word : ℕ) → word_seen a.seen.words other ≡ Some word → word_seen acted.seen.words other ≡ Some word
      seen_still other word saw = still a.seen.words acted.seen.words beside.words other word saw

      -- it is still there
      met_still : (stage : SampleSearchStage) → StandsAtRecord shape (record s { stage = stage }) at acted is.behind
      met_still stage = record { free = met.free; passed = met.passed; are = met.are; others = others_on acted beside met.passed met.others; within = met.within }

      -- it is no sample of the value
      passes_it : SawOther acted.seen s.histogram s.value at → StandsAtStage shape (record s { stage = Walking }) acted is.behind Walking
      passes_it other = (
        met.free,
        subst (All (SawOther acted.seen s.histogram s.value)) (sym met.are)
            (All-push (SawOther acted.seen s.histogram s.value) met.passed at (others_on acted beside met.passed met.others) other),
      )

      does_load : (new : SampleSearch) (said : SampleSearchStep) → (Learned a (walking_event event) found → SampleSearchGives shape new said a acted)
          → StepsBy shape.size version a words words (SampleSearchGives shape new said a)
      does_load new said gives = by_event (walking_event event) (free_turns a.hand.place met.free, there, fixed)
          (sym (set-get_or words (at + index) 0))
          (λ learned apart ordered. gives learned)

  -- the type
  module _ (at : ℕ) (loads : s.stage ≡ LoadingType at) where
    met_type : StandsAtRecord shape s at a is.behind
    met_type = subst (StandsAtStage shape s a is.behind) loads is.stands

    abbrev tag : ℕ
    tag = word_at words (at + 2)

    abbrev typed : Actor
    typed = next a (walking_event (load_published at 2)) tag

    pub loads_type : StepsBy shape.size version a words words (SampleSearchGives shape (record s { stage = behind_type at tag }) More a)
    loads_type = does_load at met_type 2 (inl refl) (record s { stage = behind_type at tag }) More (λ learned. (
      beside at met_type 2 (inl refl),
      none at met_type 2 (inl refl),
      goes_still (behind_type at tag) typed (beside at met_type 2 (inl refl)) (λ new_record. absurd (makes_none (tag == 3) new_record)) (by (tag == 3) refl learned),
    ))
      where
        makes_none : (test : Bool) → IsMakingSample (if test then LoadingHistogram at else Walking) → ⊥
        makes_none true new_record = new_record
        makes_none false new_record = new_record

        by : (test : Bool) → (tag == 3) ≡ test → Learned a (walking_event (load_published at 2)) tag
            → let stage = if test then LoadingHistogram at else Walking in StandsAtStage shape (record s { stage = stage }) typed is.behind stage
        by true e learned =
            let sample = eqb-true tag 3 e in (
              met_still at met_type 2 (inl refl) (LoadingHistogram at),
              (seen_there at met_type 2 (inl refl) learned ∙ ap Some sample, subst (λ (d : Dimensions). at + 8 ≤ d.size) is.segment (learned.0.1 refl sample)),
            )
        by false e learned =
            passes_it at met_type 2 (inl refl) (inl (tag, seen_there at met_type 2 (inl refl) learned, λ same. true≢false (sym (eq-eqb tag 3 same) ∙ e)))

    pub type_within : at + 5 ≤ shape.size
    type_within = met_type.within

  -- the histogram of a sample
  module _ (at : ℕ) (loads : s.stage ≡ LoadingHistogram at) where
    met_sample : StandsAtStage shape s a is.behind (LoadingHistogram at)
    met_sample = subst (StandsAtStage shape s a is.behind) loads is.stands

    fixed_histogram : IsFixed a at 4
    fixed_histogram = inr (inr (met_sample.1.0, omega arith, omega arith))

    pub loads_histogram : StepsBy shape.size version a words words (SampleSearchGives shape (record s { stage = LoadingValue at (word_at words (at + 4)) }) More a)
    loads_histogram =
        let of : ℕ = word_at words (at + 4) in
        let b : Actor = next a (walking_event (load_published at 4)) of in
        let its_beside = beside at met_sample.0 4 fixed_histogram in
        does_load at met_sample.0 4 fixed_histogram (record s { stage = LoadingValue at of }) More (λ learned. (
          its_beside,
          none at met_sample.0 4 fixed_histogram,
          goes_still (LoadingValue at of) b its_beside (λ none. absurd none) (
            met_still at met_sample.0 4 fixed_histogram (LoadingValue at of),
            (seen_still at met_sample.0 4 fixed_histogram (at + 2) 3 met_sample.1.0, met_sample.1.1),
            seen_there at met_sample.0 4 fixed_histogram learned,
          ),
        ))

    pub histogram_within : at + 8 ≤ shape.size
    histogram_within = met_sample.1.1

  -- its value
  module _ (at of : ℕ) (loads : s.stage ≡ LoadingValue at of) where
    met_value : StandsAtStage shape s a is.behind (LoadingValue at of)
    met_value = subst (StandsAtStage shape s a is.behind) loads is.stands

    fixed_value : IsFixed a at 5
    fixed_value = inr (inr (met_value.1.0, omega arith, omega arith))

    abbrev word : ℕ
    word = word_at words (at + 5)

    abbrev valued : Actor
    valued = next a (walking_event (load_published at 5)) word

    -- it is the first sample of the value
    pub found_so : IsIts s of word true → StepsBy shape.size version a words words (SampleSearchGives shape s (Found at) a)
    found_so (its, same) =
        let met = met_value.0 in
        let its_beside = beside at met 5 fixed_value in
        does_load at met 5 fixed_value s (Found at) (λ learned. (
          its_beside,
          none at met 5 fixed_value,
          met.free,
          (
            is.front,
            met.passed ++ at ∷ (chain_is at met).0,
            (chain_is at met).1,
            (
              met.passed,
              (chain_is at met).0,
              refl,
              others_on valued its_beside met.passed met.others,
              (
                seen_still at met 5 fixed_value (at + 2) 3 met_value.1.0,
                seen_still at met 5 fixed_value (at + 4) of met_value.2 ∙ ap Some its,
                seen_there at met 5 fixed_value learned ∙ ap Some same,
                is.valued,
              ),
            ),
          ),
          met_value.1.1,
        ))

    -- it is none of the value, and the walk continues
    pub other_so : IsIts s of word false → StepsBy shape.size version a words words (SampleSearchGives shape (record s { stage = Walking }) More a)
    other_so other =
        let met = met_value.0 in
        let its_beside = beside at met 5 fixed_value in
        does_load at met 5 fixed_value (record s { stage = Walking }) More (λ learned. (
          its_beside,
          none at met 5 fixed_value,
          goes_still Walking valued its_beside (λ none. absurd none) (passes_it at met 5 fixed_value (saw_other learned other)),
        ))
      where
        saw_other : Learned a (walking_event (load_published at 5)) word → IsIts s of word false → SawOther valued.seen s.histogram s.value at
        saw_other learned (inl apart) = inr (inl (of, seen_still at met_value.0 5 fixed_value (at + 4) of met_value.2, apart))
        saw_other learned (inr apart) = inr (inr (word, seen_there at met_value.0 5 fixed_value learned, apart))

    pub value_within : at + 8 ≤ shape.size
    value_within = met_value.1.1

  -- ---- a sample is made

  module _ (m : NewRecordOf) (makes : s.stage ≡ Making m) where
    pub stood_making : StandsAtStage shape s a is.behind (Making m)
    stood_making = subst (StandsAtStage shape s a is.behind) makes is.stands

    -- its actor has still seen the end of the list
    whole_still : (b : Actor) → SeesNoMore a b → (given ≡ b.seen.chain) × SawEnd b.seen
    whole_still b (chain, ends, singles) =
        let (whole, saw) = is.whole (subst IsMakingSample (sym makes) tt) in (
          whole ∙ sym chain,
          subst (λ (p : List ℕ × List ℕ). Contains p.0 (stands_behind p.1 + 3)) (λ i. (sym ends i, sym chain i)) saw,
        )

    -- it makes the sample of its value, of which it has seen none
    serves_it : (full : Bool) (b : Actor) → DoesOnly false full (serves_wanted (wanted_of s)) a b → DoesOnly false full (serves_sample s a) a b
    serves_it full b = does_less false full (serves_wanted (wanted_of s)) (serves_sample s a) a b so
      where
        so : (deed : SharedEffect) → serves_wanted (wanted_of s) deed → serves_sample s a deed
        so (links made) it = it
        so (raises words) it =
            let (whole, saw) = is.whole (subst IsMakingSample (sym makes) tt) in
            (it, (is.front, is.behind, sym whole, stood_making.0, saw))

    -- for each result of a step of the new record
    pub makes_so : (x : NewRecordOf) (new_words : List ℕ) (says : NewRecordStep) (new : SampleSearch) (result : SampleSearchStep)
        → StepsBy shape.size version a words new_words (NewRecordGives shape (wanted_of s) x says a) → IsMade (record s { stage = Making x }) says new result
        → StepsBy shape.size version a words new_words (SampleSearchGives shape new result a)
    makes_so x new_words made.More new result goes (new_is, result_is) =
        subst (λ (p : SampleSearch × SampleSearchStep). StepsBy shape.size version a words new_words (SampleSearchGives shape p.0 p.1 a)) (λ i. (sym new_is i, sym result_is i))
        (goes_with goes (λ b (beside, does, list, makes_on). (beside, serves_it false b does, goes_still (Making x) b beside (λ new_record. whole_still b list) (others_on b beside is.behind stood_making.0, makes_on))))
    makes_so x new_words made.Done new result goes (new_is, result_is) =
        subst (λ (p : SampleSearch × SampleSearchStep). StepsBy shape.size version a words new_words (SampleSearchGives shape p.0 p.1 a)) (λ i. (sym new_is i, sym result_is i))
        (goes_with goes (λ b (beside, does, turns). (beside, serves_it false b does, goes_still Walking b beside (λ none. absurd none) (turns, others_on b beside is.behind stood_making.0))))
    makes_so x new_words (made.Refused cause) new result goes (new_is, result_is) =
        subst (λ (p : SampleSearch × SampleSearchStep). StepsBy shape.size version a words new_words (SampleSearchGives shape p.0 p.1 a)) (λ i. (sym new_is i, sym result_is i))
        (goes_with goes (λ b (beside, does, list, turns, is_cause).
        (beside, serves_it (is_full cause) b does, turns, is_cause, (is.front, is.behind, sym (whole_still b list).0, others_on b beside is.behind stood_making.0, (whole_still b list).1))))

-- ---- where it loads

pub type_inside : (s : SampleSearch) (words : List ℕ) (at : ℕ) → s.stage ≡ LoadingType at → ∥ IsSomeSampleSearch (length words) s ∥₁
    → (at + 5 ≤ length words) × (length words ≤ 1048576)
type_inside s words at loads stands = ∥∥₁_elim stands (hlevel props) (λ (shape, a, long, is).
    let within = type_within shape 1 s a words long is at loads in let many = is.lawful_shape.many in (omega (arith, within, long), omega (arith, many, long)))

pub histogram_inside : (s : SampleSearch) (words : List ℕ) (at : ℕ) → s.stage ≡ LoadingHistogram at → ∥ IsSomeSampleSearch (length words) s ∥₁
    → (at + 8 ≤ length words) × (length words ≤ 1048576)
histogram_inside s words at loads stands = ∥∥₁_elim stands (hlevel props) (λ (shape, a, long, is).
    let within = histogram_within shape 1 s a words long is at loads in let many = is.lawful_shape.many in (omega (arith, within, long), omega (arith, many, long)))

pub value_inside : (s : SampleSearch) (words : List ℕ) (at of : ℕ) → s.stage ≡ LoadingValue at of → ∥ IsSomeSampleSearch (length words) s ∥₁
    → (at + 8 ≤ length words) × (length words ≤ 1048576)
value_inside s words at of loads stands = ∥∥₁_elim stands (hlevel props) (λ (shape, a, long, is).
    let within = value_within shape 1 s a words long is at of loads in let many = is.lawful_shape.many in (omega (arith, within, long), omega (arith, many, long)))
