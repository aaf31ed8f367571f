-- A delta takes of the samples of a sparse histogram, event by event.
use Rattle.segment_invariant.proofs.Prelude.Std.{◌≡◌, ◌≢◌, ℕ, ◌+◌, ◌-◌, ◌/◌, ◌<◌, ◌≤◌, ◌==◌, ℤ, max, Bool, true, false, true≢false, if◌then◌else◌, List, [], ◌∷◌, ◌++◌, length, inl, inr, ⊎_elim, refl, sym, ap, subst, ◌∙◌, arith, eqb-true, eq-eqb, Option, slice_set, unwrap_or, vec_capacity, vec_len, cast_signed, w64, Contains, props, ∥∥₁_elim, set-get_or}
use Rattle.segment_invariant.proofs.Prelude.Machine.{Dimensions, word_at, IsPrefix, Actor, Known, Taken, Place, Sighting, SawCount, is_bound, units_listed, back, Learned, next, taking_event, noted, load_count, raise_mark}
use Rattle.segment_invariant.proofs.Lists.Maps.{contains_map}
use Rattle.segment_machine.specs.declared.place.Place.TheVariants as place
use Rattle.segment_machine.specs.Actor.{Sparse}
use Rattle.segment_machine.specs.Note.{TookSample, nothing_taken, takes}
use Rattle.segment_machine.specs.Taking.{TakingEvent, at_count, is_looking, taken_key}
use Rattle.segment_machine.proofs.Values.{value_word}
use Rattle.segment_promises.specs.Values.{ListsValues}
use Rattle.segment_promises.proofs.ListedValues.{lists_on, lists_one}
use Rattle.segment_promises.proofs.ValueWalks.{behind_it, split_at_it}
use Rattle.segment_promises.specs.Calls.{AreUnits, SeesMore}
use Rattle.segment_promises.proofs.Calls.SampleLists.{not_before}
use Rattle.segment_promises.proofs.Calls.Sights.{saw_count, seen_here}
use Rattle.hist_core.specs.declared.delta_call.DeltaStage.{DeltaStage}
use Rattle.hist_core.specs.declared.delta_call.DeltaStage.TheVariants.{Walking, LoadingSample, RaisingSample}
use Rattle.hist_core.specs.declared.delta_call.DeltaCall.{DeltaCall}
use Rattle.hist_core.specs.declared.delta_call.DeltaCallStep.{DeltaCallStep}
use Rattle.hist_core.specs.declared.delta_call.DeltaCallStep.TheVariants.{More, Took, Done}
use Rattle.hist_core.specs.declared.walk.Met.{Met}
use Rattle.hist_core.specs.declared.walk.Met.TheVariants.{Nothing, Sample, End}
use Rattle.hist_core.specs.declared.walk.SampleWalk.{SampleWalk}
use Rattle.hist_core.specs.declared.walk.SampleWalk.TheVariants.{LoadingFirst, LoadingType, LoadingHistogram, LoadingValue, LoadingNext}
use Rattle.hist_core.specs.StepsBy.{FrameOfStep, StepsBy, IsInOrder, WalksInOrder}
use Rattle.hist_core.specs.DeltaCall.{HasBegun, HasLoadedSample, HoldsValues, IsBeforeAll, IsSomeDeltaCall, IsDeltaCall, IsUnderWay, ListsTaken, StandsAtStage, DeltaCallGives, FrameOfDelta, TakesUnits, behind_sample, behind_walk, insert_by_key}
use Rattle.hist_core.specs.Walk.{HasComeTo, HasSetOut, IsSampleWalkProgress, Meets, MetRecord, MetSample, WalksAt, spot_of}
use Rattle.hist_core.proofs.Parts.Allocations.{goes_with}
use Rattle.hist_core.proofs.Walks.Passing.{way_still}
use Rattle.hist_core.proofs.Worlds.Quiet.{not_spent}
use Rattle.hist_core.proofs.DeltaCall.Going.{IsSame, acts_on, goes_still, is_inside, same_still, same_taken, same_way, takes_it, taking_sees}
use Rattle.hist_core.proofs.DeltaCall.Lists.{way_taken}
use Rattle.hist_core.proofs.DeltaCall.Values.{lists_moved, moved_in, taken_along, units_insert}
use Rattle.hist_core.proofs.AddCall.GhostNotes.{goes_after}
use Rattle.hist_core.proofs.Walks.Walking.{began_before, few_passed, spot_inside, there, walks_so}

-- ---- its first event has happened

-- whatever its walk found
pub begun_behind : (walk : SampleWalk) (histogram word : ℕ) (met : Met) → Meets walk histogram word met → HasBegun (behind_walk met)
begun_behind LoadingFirst histogram word met is = subst (λ (m : Met). HasBegun (behind_walk m)) (sym is) (by (word == 12))
  where
    by : (ends : Bool) → HasBegun (behind_walk (if ends then End else Nothing (LoadingType word)))
    by true = tt
    by false = tt
begun_behind (LoadingType at) histogram word met is = subst (λ (m : Met). HasBegun (behind_walk m)) (sym is) (by (word == 3))
  where
    by : (sample : Bool) → HasSetOut (if sample then LoadingHistogram at else LoadingNext at)
    by true = tt
    by false = tt
begun_behind (LoadingHistogram at) histogram word met is = subst (λ (m : Met). HasBegun (behind_walk m)) (sym is) tt
begun_behind (LoadingValue at of) histogram word (Sample r value) is = tt
begun_behind (LoadingValue at of) histogram word (Nothing (LoadingNext r)) is = tt
begun_behind (LoadingValue at of) histogram word (Nothing LoadingFirst) is = absurd is
begun_behind (LoadingValue at of) histogram word (Nothing (LoadingType r)) is = absurd is
begun_behind (LoadingValue at of) histogram word (Nothing (LoadingHistogram r)) is = absurd is
begun_behind (LoadingValue at of) histogram word (Nothing (LoadingValue r o)) is = absurd is
begun_behind (LoadingValue at of) histogram word End is = absurd is
begun_behind (LoadingNext at) histogram word met is = subst (λ (m : Met). HasBegun (behind_walk m)) (sym is) (by (word == 12))
  where
    by : (ends : Bool) → HasBegun (behind_walk (if ends then End else Nothing (LoadingType word)))
    by true = tt
    by false = tt

-- whatever the count of a sample is
pub begun_sample : (at : ℕ) (value : ℤ) (count : ℕ) → HasBegun (behind_sample at value count)
begun_sample at value count = by (count == 0)
  where
    by : (none : Bool) → HasBegun (if none then Walking (LoadingNext at) else RaisingSample at value count)
    by true = tt
    by false = tt

-- ---- it is under way

way_beside : (known : Known) (earlier : List Taken) (delta_call : DeltaCall) (a b : Actor) → b.deltas ≡ a.deltas → IsUnderWay known earlier delta_call a
    → IsUnderWay known earlier delta_call b
way_beside known earlier delta_call a b deltas way = record {
  taking = ap (λ d. d.taking) deltas ∙ way.taking;
  last = way.last;
  taken = ap (λ d. d.taken) deltas ∙ way.taken;
  name = way.name;
  counts = way.counts;
  sum = way.sum;
}

-- where an actor is that has loaded the count of a sample
at_sample : (p : Place) (at found : ℕ) → is_looking p ≡ false → at_count p at found ≡ place.SampleLoaded (at - 6) found
at_sample (place.Looking look) at found apart = absurd (cc apart)
at_sample (place.CountLoaded look bucket count) at found apart = absurd (cc apart)
at_sample p at found apart = refl

module _ (shape : Dimensions) (known : Known) (earlier : List Taken) (delta_call : DeltaCall) (a : Actor) (words : List ℕ) (is : IsDeltaCall shape known earlier delta_call a) where
  -- ---- a walk

  abbrev behind : Met → DeltaCall
  behind met = record delta_call { stage = behind_walk met }

  -- it continues from what its walk found
  stands_behind : (met : Met) (b : Actor) → IsUnderWay known earlier delta_call b → HoldsValues shape delta_call → HasComeTo shape known (ListsTaken known delta_call) met b
      → StandsAtStage shape known earlier (behind met) b (behind_walk met)
  stands_behind (Nothing walk) b way room (set_out, stands) =
      (inr (set_out, same_way known earlier delta_call (behind (Nothing walk)) b refl way), still_at walk stands, room)
    where
      still_at : (walk : SampleWalk) → WalksAt shape known (ListsTaken known delta_call) walk b → WalksAt shape known (ListsTaken known (behind (Nothing walk))) walk b
      still_at walk stands = stands
  stands_behind (Sample at value) b way room met = (same_way known earlier delta_call (behind (Sample at value)) b refl way, met, room)
  stands_behind End b way room all =
      (same_way known earlier delta_call (behind End) b refl way, inr (record { passed = all.passed; way = all.way; lists = all.lists }))

  -- what a walk leaves unchanged, from where its call has begun
  aside_of : (begun b : Actor) → record begun { since = a.since; deltas = a.deltas } ≡ a → begun.deltas.snapshots ≡ a.deltas.snapshots
      → begun.deltas.first_taken ≡ a.deltas.first_taken → FrameOfStep begun b → b.done ≡ begun.done → FrameOfDelta a b
  aside_of begun b same snapshots first beside done = record {
    role = beside.role ∙ ap (λ (x : Actor). x.role) same;
    segment = beside.segment ∙ ap (λ (x : Actor). x.segment) same;
    units = beside.units ∙ ap (λ (x : Actor). x.units) same;
    entries = beside.entries ∙ ap (λ (x : Actor). x.entries) same;
    names = beside.names ∙ ap (λ (x : Actor). x.answers.names) same;
    snapshots = ap (λ d. d.snapshots) beside.deltas ∙ snapshots;
    first = ap (λ d. d.first_taken) beside.deltas ∙ first;
    chain = subst (λ (x : Actor). IsPrefix x.seen.chain b.seen.chain) same beside.chain;
    words = subst (λ (x : Actor). (more : List Sighting) × (b.seen.words ≡ x.seen.words ++ more)) same beside.words;
    done = done ∙ ap (λ (x : Actor). x.done) same;
  }

  module _ (met : Met) where
    goes_behind : (b : Actor) → FrameOfDelta a b → is_bound b.hand.place ≡ false → IsUnderWay known earlier delta_call b → HoldsValues shape delta_call
        → HasComeTo shape known (ListsTaken known delta_call) met b → FrameOfDelta a b × IsDeltaCall shape known earlier (behind met) b
    goes_behind b aside turns way room comes = (
      aside,
      goes_still shape known earlier delta_call a is (behind met) b (record { version = refl; histogram = refl; ranges = refl; room = refl }) aside turns is.units
          (stands_behind met b way room comes),
    )

    -- after its first event
    further : (walk : SampleWalk) → IsUnderWay known earlier delta_call a → WalksAt shape known (ListsTaken known delta_call) walk a → HoldsValues shape delta_call → HasSetOut walk
        → Meets walk known.reference (word_at words (spot_of known.reference walk)) met
        → StepsBy shape.size delta_call.version a words words (DeltaCallGives shape known earlier (behind met) More a)
    further walk way stands room set_out meets =
        goes_with (walks_so shape delta_call.version known (ListsTaken known delta_call) (taken_along known delta_call) a words is.segment is.turns walk stands
        (began_before shape known (ListsTaken known delta_call) walk a set_out stands) met meets) (λ b (beside, since, done, turns, comes).
        goes_behind b (aside_of a b refl refl refl beside done) turns (way_beside known earlier delta_call a b beside.deltas way) room comes)

    -- with its first event it begins to take
    sets_out : IsBeforeAll earlier delta_call a → WalksAt shape known (ListsTaken known delta_call) LoadingFirst a → HoldsValues shape delta_call
        → Meets LoadingFirst known.reference (word_at words (known.reference + 3)) met
        → StepsBy shape.size delta_call.version a words words (DeltaCallGives shape known earlier (behind met) More a)
    sets_out before stands room meets =
        let begun : Actor = noted a (takes known.name) in
        let way : IsUnderWay known earlier delta_call begun = record {
          taking = refl;
          last = nothing_taken a known.name;
          taken = ap (λ (l : List Taken). l ++ nothing_taken a known.name ∷ []) before.1;
          name = refl;
          counts = λ key. ap (λ (l : List (ℤ × ℕ)). units_listed l key) before.2;
          sum = refl;
        } in
        goes_after (takes known.name) (
          λ e. true≢false (sym (ap is_bound e) ∙ is.turns),
          is.recorder,
          is.counts_nothing,
          before.0,
          contains_map (λ (k : Known). k.name) a.answers.names known is.knows,
        )
        (goes_with (walks_so shape delta_call.version known (ListsTaken known delta_call) (taken_along known delta_call) begun words is.segment is.turns LoadingFirst
        (record { sparse = stands.0.sparse; apart = stands.0.apart; met = stands.0.met }, stands.1)
        (record { singles = omega arith; counts = omega arith }) met meets) (λ b (beside, since, done, turns, comes).
        goes_behind b (aside_of begun b refl refl refl beside done) turns (way_beside known earlier delta_call begun b beside.deltas way) room comes))

    pub walks_further : (walk : SampleWalk) → delta_call.stage ≡ Walking walk → Meets walk delta_call.histogram (word_at words (spot_of delta_call.histogram walk)) met
        → StepsBy shape.size delta_call.version a words words (DeltaCallGives shape known earlier (behind met) More a)
    walks_further walk loads meets =
        let stands : StandsAtStage shape known earlier delta_call a (Walking walk) = subst (StandsAtStage shape known earlier delta_call a) loads is.stands in
        let it_meets : Meets walk known.reference (word_at words (spot_of known.reference walk)) met =
        subst (λ (h : ℕ). Meets walk h (word_at words (spot_of h walk)) met) (sym is.reference) meets in
        ⊎_elim (λ (first, before). sets_out before (subst (λ (w : SampleWalk). WalksAt shape known (ListsTaken known delta_call) w a) first stands.1) stands.2
        (subst (λ (w : SampleWalk). Meets w known.reference (word_at words (spot_of known.reference w)) met) first it_meets))
        (λ (set_out, way). further walk way stands.1 stands.2 set_out it_meets) stands.0

  -- ---- the count of a sample is loaded

  module _ (at : ℕ) (value : ℤ) (loads : delta_call.stage ≡ LoadingSample at value) where
    stands : StandsAtStage shape known earlier delta_call a (LoadingSample at value)
    stands = subst (StandsAtStage shape known earlier delta_call a) loads is.stands

    abbrev met_count : MetSample shape known (ListsTaken known delta_call) at value a
    met_count = stands.1

    abbrev its_passed : List ℕ
    its_passed = met_count.0.passed

    abbrev its_way : IsSampleWalkProgress known its_passed at a
    its_way = met_count.0.way

    met_there : Contains a.seen.chain at
    met_there = there shape delta_call.version known (ListsTaken known delta_call) (taken_along known delta_call) a words is.segment is.turns at met_count.0

    abbrev count : ℕ
    count = word_at words (at + 6)

    abbrev counted : Actor
    counted = next a (taking_event (load_count (at + 6))) count

    counted_sees : SeesMore a counted
    counted_sees = taking_sees a (load_count (at + 6)) count

    placed : counted.hand.place ≡ place.SampleLoaded at count
    placed =
        let same : at + 6 - 6 ≡ at = omega arith in
        at_sample a.hand.place (at + 6) count its_way.apart ∙ ap (λ (n : ℕ). place.SampleLoaded n count) same

    saw_it : SawCount counted (at + 6) count
    saw_it = seen_here a.since.counts a.seen.counts (at + 6) count its_way.began.counts

    sparse_there : Sparse a known.reference known
    sparse_there = (is.knows, refl, its_way.sparse)

    way_counted : IsSampleWalkProgress known its_passed at counted
    way_counted = way_still known a counted counted_sees its_passed at refl (ap is_looking placed) its_way

    lists_counted : ListsTaken known delta_call its_passed counted
    lists_counted = (taken_along known delta_call).still a counted counted_sees its_way.began its_passed met_count.0.lists

    under_way : (t : DeltaCall) → t.counts ≡ delta_call.counts → IsUnderWay known earlier t counted
    under_way t same = way_beside known earlier t a counted refl (same_way known earlier delta_call t a same stands.0)

    module _ (order : IsInOrder a) (learned : Learned a (taking_event (load_count (at + 6))) count) where
      stands_then : (none : Bool) → (count == 0) ≡ none
          → let stage : DeltaStage = if none then Walking (LoadingNext at) else RaisingSample at value count in
          StandsAtStage shape known earlier (record delta_call { stage = stage }) counted stage
      stands_then true e = (
        inr (tt, under_way (record delta_call { stage = Walking (LoadingNext at) }) refl),
        record {
          passed = its_passed;
          way = way_counted;
          record_there = met_count.0.record_there;
          lists = lists_on (λ value sample. TookSample counted sample) (λ sample units. 1 ≤ units) known.reference counted.seen its_passed delta_call.counts.items
              lists_counted at (inl (value, met_count.2, (count, saw_it, inl (eqb-true count 0 e))));
        },
        stands.2,
      )
      stands_then false e =
          let some : count ≢ 0 = λ none. true≢false (sym (eq-eqb count 0 none) ∙ e) in (
            under_way (record delta_call { stage = RaisingSample at value count }) refl,
            record {
              met = (
                record { passed = its_passed; way = way_counted; record_there = met_count.0.record_there; lists = lists_counted },
                met_count.1,
                met_count.2,
              );
              place = placed;
              saw = saw_it;
              some = omega (arith, some);
              first = not_before known a its_way.comes.front its_passed (behind_it a known.reference its_passed at its_way.comes met_count.0.record_there).0 at sparse_there
                  (split_at_it a known.reference its_passed at its_way.comes met_count.0.record_there) order.once (λ value sample. TookSample a sample)
                  met_count.0.lists.passes value met_count.2 (λ later. some (learned.1 at refl later));
            },
            stands.2,
          )

    pub loads_sample : WalksInOrder a
        → StepsBy shape.size delta_call.version a words words (DeltaCallGives shape known earlier (record delta_call { stage = behind_sample at value count }) More a)
    loads_sample order =
        acts_on shape known earlier delta_call a is words words (load_count (at + 6)) (record delta_call { stage = behind_sample at value count })
        (record { version = refl; histogram = refl; ranges = refl; room = refl })
        (inr (known, at, value, sparse_there, met_there, met_count.2, refl, is.turns, its_way.apart)) (sym (set-get_or words (at + 6) 0))
        (ap is_bound placed) is.units (λ learned. stands_then (order (not_spent a.hand.place is.turns)) learned (count == 0) refl)

  -- ---- its mark is raised

  module _ (at : ℕ) (value : ℤ) (count : ℕ) (raises : delta_call.stage ≡ RaisingSample at value count) where
    stood : StandsAtStage shape known earlier delta_call a (RaisingSample at value count)
    stood = subst (StandsAtStage shape known earlier delta_call a) raises is.stands

    abbrev has : HasLoadedSample shape known delta_call at value count a
    has = stood.1

    abbrev met_before : MetRecord known (ListsTaken known delta_call) at a
    met_before = has.met.0

    abbrev passed : List ℕ
    passed = met_before.passed

    abbrev found : ℕ
    found = word_at words (at + 7)

    abbrev e : TakingEvent
    e = raise_mark (at + 7) count

    abbrev raised : Actor
    raised = next a (taking_event e) found

    abbrev resting : DeltaCall
    resting = record delta_call { stage = Walking (LoadingNext at) }

    key : taken_key a a.hand.place ≡ value
    key = ap (taken_key a) has.place ∙ (ap (λ (w : Option ℕ). cast_signed w64 (unwrap_or w 0)) has.met.2.2 ∙ value_word value has.met.2.3)

    idle : raised.hand.place ≡ place.Idle
    idle = ap back has.place

    raised_sees : SeesMore a raised
    raised_sees = taking_sees a e found

    took : TookSample raised at
    took = (
      count,
      saw_count a raised raised_sees met_before.way.began (at + 6) count has.saw,
      inr (max found count, seen_here a.since.counts a.seen.counts (at + 7) (max found count) met_before.way.began.counts, omega arith),
    )

    lists_before : ListsTaken known delta_call passed raised
    lists_before = (taken_along known delta_call).still a raised raised_sees met_before.way.began passed met_before.lists

    lists_then : (new : DeltaCall) (said : DeltaCallStep) → TakesUnits value count found resting new said
        → ListsTaken known new (passed ++ at ∷ []) raised × AreUnits new.counts.items
    lists_then new More (none, same) =
        subst (λ (t : DeltaCall). ListsTaken known t (passed ++ at ∷ []) raised × AreUnits t.counts.items) (sym same) (
          lists_on (λ value sample. TookSample raised sample) (λ sample units. 1 ≤ units) known.reference raised.seen passed delta_call.counts.items lists_before at
              (inl (value, has.met.2, took)),
          is.units,
        )
    lists_then new (Took k units) (some, is_key, is_units, same, listed, room) =
        let least : 1 ≤ units = omega (arith, some, is_units) in
        let whole = lists_one (λ value sample. TookSample raised sample) (λ sample units. 1 ≤ units) known.reference raised.seen passed delta_call.counts.items lists_before at value
        units has.met.2 took least has.first in
        let list_is : new.counts.items ≡ insert_by_key (value, units) delta_call.counts.items =
        listed ∙ ap (λ (x : ℤ). insert_by_key (x, units) delta_call.counts.items) is_key in
        subst (λ (l : List (ℤ × ℕ)). ListsValues (λ value sample. TookSample raised sample) (λ sample units. 1 ≤ units) known.reference (passed ++ at ∷ []) l raised.seen × AreUnits l)
        (sym list_is) (
          lists_moved (λ value sample. TookSample raised sample) (λ sample units. 1 ≤ units) known.reference (passed ++ at ∷ []) (delta_call.counts.items ++ (value, units) ∷ [])
              (insert_by_key (value, units) delta_call.counts.items) raised.seen (moved_in (value, units) delta_call.counts.items) whole,
          units_insert (value, units) delta_call.counts.items least is.units whole.once,
        )
    lists_then new (Done sum) none = absurd none

    raises_so : (new : DeltaCall) (said : DeltaCallStep) → TakesUnits value count found resting new said → IsSame delta_call new → new.stage ≡ Walking (LoadingNext at)
        → (new_words : List ℕ) → new_words ≡ slice_set words (at + 7) (max found count)
        → StepsBy shape.size delta_call.version a words new_words (λ b. FrameOfDelta a b × IsDeltaCall shape known earlier new b)
    raises_so new said taken same stage new_words are =
        acts_on shape known earlier delta_call a is words new_words e new same
        (has.some, inr (at, known.reference, known, has.place, has.met.2.1, takes_it shape known earlier delta_call a is stood.0, refl)) are (ap is_bound idle)
        (lists_then new said taken).1
        (λ learned.
        subst (StandsAtStage shape known earlier new raised) (sym stage) (
          inr (
            tt,
            way_taken known earlier (taken_key a a.hand.place) count found resting new said a raised
                (subst (λ (k : ℤ). TakesUnits k count found resting new said) (sym key) taken) (same_way known earlier delta_call resting a refl stood.0) refl,
          ),
          record {
            passed = passed;
            way = way_still known a raised raised_sees passed at refl (ap is_looking idle) met_before.way;
            record_there = met_before.record_there;
            lists = (lists_then new said taken).0;
          },
          subst (λ (n : ℕ). (shape.size - 16) / 5 ≤ n) (sym same.room) stood.2,
        ))

    pub gives_sample : (new : DeltaCall) (said : DeltaCallStep) (mark : ℕ) → TakesUnits value count mark resting new said → mark ≡ word_at words (at + 7)
        → (new_words : List ℕ) → new_words ≡ slice_set words (at + 7) (max (word_at words (at + 7)) count)
        → StepsBy shape.size delta_call.version a words new_words (DeltaCallGives shape known earlier new said a)
    gives_sample new More mark (none, same) is_mark new_words are =
        raises_so new More (subst (λ (n : ℕ). count ≤ n) is_mark none, same) (same_still delta_call (Walking (LoadingNext at)) new same) (ap (λ (t : DeltaCall). t.stage) same) new_words are
    gives_sample new (Took k units) mark (some, is_key, is_units, same, listed, room) is_mark new_words are =
        raises_so new (Took k units)
        (subst (λ (n : ℕ). n < count) is_mark some, is_key, is_units ∙ ap (λ (n : ℕ). count - n) is_mark, same, listed, room)
        (same_taken delta_call (Walking (LoadingNext at)) new same room) (ap (λ (t : DeltaCall). t.stage) same) new_words are
    gives_sample new (Done sum) mark none is_mark new_words are = absurd none

-- ---- words that are loaded lie within the words

pub some_walk : (delta_call : DeltaCall) (words : List ℕ) (walk : SampleWalk) → delta_call.stage ≡ Walking walk → ∥ IsSomeDeltaCall (length words) delta_call ∥₁
    → (spot_of delta_call.histogram walk < length words) × (length words ≤ 1048576)
some_walk delta_call words walk loads stands = ∥∥₁_elim stands (hlevel props) (λ (shape, known, earlier, a, long, is).
    let many = (is_inside shape known earlier delta_call a is (length words) long).1 in
    let stood : StandsAtStage shape known earlier delta_call a (Walking walk) = subst (StandsAtStage shape known earlier delta_call a) loads is.stands in
    let inside : spot_of known.reference walk < shape.size = spot_inside shape delta_call.version known (ListsTaken known delta_call) (taken_along known delta_call) a words is.segment is.turns
    walk stood.1 (subst (λ (h : ℕ). h + 15 ≤ shape.size) (sym is.reference) is.within) in
    (subst (λ (p : ℕ × ℕ). spot_of p.0 walk < p.1) (λ i. (is.reference i, sym long i)) inside, many))

pub some_sample : (delta_call : DeltaCall) (words : List ℕ) (at : ℕ) (value : ℤ) → delta_call.stage ≡ LoadingSample at value → ∥ IsSomeDeltaCall (length words) delta_call ∥₁
    → (at + 8 ≤ length words) × (length words ≤ 1048576)
some_sample delta_call words at value loads stands = ∥∥₁_elim stands (hlevel props) (λ (shape, known, earlier, a, long, is).
    let many = (is_inside shape known earlier delta_call a is (length words) long).1 in
    let stood : StandsAtStage shape known earlier delta_call a (LoadingSample at value) = subst (StandsAtStage shape known earlier delta_call a) loads is.stands in
    let within = stood.1.1 in (omega (arith, within, long), many))

pub some_raising : (delta_call : DeltaCall) (words : List ℕ) (at : ℕ) (value : ℤ) (count : ℕ) → delta_call.stage ≡ RaisingSample at value count
    → ∥ IsSomeDeltaCall (length words) delta_call ∥₁ → (at + 8 ≤ length words) × (length words ≤ 1048576) × (vec_len delta_call.counts < vec_capacity delta_call.counts)
some_raising delta_call words at value count raises stands = ∥∥₁_elim stands (hlevel props) (λ (shape, known, earlier, a, long, is).
    let many = (is_inside shape known earlier delta_call a is (length words) long).1 in
    let stood : StandsAtStage shape known earlier delta_call a (RaisingSample at value count) = subst (StandsAtStage shape known earlier delta_call a) raises is.stands in
    let within = stood.1.met.1 in
    let passed = few_passed shape delta_call.version known (ListsTaken known delta_call) (taken_along known delta_call) a words is.segment is.turns at stood.1.met.0 in
    let listed = stood.1.met.0.lists.few in let enough = stood.2 in let ok = delta_call.counts.ok.0 in
    (omega (arith, within, long), many, omega (arith, passed, listed, enough, ok)))
