-- A snapshot of a sparse histogram, event by event.
use Rattle.segment_invariant.proofs.Prelude.Std.{◌≡◌, ◌≢◌, ℕ, ◌+◌, ◌-◌, ◌/◌, ◌<◌, ◌≤◌, ◌==◌, ℤ, Bool, true, false, true≢false, map, if◌then◌else◌, List, [], ◌∷◌, ◌++◌, length, inl, inr, refl, sym, ap, subst, ◌∙◌, arith, eqb-true, eq-eqb, Option, Some, None, vec_capacity, vec_len, Contains, props, ∥∥₁_elim, append-nil, map-append, Contains-push, set-get_or}
use Rattle.segment_invariant.proofs.Prelude.Machine.{Dimensions, word_at, Actor, Known, Place, SawCount, is_bound, sight, Event, Learned, next, taking_event, noted, load_count}
use Rattle.segment_machine.specs.declared.place.Place.TheVariants as place
use Rattle.segment_machine.specs.Actor.{Sparse}
use Rattle.segment_machine.specs.Note.{looks}
use Rattle.segment_machine.specs.Taking.{at_count, is_looking}
use Rattle.segment_promises.specs.Values.{ListsValues, listed_of}
use Rattle.segment_promises.proofs.Growing.{grows_not}
use Rattle.segment_promises.proofs.ListedValues.{lists_on, lists_one, lists_still}
use Rattle.segment_promises.proofs.ValueWalks.{behind_it, split_at_it}
use Rattle.segment_promises.proofs.Calls.SampleLists.{not_before}
use Rattle.segment_promises.specs.Calls.{SeesMore}
use Rattle.segment_promises.proofs.Calls.Sights.{seen_here}
use Rattle.hist_core.proofs.Parts.Alone.{by_event, seen_alike, frame_of}
use Rattle.hist_core.specs.declared.snapshot_call.SnapshotCall.{SnapshotCall}
use Rattle.hist_core.specs.declared.snapshot_call.SnapshotCallStep.TheVariants.{More}
use Rattle.hist_core.specs.declared.snapshot_call.SnapshotStage.{SnapshotStage}
use Rattle.hist_core.specs.declared.snapshot_call.SnapshotStage.TheVariants.{Walking, LoadingSample}
use Rattle.hist_core.specs.StepsBy.{FrameOfStep, StepsBy, IsInOrder, WalksInOrder}
use Rattle.hist_core.specs.declared.walk.Met.{Met}
use Rattle.hist_core.specs.declared.walk.Met.TheVariants.{Nothing, Sample, End}
use Rattle.hist_core.specs.declared.walk.SampleWalk.{SampleWalk}
use Rattle.hist_core.specs.declared.walk.SampleWalk.TheVariants.{LoadingFirst, LoadingType, LoadingHistogram, LoadingValue, LoadingNext}
use Rattle.hist_core.specs.SnapshotCall.{HasListed, HasRoomForValues, HasSeenValues, HasTotal, IsBehindWalk, IsValueListed, IsSnapshotCall, IsSomeSnapshotCall, ListsSeen, LooksAnew, SnapshotCallGives, StandsAtStage}
use Rattle.hist_core.specs.Walk.{HasComeTo, HasSetOut, IsSampleWalkProgress, Meets, MetSample, WalksAt, spot_of}
use Rattle.hist_core.proofs.Parts.Allocations.{goes_with}
use Rattle.hist_core.proofs.AddCall.GhostNotes.{goes_after}
use Rattle.hist_core.proofs.Walks.Walking.{GoesAlong, began_before, few_passed, spot_inside, there, walks_so}
use Rattle.hist_core.proofs.Worlds.Quiet.{not_spent}
use Rattle.hist_core.proofs.Walks.Passing.{listed_still, seen_still, total_still, values_still, way_still}
use Rattle.hist_core.proofs.SnapshotCall.Snapshots.{goes_still, is_inside}

-- where an actor is that has loaded the count of a sample
at_sample : (p : Place) (at found : ℕ) → is_looking p ≡ false → (is_looking (at_count p at found) ≡ false) × (is_bound (at_count p at found) ≡ false)
at_sample (place.Looking look) at found apart = absurd (cc apart)
at_sample (place.CountLoaded look bucket count) at found apart = absurd (cc apart)
at_sample p at found apart = (refl, refl)

-- what it lists goes along with a walk
pub lists_along : (known : Known) (snapshot_call : SnapshotCall) → GoesAlong known (ListsSeen known snapshot_call)
lists_along known snapshot_call = record {
  still = λ a b sees began passed lists. seen_still known a b sees began passed snapshot_call.totals.items lists;
  others = λ a passed at none lists.
      lists_on (HasListed snapshot_call.totals.items a) (HasTotal a) known.reference a.seen passed snapshot_call.totals.items lists at (inr none);
}

module _ (shape : Dimensions) (known : Known) (snapshot_call : SnapshotCall) (a : Actor) (words : List ℕ) (is : IsSnapshotCall shape known snapshot_call a) where
  -- ---- a walk

  -- it continues from what its walk found
  stands_behind : (met : Met) (new : SnapshotCall) (b : Actor) → HasRoomForValues shape snapshot_call → IsBehindWalk snapshot_call met new → HasComeTo shape known (ListsSeen known snapshot_call) met b
      → (new.version ≡ snapshot_call.version) × (new.histogram ≡ snapshot_call.histogram) × StandsAtStage shape known new b new.stage
  stands_behind (Nothing walk) new b room is_new (set_out, stands) = (
    ap (λ (l : SnapshotCall). l.version) is_new,
    ap (λ (l : SnapshotCall). l.histogram) is_new,
    subst (λ (l : SnapshotCall). StandsAtStage shape known l b l.stage) (sym is_new) (room, still_at walk stands),
  )
    where
      still_at : (walk : SampleWalk) → WalksAt shape known (ListsSeen known snapshot_call) walk b → WalksAt shape known (ListsSeen known (record snapshot_call { stage = Walking walk })) walk b
      still_at walk stands = stands
  stands_behind (Sample at value) new b room is_new stands = (
    ap (λ (l : SnapshotCall). l.version) is_new,
    ap (λ (l : SnapshotCall). l.histogram) is_new,
    subst (λ (l : SnapshotCall). StandsAtStage shape known l b l.stage) (sym is_new) (room, stands),
  )
  stands_behind End new b room (sorted, is_new) all = (
    ap (λ (l : SnapshotCall). l.version) is_new,
    ap (λ (l : SnapshotCall). l.histogram) is_new,
    subst (StandsAtStage shape known new b) (sym (ap (λ (l : SnapshotCall). l.stage) is_new)) (
      inr (record { passed = all.passed; listed = snapshot_call.totals.items; way = all.way; lists = all.lists; sorted = sorted }),
      all.way.began,
    ),
  )

  module _ (met : Met) (new : SnapshotCall) (behind : IsBehindWalk snapshot_call met new) where
    -- after its first event
    further : (walk : SampleWalk) → ((b : Actor) → b.since ≡ a.since → LooksAnew (Walking walk) a b) → StandsAtStage shape known snapshot_call a (Walking walk) → HasSetOut walk → Meets walk known.reference (word_at words (spot_of known.reference walk)) met
        → StepsBy shape.size snapshot_call.version a words words (SnapshotCallGives shape known (Walking walk) new More a)
    further walk anew stands set_out meets =
        goes_with (walks_so shape snapshot_call.version known (ListsSeen known snapshot_call) (lists_along known snapshot_call) a words is.segment is.turns walk stands.1
        (began_before shape known (ListsSeen known snapshot_call) walk a set_out stands.1) met meets) (λ b (beside, since, done, turns, comes).
        let then_is = stands_behind met new b stands.0 behind comes in
        (beside, done, anew b since, goes_still shape known snapshot_call a words is new b then_is.0 then_is.1 beside turns then_is.2))

    -- with its first event it begins to look
    sets_out : StandsAtStage shape known snapshot_call a (Walking LoadingFirst) → Meets LoadingFirst known.reference (word_at words (known.reference + 3)) met
        → StepsBy shape.size snapshot_call.version a words words (SnapshotCallGives shape known (Walking LoadingFirst) new More a)
    sets_out stands meets =
        goes_after looks (λ e. true≢false (sym (ap is_bound e) ∙ is.turns), is.recorder, is.counts_nothing, is.takes_nothing)
        (goes_with (walks_so shape snapshot_call.version known (ListsSeen known snapshot_call) (lists_along known snapshot_call) (noted a looks) words is.segment is.turns LoadingFirst
        (record { sparse = stands.1.0.sparse; apart = stands.1.0.apart; met = stands.1.0.met }, stands.1.1)
        (record { singles = omega arith; counts = omega arith }) met meets) (λ b (beside, since, done, turns, comes).
        let then_is = stands_behind met new b stands.0 behind comes in
        let aside = frame_of a b beside.role beside.segment beside.units beside.entries beside.deltas beside.names beside.chain beside.words in
        (aside, done, since, goes_still shape known snapshot_call a words is new b then_is.0 then_is.1 aside turns then_is.2)))

    pub walks_further : (walk : SampleWalk) → snapshot_call.stage ≡ Walking walk → Meets walk snapshot_call.histogram (word_at words (spot_of snapshot_call.histogram walk)) met
        → StepsBy shape.size snapshot_call.version a words words (SnapshotCallGives shape known snapshot_call.stage new More a)
    walks_further walk loads meets = subst (λ (stage : SnapshotStage). StepsBy shape.size snapshot_call.version a words words (SnapshotCallGives shape known stage new More a)) (sym loads)
        (by walk (subst (StandsAtStage shape known snapshot_call a) loads is.stands)
        (subst (λ (h : ℕ). Meets walk h (word_at words (spot_of h walk)) met) (sym is.reference) meets))
      where
        by : (walk : SampleWalk) → StandsAtStage shape known snapshot_call a (Walking walk) → Meets walk known.reference (word_at words (spot_of known.reference walk)) met
            → StepsBy shape.size snapshot_call.version a words words (SnapshotCallGives shape known (Walking walk) new More a)
        by LoadingFirst stands meets = sets_out stands meets
        by (LoadingType at) stands meets = further (LoadingType at) (λ b since. since) stands tt meets
        by (LoadingHistogram at) stands meets = further (LoadingHistogram at) (λ b since. since) stands tt meets
        by (LoadingValue at of) stands meets = further (LoadingValue at of) (λ b since. since) stands tt meets
        by (LoadingNext at) stands meets = further (LoadingNext at) (λ b since. since) stands tt meets

  -- its count
  module _ (at : ℕ) (value : ℤ) (loads : snapshot_call.stage ≡ LoadingSample at value) where
    stands : StandsAtStage shape known snapshot_call a (LoadingSample at value)
    stands = subst (StandsAtStage shape known snapshot_call a) loads is.stands

    abbrev met_count : MetSample shape known (ListsSeen known snapshot_call) at value a
    met_count = stands.1

    abbrev its_passed : List ℕ
    its_passed = met_count.0.passed

    abbrev its_way : IsSampleWalkProgress known its_passed at a
    its_way = met_count.0.way

    met_there : Contains a.seen.chain at
    met_there = there shape snapshot_call.version known (ListsSeen known snapshot_call) (lists_along known snapshot_call) a words is.segment is.turns at met_count.0

    abbrev count : ℕ
    count = word_at words (at + 6)

    abbrev loading : Event
    loading = taking_event (load_count (at + 6))

    abbrev counted : Actor
    counted = next a loading count

    counted_sees : SeesMore a counted
    counted_sees = record {
      segment = refl;
      since = refl;
      singles = grows_not a.seen.singles;
      counts = (sight (at + 6) count, refl);
      words = grows_not a.seen.words;
    }

    counted_beside : FrameOfStep a counted
    counted_beside = seen_alike a counted refl refl refl refl refl refl refl refl

    saw_it : SawCount counted (at + 6) count
    saw_it = seen_here a.since.counts a.seen.counts (at + 6) count its_way.began.counts

    sparse_there : Sparse a known.reference known
    sparse_there = (is.knows, refl, its_way.sparse)

    abbrev longer : Option (ℤ × ℕ) → List (ℤ × ℕ)
    longer one = snapshot_call.totals.items ++ listed_of one

    -- what it listed before is still listed, now that it lists this too
    lists_before : (one : Option (ℤ × ℕ)) → ListsValues (HasListed (longer one) counted) (HasTotal counted) known.reference its_passed snapshot_call.totals.items counted.seen
    lists_before one = lists_still a.seen counted.seen counted_sees.words known.reference (HasListed snapshot_call.totals.items a) (HasListed (longer one) counted)
        (listed_still known a counted counted_sees its_passed at its_way snapshot_call.totals.items (listed_of one)) (HasTotal a) (HasTotal counted)
        (total_still known a counted counted_sees its_passed at its_way) its_passed snapshot_call.totals.items met_count.0.lists

    module _ (order : IsInOrder a) (learned : Learned a loading count) where
      lists_then : (none : Bool) → (count == 0) ≡ none
          → HasSeenValues known (its_passed ++ at ∷ []) (longer (if none then None else Some (value, count))) counted
      lists_then true e =
          subst (λ (l : List (ℤ × ℕ)). HasSeenValues known (its_passed ++ at ∷ []) l counted) (sym (append-nil snapshot_call.totals.items))
          (lists_on (HasListed snapshot_call.totals.items counted) (HasTotal counted) known.reference counted.seen its_passed snapshot_call.totals.items
          (values_still known a counted counted_sees its_passed at its_way its_passed snapshot_call.totals.items met_count.0.lists) at
          (inl (value, met_count.2, (count, saw_it, inl (eqb-true count 0 e)))))
      lists_then false e =
          let some : count ≢ 0 = λ none. true≢false (sym (eq-eqb count 0 none) ∙ e) in
          lists_one (HasListed (longer (Some (value, count))) counted) (HasTotal counted) known.reference counted.seen its_passed snapshot_call.totals.items
          (lists_before (Some (value, count))) at value count met_count.2 (
            count,
            saw_it,
            inr (subst (λ (l : List ℤ). Contains l value) (sym (map-append (λ (c : ℤ × ℕ). c.0) snapshot_call.totals.items ((value, count) ∷ [])))
                (Contains-push (map (λ (c : ℤ × ℕ). c.0) snapshot_call.totals.items) value)),
          )
          (saw_it, omega (arith, some))
          (not_before known a its_way.comes.front its_passed (behind_it a known.reference its_passed at its_way.comes met_count.0.record_there).0 at sparse_there
          (split_at_it a known.reference its_passed at its_way.comes met_count.0.record_there) order.once (HasListed snapshot_call.totals.items a) met_count.0.lists.passes value
          met_count.2 (λ later. some (learned.1 at refl later)))

    pub loads_sample : (new : SnapshotCall) → IsValueListed value count (record snapshot_call { stage = Walking (LoadingNext at) }) new → WalksInOrder a
        → StepsBy shape.size snapshot_call.version a words words (SnapshotCallGives shape known snapshot_call.stage new More a)
    loads_sample new listed order = by_event loading (inr (known, at, value, sparse_there, met_there, met_count.2, refl, is.turns, its_way.apart))
        (sym (set-get_or words (at + 6) 0))
        (λ learned apart ordered. (
          counted_beside,
          refl,
          subst (λ (stage : SnapshotStage). LooksAnew stage a counted) (sym loads) refl,
          goes_still shape known snapshot_call a words is new counted (ap (λ (l : SnapshotCall). l.version) listed.same) (ap (λ (l : SnapshotCall). l.histogram) listed.same) counted_beside
              (at_sample a.hand.place (at + 6) count its_way.apart).1
              (subst (StandsAtStage shape known new counted) (sym (ap (λ (l : SnapshotCall). l.stage) listed.same)) (
                subst (λ (n : ℕ). (shape.size - 16) / 5 ≤ n) (sym listed.room) stands.0,
                record {
                  passed = its_passed;
                  way = way_still known a counted counted_sees its_passed at refl (at_sample a.hand.place (at + 6) count its_way.apart).0 its_way;
                  record_there = met_count.0.record_there;
                  lists = subst (λ (l : List (ℤ × ℕ)). HasSeenValues known (its_passed ++ at ∷ []) l counted) (sym listed.items) (lists_then (order (not_spent a.hand.place is.turns)) learned (count == 0) refl);
                },
              )),
        ))

-- ---- words that are loaded lie within the words

pub some_walk : (snapshot_call : SnapshotCall) (words : List ℕ) (walk : SampleWalk) → snapshot_call.stage ≡ Walking walk → ∥ IsSomeSnapshotCall (length words) snapshot_call ∥₁
    → (spot_of snapshot_call.histogram walk < length words) × (length words ≤ 1048576)
some_walk snapshot_call words walk loads stands = ∥∥₁_elim stands (hlevel props) (λ (shape, known, a, long, is).
    let many = (is_inside shape known snapshot_call a words is (length words) long).1 in
    let stood : StandsAtStage shape known snapshot_call a (Walking walk) = subst (StandsAtStage shape known snapshot_call a) loads is.stands in
    let inside : spot_of known.reference walk < shape.size = spot_inside shape snapshot_call.version known (ListsSeen known snapshot_call) (lists_along known snapshot_call) a words is.segment is.turns
    walk stood.1 (subst (λ (h : ℕ). h + 15 ≤ shape.size) (sym is.reference) is.within) in
    (subst (λ (p : ℕ × ℕ). spot_of p.0 walk < p.1) (λ i. (is.reference i, sym long i)) inside, many))

pub some_sample : (snapshot_call : SnapshotCall) (words : List ℕ) (at : ℕ) (value : ℤ) → snapshot_call.stage ≡ LoadingSample at value → ∥ IsSomeSnapshotCall (length words) snapshot_call ∥₁
    → (at + 8 ≤ length words) × (length words ≤ 1048576) × (vec_len snapshot_call.totals < vec_capacity snapshot_call.totals)
some_sample snapshot_call words at value loads stands = ∥∥₁_elim stands (hlevel props) (λ (shape, known, a, long, is).
    let many = (is_inside shape known snapshot_call a words is (length words) long).1 in
    let stood : StandsAtStage shape known snapshot_call a (LoadingSample at value) = subst (StandsAtStage shape known snapshot_call a) loads is.stands in
    let within = stood.1.1 in
    let passed = few_passed shape snapshot_call.version known (ListsSeen known snapshot_call) (lists_along known snapshot_call) a words is.segment is.turns at stood.1.0 in
    let listed = stood.1.0.lists.few in let enough = stood.0 in let ok = snapshot_call.totals.ok.0 in
    (omega (arith, within, long), many, omega (arith, passed, listed, enough, ok)))
