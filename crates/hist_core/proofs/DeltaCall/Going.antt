-- A delta performs one event of its actor.
use Rattle.segment_invariant.proofs.Prelude.Std.{◌≡◌, ℕ, ◌+◌, ◌-◌, ◌≤◌, true, true≢false, List, length, refl, sym, ap, ◌∙◌, subst, arith, None, vec_capacity, props, ∥∥₁_elim, Contains, [], ◌++◌, append-nil}
use Rattle.segment_invariant.proofs.Prelude.Machine.{boundaries_of, buckets_of, spec_fault, Spec, Dimensions, word_at, Actor, Known, Taken, Buckets, has_buckets, is_opener, known_at, units_listed, MayTurn, sight, Event, spot, next, Ready, Learned, taking_event, load_count, raise_mark, raise_single_mark, load_sum, swap_sum_mark, load_redundant, Sighting}
use Rattle.bucket_ranges.specs.Ranges.{SplitsValues}
use Rattle.bucket_ranges.specs.declared.spec.Spec.TheVariants as spec
use Rattle.bucket_ranges.proofs.Ascent.{boundaries_of-split}
use Rattle.segment_invariant.proofs.Packing.OffForms.{few_buckets}
use Rattle.segment_machine.specs.Event.{after}
use Rattle.segment_machine.specs.Taking.{TakingEvent, Takes}
use Rattle.segment_promises.proofs.Growing.{grows_not}
use Rattle.segment_promises.specs.Calls.{AreUnits, SeesMore}
use Rattle.hist_core.proofs.Parts.Alone.{by_event}
use Rattle.hist_core.specs.declared.delta_call.DeltaStage.{DeltaStage}
use Rattle.hist_core.specs.declared.delta_call.DeltaCall.{DeltaCall}
use Rattle.hist_core.specs.StepsBy.{StepsBy, LiesWithin}
use Rattle.hist_core.specs.DeltaCall.{IsSomeDeltaCall, IsDeltaCall, IsUnderWay, StandsAtStage, FrameOfDelta}

-- ---- what stays unchanged

pub delta_beside : (a b : Actor) → b.role ≡ a.role → b.segment ≡ a.segment → b.units ≡ a.units → b.entries ≡ a.entries → b.answers.names ≡ a.answers.names
    → b.deltas.snapshots ≡ a.deltas.snapshots → b.deltas.first_taken ≡ a.deltas.first_taken → b.seen.chain ≡ a.seen.chain
    → (more : List Sighting) × (b.seen.words ≡ a.seen.words ++ more) → b.done ≡ a.done → FrameOfDelta a b
delta_beside a b role segment units entries names snapshots first chain words done = record {
  role = role;
  segment = segment;
  units = units;
  entries = entries;
  names = names;
  snapshots = snapshots;
  first = first;
  chain = ([], chain ∙ sym (append-nil a.seen.chain));
  words = words;
  done = done;
}

pub taking_aside : (a : Actor) (e : TakingEvent) (found : ℕ) → FrameOfDelta a (next a (taking_event e) found)
taking_aside a e found = by e
  where
    by : (e : TakingEvent) → FrameOfDelta a (next a (taking_event e) found)
    by (load_count at) = delta_beside a (next a (taking_event (load_count at)) found) refl refl refl refl refl refl refl refl (grows_not a.seen.words) refl
    by (raise_mark at least) = delta_beside a (next a (taking_event (raise_mark at least)) found) refl refl refl refl refl refl refl refl (grows_not a.seen.words) refl
    by (raise_single_mark histogram least) = delta_beside a (next a (taking_event (raise_single_mark histogram least)) found) refl refl refl refl refl refl refl refl (grows_not a.seen.words) refl
    by (load_sum histogram) = delta_beside a (next a (taking_event (load_sum histogram)) found) refl refl refl refl refl refl refl refl (grows_not a.seen.words) refl
    by (swap_sum_mark histogram sum) = delta_beside a (next a (taking_event (swap_sum_mark histogram sum)) found) refl refl refl refl refl refl refl refl (grows_not a.seen.words) refl
    by (load_redundant histogram) = delta_beside a (next a (taking_event (load_redundant histogram)) found) refl refl refl refl refl refl refl refl (grows_not a.seen.words) refl

pub taking_sees : (a : Actor) (e : TakingEvent) (found : ℕ) → SeesMore a (next a (taking_event e) found)
taking_sees a (load_count at) found = record { segment = refl; since = refl; singles = grows_not a.seen.singles; counts = (sight at found, refl); words = grows_not a.seen.words }
taking_sees a (raise_mark at least) found = record { segment = refl; since = refl; singles = grows_not a.seen.singles; counts = (_, refl); words = grows_not a.seen.words }
taking_sees a (raise_single_mark histogram least) found = record { segment = refl; since = refl; singles = grows_not a.seen.singles; counts = (_, refl); words = grows_not a.seen.words }
taking_sees a (load_sum histogram) found = record { segment = refl; since = refl; singles = grows_not a.seen.singles; counts = grows_not a.seen.counts; words = grows_not a.seen.words }
taking_sees a (swap_sum_mark histogram sum) found = record { segment = refl; since = refl; singles = grows_not a.seen.singles; counts = grows_not a.seen.counts; words = grows_not a.seen.words }
taking_sees a (load_redundant histogram) found = record { segment = refl; since = refl; singles = grows_not a.seen.singles; counts = (_, refl); words = grows_not a.seen.words }

-- ---- a step

-- another that lists the same is under way as well
pub same_way : (known : Known) (earlier : List Taken) (old new : DeltaCall) (a : Actor) → new.counts ≡ old.counts → IsUnderWay known earlier old a
    → IsUnderWay known earlier new a
same_way known earlier old new a same way = record {
  taking = way.taking;
  last = way.last;
  taken = way.taken;
  name = way.name;
  counts = λ key. ap (λ l. units_listed l.items key) same ∙ way.counts key;
  sum = way.sum;
}

-- it takes a delta of the same histogram, with as much room
pub record IsSame (old new : DeltaCall) : Type 0 where
  pub version : new.version ≡ old.version
  pub histogram : new.histogram ≡ old.histogram
  pub ranges : new.ranges ≡ old.ranges
  pub room : vec_capacity new.counts ≡ vec_capacity old.counts

module _ (shape : Dimensions) (known : Known) (earlier : List Taken) (delta_call : DeltaCall) (a : Actor) (is : IsDeltaCall shape known earlier delta_call a) where
  -- its record lies in the words
  pub is_inside : (n : ℕ) → n ≡ shape.size → (delta_call.histogram + 15 ≤ n) × (n ≤ 1048576)
  is_inside n long =
      let within = is.within in let many = is.lawful_shape.many in (omega (arith, long, within), omega (arith, long, many))

  module _ (bucketed : has_buckets known.spec ≡ true) where
    pub knows_it : Buckets a known.reference known
    knows_it = (is.knows, refl, bucketed)

    pub split : SplitsValues (buckets_of known.spec) (boundaries_of known.spec)
    split = boundaries_of-split known.spec is.lawful (λ sparse. true≢false (sym bucketed ∙ ap has_buckets sparse))

    pub buckets_are : length delta_call.ranges - 1 ≡ buckets_of known.spec
    buckets_are = let count = split.count in let long = ap length is.ranges in omega (arith, count, long)

    pub long_ranges : length delta_call.ranges ≡ buckets_of known.spec + 1
    long_ranges = let count = split.count in let long = ap length is.ranges in omega (arith, count, long)

  -- it takes the histogram
  pub takes_it : IsUnderWay known earlier delta_call a → Takes a known.reference known
  takes_it way = (way.taking, is.knows, refl, (earlier, way.last, way.taken, way.name))

  -- it continues at another stage, and may have taken more
  pub goes_still : (new : DeltaCall) (b : Actor) → IsSame delta_call new → FrameOfDelta a b → MayTurn b → AreUnits new.counts.items
      → StandsAtStage shape known earlier new b new.stage → IsDeltaCall shape known earlier new b
  goes_still new b same aside turns units stands = record {
    segment = ap (λ s. s.shape) aside.segment ∙ is.segment;
    version = ap (λ s. s.version) aside.segment ∙ (is.version ∙ sym same.version);
    lawful_shape = is.lawful_shape;
    recorder = ap is_opener aside.role ∙ is.recorder;
    counts_nothing = ap (λ e. e.running) aside.entries ∙ is.counts_nothing;
    turns = turns;
    reference = is.reference ∙ sym same.histogram;
    within = subst (λ (h : ℕ). h + 15 ≤ shape.size) (sym same.histogram) is.within;
    lawful = is.lawful;
    ranges = same.ranges ∙ is.ranges;
    knows = subst (λ (l : List Known). Contains l known) (sym aside.names) is.knows;
    alone = ap (λ (l : List Known). known_at l known.reference) aside.names ∙ is.alone;
    units = units;
    stands = stands;
  }

  -- by an event that it may do
  module _ (words new_words : List ℕ) (e : TakingEvent) (new : DeltaCall) (same : IsSame delta_call new) where
    abbrev event : Event
    event = taking_event e

    abbrev found : ℕ
    found = word_at words (spot shape.size event)

    abbrev acted : Actor
    acted = next a event found

    pub acts_on : Ready a event → new_words ≡ after shape.size delta_call.version event words → MayTurn acted → AreUnits new.counts.items
        → (Learned a event found → StandsAtStage shape known earlier new acted new.stage)
        → StepsBy shape.size delta_call.version a words new_words (λ b. FrameOfDelta a b × IsDeltaCall shape known earlier new b)
    acts_on ready are turns units stands = by_event event ready
        are
        (λ learned apart ordered. (taking_aside a e found, goes_still new acted same (taking_aside a e found) turns units (stands learned)))

-- the boundaries of a valid spec are few
few_of : (s : Spec) → spec_fault s ≡ None → has_buckets s ≡ true → length (boundaries_of s) ≤ 1001
few_of s lawful bucketed =
    let count = (boundaries_of-split s lawful (λ sparse. true≢false (sym bucketed ∙ ap has_buckets sparse))).count in
    let few = few_buckets s lawful in omega (arith, count, few)

few_boundaries : (s : Spec) → spec_fault s ≡ None → length (boundaries_of s) ≤ 1001
few_boundaries spec.Sparse lawful = omega arith
few_boundaries (spec.Linear min max n) lawful = few_of (spec.Linear min max n) lawful refl
few_boundaries spec.Boolean lawful = few_of spec.Boolean lawful refl
few_boundaries (spec.Custom values) lawful = few_of (spec.Custom values) lawful refl

-- the record of a delta that some actor runs lies within the words, which are at most 2^20
pub lies_within : (delta_call : DeltaCall) (words : List ℕ) → ∥ IsSomeDeltaCall (length words) delta_call ∥₁ → LiesWithin (length words) delta_call.histogram
lies_within delta_call words stands = ∥∥₁_elim stands (hlevel props) (λ (shape, known, earlier, a, long, is).
    let inside = is_inside shape known earlier delta_call a is (length words) long in record { within = inside.0; few = inside.1 })

-- and it has few ranges
pub some_ranges : (delta_call : DeltaCall) (n : ℕ) → ∥ IsSomeDeltaCall n delta_call ∥₁ → length delta_call.ranges ≤ 1001
some_ranges delta_call n stands = ∥∥₁_elim stands (hlevel props) (λ (shape, known, earlier, a, long, is).
    let ranges = ap length is.ranges in let some = few_boundaries known.spec is.lawful in omega (arith, ranges, some))

-- it continues at another stage, with what it listed or with more
pub same_still : (old : DeltaCall) (stage : DeltaStage) (new : DeltaCall) → new ≡ record old { stage = stage } → IsSame old new
same_still old stage new same = record {
  version = ap (λ (t : DeltaCall). t.version) same;
  histogram = ap (λ (t : DeltaCall). t.histogram) same;
  ranges = ap (λ (t : DeltaCall). t.ranges) same;
  room = ap (λ (t : DeltaCall). vec_capacity t.counts) same;
}

pub same_taken : (old : DeltaCall) (stage : DeltaStage) (new : DeltaCall) → new ≡ record old { stage = stage; counts = new.counts } → vec_capacity new.counts ≡ vec_capacity old.counts
    → IsSame old new
same_taken old stage new same room = record {
  version = ap (λ (t : DeltaCall). t.version) same;
  histogram = ap (λ (t : DeltaCall). t.histogram) same;
  ranges = ap (λ (t : DeltaCall). t.ranges) same;
  room = room;
}
