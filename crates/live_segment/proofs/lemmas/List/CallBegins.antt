-- A delta or a snapshot of a sparse histogram begins, and has gone through all samples.
use Rattle.std.proofs.Common.{◌≡◌, ℕ, ◌<◌, ◌≤◌, ◌^◌, false, true, true≢false, ℤ, List, [], ◌∷◌, ◌++◌, length, length-append, refl, sym, subst, ap, ◌∙◌, arith}
use Rattle.std.specs.List.{Contains}
use Rattle.std.proofs.lemmas.List.Elements.{Contains-append_right}
use Rattle.bucket_ranges.specs.declared.spec.Spec.TheVariants as spec
use Rattle.segment_image.specs.Shape.{Dimensions}
use Rattle.segment_machine.specs.declared.actor.Actor.{Actor}
use Rattle.segment_machine.specs.declared.actor.Known.{Known}
use Rattle.segment_machine.specs.declared.actor.Deltas.{Deltas}
use Rattle.segment_machine.specs.Actor.{is_bound, is_opener, known_at, looking}
use Rattle.segment_machine.specs.Event.{Event, Ready, next, walking_event}
use Rattle.segment_machine.specs.Note.{looks, noted, nothing_taken, takes}
use Rattle.segment_machine.specs.Taking.{Takes}
use Rattle.segment_machine.specs.Walking.{load_next, load_published}
use Rattle.segment_invariant.proofs.Lists.Maps.{contains_map}
use Rattle.segment_promises.specs.Onward.{SeesOn, is_holding}
use Rattle.segment_promises.specs.Values.{ComesTo}
use Rattle.segment_promises.proofs.Calls.Places.{behind_apart, behind_free}
use Rattle.segment_promises.proofs.Calls.SampleLists.{all_passed}
use Rattle.segment_promises.proofs.Calls.Sights.{long_still}
use Rattle.segment_promises.proofs.ValueWalks.{comes_first, stands_there}
use Rattle.live_segment.specs.declared.recorder.KnownHistogram.{KnownHistogram}
use Rattle.live_segment.specs.declared.segment.Segment.{Segment}
use Rattle.live_segment.specs.Known.{KnowsRight, known_view}
use Rattle.live_segment.specs.List.IndexedValues.{AreOwn, HasListedValues, ListsIndexed, ListsThrough}
use Rattle.live_segment.specs.List.Values.{Goes, ListsAlong, ListsOn, SampleCall}
use Rattle.live_segment.specs.List.Values.SampleCall.{OfDelta, OfSnapshot}
use Rattle.live_segment.specs.Ready.{IsReadyFor, LooksAtValues}
use Rattle.live_segment.specs.Rule.{IsOf}
use Rattle.live_segment.specs.Steps.{IsSame, Pass}
use Rattle.live_segment.specs.Steps.GhostNotes.{MayDo, Noted}
use Rattle.live_segment.specs.Steps.Taking.{HasBegunDelta, MayBeginDelta}
use Rattle.live_segment.proofs.lemmas.Add.Beginning.{known_there}
use Rattle.live_segment.proofs.lemmas.Delta.DeltaEnds.{takes_some}
use Rattle.live_segment.proofs.lemmas.Hist.Knowing.{right_on}
use Rattle.live_segment.proofs.lemmas.List.OwnSamples.{few_own, own_each, passed_still}
use Rattle.live_segment.proofs.lemmas.List.SampleCalls.{looks_of, on_view}
use Rattle.live_segment.proofs.lemmas.List.Sharing.{same_on}
use Rattle.live_segment.proofs.lemmas.Steps.Proceeding.{sees_next, sees_on, sees_words}

-- ---- it may begin

module _ {segment : Segment} {histogram : KnownHistogram} {first : Pass} (ready : IsReadyFor segment histogram first) where
  abbrev known : Known
  known = known_view histogram

  -- the histogram's record was visited
  pub was_met : Contains first.me.0.seen.chain histogram.reference
  was_met =
      let (front, behind, split) = stands_there first.me.0.seen.chain histogram.reference ready.right.met in
      subst (λ (l : List ℕ). Contains l histogram.reference) (sym split)
      (Contains-append_right front (histogram.reference ∷ behind) histogram.reference (0, omega arith, refl))

  pub has_known : Contains first.me.0.answers.names known
  has_known = (known_there first.me.0.answers.names histogram.reference known ready.right.alone).0

  pub may_take : (event : ℕ → Event) → Ready (noted first.me.0 (takes known.name)) (event known.reference) → MayBeginDelta first known.reference event
  may_take event is = (
    known,
    (refl, ready.right.alone),
    record {
      recorder = ready.rests.recorder;
      may = (
        (
          λ e. true≢false (sym (ap is_bound e) ∙ ready.rests.free),
          ready.rests.recorder,
          ready.rests.runs,
          ready.rests.takes,
          contains_map (λ (k : Known). k.name) first.me.0.answers.names known has_known,
        ),
        refl,
      );
      ready = is;
      goes = λ found learned. refl;
    },
  )

  pub may_look : (event : Event) → Ready (looking first.me.0) event → MayDo first (looks ∷ []) event []
  may_look event is = record {
    recorder = ready.rests.recorder;
    may = ((λ e. true≢false (sym (ap is_bound e) ∙ ready.rests.free), ready.rests.recorder, ready.rests.runs, ready.rests.takes), refl);
    ready = is;
    goes = λ found learned. refl;
  }

-- ---- it has begun

-- what it is once it has looked again, is at another place, and has seen more
abbrev Anew : Actor → Actor → Type 0
Anew a b = b ≡ record (looking a) { hand = record a.hand { place = b.hand.place }; deltas = b.deltas; seen = b.seen }

-- a call has begun on a histogram, and lists nothing yet
pub record HasBegun (call : SampleCall) (segment : Segment) (histogram : KnownHistogram) (first one : Pass) : Type 0 where
  pub same : IsSame first one
  pub goes : Goes call segment (known_view histogram) one
  pub gone : HasListedValues call (known_view histogram) [] first.me.0 one.me.0
  pub right : KnowsRight segment.setting one.me.0 histogram

module _ {segment : Segment} {histogram : KnownHistogram} {first one : Pass} (ready : IsReadyFor segment histogram first) (sparse : histogram.spec ≡ spec.Sparse)
    (same : IsSame first one) (at : Actor) (is : one.me.0 ≡ at) (only : Anew first.me.0 at) (sees : SeesOn first.me.0.seen at.seen)
    (free : is_bound at.hand.place ≡ false) (apart : is_holding at.hand.place ≡ false) where
  view : Anew first.me.0 one.me.0
  view = subst (Anew first.me.0) (sym is) only

  seen : SeesOn first.me.0.seen one.me.0.seen
  seen = subst (λ (a : Actor). SeesOn first.me.0.seen a.seen) (sym is) sees

  looks_one : LooksAtValues segment (known_view histogram) one
  looks_one = record {
    seated = record {
      table = same.0 ∙ ready.seated.table;
      recorder = ap (λ (a : Actor). is_opener a.role) view ∙ ready.rests.recorder;
      of = subst (IsOf segment.setting) (sym view) (record { shape = ready.seated.of.shape; version = ready.seated.of.version; cursors = ready.seated.of.cursors });
    };
    alone = ap (λ (a : Actor). known_at a.answers.names histogram.reference) view ∙ ready.right.alone;
    sparse = sparse;
    free = ap (λ (a : Actor). is_bound a.hand.place) is ∙ free;
    apart = ap (λ (a : Actor). is_holding a.hand.place) is ∙ apart;
    singles = subst (λ (n : ℕ). n ≤ length one.me.0.seen.singles) (sym (ap (λ (a : Actor). a.since.singles) view))
        (long_still (length first.me.0.seen.singles) first.me.0.seen.singles one.me.0.seen.singles (omega arith) seen.singles);
    counts = subst (λ (n : ℕ). n ≤ length one.me.0.seen.counts) (sym (ap (λ (a : Actor). a.since.counts) view))
        (long_still (length first.me.0.seen.counts) first.me.0.seen.counts one.me.0.seen.counts (omega arith) seen.counts);
  }

  right_one : KnowsRight segment.setting one.me.0 histogram
  right_one = right_on segment.setting first.me.0 one.me.0 (ap (λ (a : Actor). a.answers.names) view) seen.chain histogram ready.right

  looked : at.deltas ≡ first.me.0.deltas → HasBegun OfSnapshot segment histogram first one
  looked deltas = record {
    same = same;
    goes = looks_one;
    gone = record {
      same = view ∙ (λ i. record (looking first.me.0) {
        hand = record first.me.0.hand { place = one.me.0.hand.place };
        deltas = (ap (λ (a : Actor). a.deltas) is ∙ deltas) i;
        seen = one.me.0.seen;
      });
      free = looks_one.free;
      seen = seen;
    };
    right = right_one;
  }

  abbrev taking : Deltas
  taking = record first.me.0.deltas { taking = true; taken = first.me.0.deltas.taken ++ nothing_taken first.me.0 histogram.name.items ∷ [] }

  took : at.deltas ≡ taking → Takes at histogram.reference (known_view histogram) → HasBegun OfDelta segment histogram first one
  took deltas takes_at = record {
    same = same;
    goes = record { looks = looks_one; takes = subst (λ (a : Actor). Takes a histogram.reference (known_view histogram)) (sym is) takes_at };
    gone = record {
      view = view ∙ (λ i. record (looking first.me.0) {
        hand = record first.me.0.hand { place = one.me.0.hand.place };
        deltas = (ap (λ (a : Actor). a.deltas) is ∙ deltas) i;
        seen = one.me.0.seen;
      });
      seen = seen;
    };
    right = right_one;
  }

-- ---- by its first load

module _ {segment : Segment} {histogram : KnownHistogram} {first one : Pass} (ready : IsReadyFor segment histogram first) (sparse : histogram.spec ≡ spec.Sparse)
    {found : ℕ} where
  -- the next of the histogram's record
  pub took_next : HasBegunDelta first histogram.reference (λ at. walking_event (load_next at)) found one → HasBegun OfDelta segment histogram first one
  took_next begun = let told = begun (known_view histogram) (refl, ready.right.alone) in
      took ready sparse told.same (next (noted first.me.0 (takes histogram.name.items)) (walking_event (load_next histogram.reference)) found) told.view refl (sees_next first.me.0.seen histogram.reference found)
      (behind_free first.me.0.hand.place histogram.reference found ready.rests.free) (behind_apart first.me.0.hand.place histogram.reference found ready.rests.apart) refl
      (refl, has_known ready, refl, (first.me.0.deltas.taken, _, refl, refl))

  pub looked_next : Noted first (looks ∷ []) (walking_event (load_next histogram.reference)) [] found one → HasBegun OfSnapshot segment histogram first one
  looked_next told =
      looked ready sparse told.same (next (looking first.me.0) (walking_event (load_next histogram.reference)) found) told.view refl (sees_next first.me.0.seen histogram.reference found)
      (behind_free first.me.0.hand.place histogram.reference found ready.rests.free) (behind_apart first.me.0.hand.place histogram.reference found ready.rests.apart) refl

  -- it comes to it
  pub comes_take : HasBegunDelta first histogram.reference (λ at. walking_event (load_next at)) found one → ComesTo histogram.reference [] found one.me.0
  comes_take begun =
      let told = begun (known_view histogram) (refl, ready.right.alone) in
      let (front, behind, split) = stands_there first.me.0.seen.chain histogram.reference ready.right.met in
      comes_first (noted first.me.0 (takes histogram.name.items)) one.me.0 histogram.reference found (ap (λ (a : Actor). a.segment.shape) told.view) front behind split told.learned (ap (λ (a : Actor). a.seen.chain) told.view)

  pub comes_look : Noted first (looks ∷ []) (walking_event (load_next histogram.reference)) [] found one → ComesTo histogram.reference [] found one.me.0
  comes_look told =
      let (front, behind, split) = stands_there first.me.0.seen.chain histogram.reference ready.right.met in
      comes_first (looking first.me.0) one.me.0 histogram.reference found (ap (λ (a : Actor). a.segment.shape) told.view) front behind split told.learned
      (ap (λ (a : Actor). a.seen.chain) told.view)

  -- the type of the histogram's record: it sees no more of the list
  pub took_type : HasBegunDelta first histogram.reference (λ at. walking_event (load_published at 2)) found one → HasBegun OfDelta segment histogram first one
  took_type begun = let told = begun (known_view histogram) (refl, ready.right.alone) in
      took ready sparse told.same (next (noted first.me.0 (takes histogram.name.items)) (walking_event (load_published histogram.reference 2)) found) told.view refl (sees_words first.me.0.seen _)
      ready.rests.free ready.rests.apart refl (refl, has_known ready, refl, (first.me.0.deltas.taken, _, refl, refl))

  pub looked_type : Noted first (looks ∷ []) (walking_event (load_published histogram.reference 2)) [] found one → HasBegun OfSnapshot segment histogram first one
  looked_type told =
      looked ready sparse told.same (next (looking first.me.0) (walking_event (load_published histogram.reference 2)) found) told.view refl (sees_words first.me.0.seen _)
      ready.rests.free ready.rests.apart refl

  pub own_take : HasBegunDelta first histogram.reference (λ at. walking_event (load_published at 2)) found one → (size : ℕ) (samples : List ℕ) → AreOwn size first.me.0.seen histogram.reference samples
      → AreOwn size one.me.0.seen histogram.reference samples
  own_take begun size samples (index, has, are) =
      let told = begun (known_view histogram) (refl, ready.right.alone) in
      (index, passed_still size first.me.0.seen one.me.0.seen index (ap (λ (a : Actor). a.seen.chain) told.view) (_, ap (λ (a : Actor). a.seen.words) told.view) has, are)

  pub own_look : Noted first (looks ∷ []) (walking_event (load_published histogram.reference 2)) [] found one → (size : ℕ) (samples : List ℕ) → AreOwn size first.me.0.seen histogram.reference samples
      → AreOwn size one.me.0.seen histogram.reference samples
  own_look told size samples (index, has, are) =
      (index, passed_still size first.me.0.seen one.me.0.seen index (ap (λ (a : Actor). a.seen.chain) told.view) (_, ap (λ (a : Actor). a.seen.words) told.view) has, are)

-- ---- it has gone through all

gone_on : (call : SampleCall) (known : Known) (first one two : Actor) (listed : List (ℤ × ℕ)) → is_bound two.hand.place ≡ false → HasListedValues call known [] first one
    → ListsOn call listed one two → HasListedValues call known listed first two
gone_on OfDelta k first one two listed free gone on = takes_some k first one two listed gone on
gone_on OfSnapshot k first one two listed free gone on = record {
  same = on.view ∙ ap (λ (x : Actor). record x { hand = record x.hand { place = two.hand.place }; seen = two.seen }) gone.same;
  free = free;
  seen = sees_on first.seen one.seen two.seen gone.seen on.seen;
}

module _ {call : SampleCall} {segment : Segment} {histogram : KnownHistogram} {first one two : Pass} {listed : List (ℤ × ℕ)}
    (begun : HasBegun call segment histogram first one) where
  -- along the list
  pub through_along : {passed : List ℕ} → ListsAlong call segment (known_view histogram) passed 12 listed one two
      → ListsThrough call segment (known_view histogram) listed first two
  through_along {passed} was =
      let looks_two = looks_of call segment (known_view histogram) two was.goes in
      let fit = was.comes.few in
      let all = ap length was.comes.chain ∙ length-append was.comes.front (histogram.reference ∷ (passed ++ was.comes.behind)) in
      let more = length-append passed was.comes.behind in
      let size = ap (λ (d : Dimensions). d.size) looks_two.seated.of.shape in
      let few = was.lists.few in record {
        same = same_on first one two begun.same was.same;
        goes = was.goes;
        gone = gone_on call (known_view histogram) first.me.0 one.me.0 two.me.0 listed looks_two.free begun.gone was.on;
        all = λ stand once.
            let split = all_passed two.me.0 histogram.reference passed was.comes once in record {
              passed = passed;
              lists = record {
                passes = was.lists.passes;
                firsts = λ k d low.
                    let (sample, (front, behind, parts, others, it), has) = was.lists.firsts k d low in (
                      sample,
                      subst (λ (l : List ℕ). Contains l sample) (sym parts) (Contains-append_right front (sample ∷ behind) sample (0, omega arith, refl)),
                      (was.comes.front, passed, split, (front, behind, parts, others, it)),
                      has,
                    );
                once = was.lists.once;
                few = was.lists.few;
              };
              each = λ value sample met saw. stand histogram.reference sample value was.comes.front passed met saw split;
            };
        few = omega (arith, size, fit, all, more, few);
      }

  -- by the samples that an index has
  pub through_own : {samples : List ℕ} → histogram.reference < 2 ^ 32 → AreOwn segment.setting.shape.size one.me.0.seen histogram.reference samples
      → ListsIndexed call segment (known_view histogram) samples listed one two → ListsThrough call segment (known_view histogram) listed first two
  through_own {samples} small (index, has, are) was =
      let looks_two = looks_of call segment (known_view histogram) two was.goes in
      let has_two = passed_still segment.setting.shape.size one.me.0.seen two.me.0.seen index was.chain (on_view call listed one.me.0 two.me.0 was.on).1.words has in
      let most = few_own segment.setting.shape.size two.me.0.seen histogram.reference samples (index, has_two, are) in
      let few = was.lists.few in record {
        same = same_on first one two begun.same was.same;
        goes = was.goes;
        gone = gone_on call (known_view histogram) first.me.0 one.me.0 two.me.0 listed looks_two.free begun.gone was.on;
        all = λ stand once. record {
          passed = samples;
          lists = was.lists;
          each = λ value sample met saw.
              subst (λ (l : List ℕ). Contains l sample) (sym are)
              (own_each segment.setting.shape.size two.me.0.seen index has_two histogram.reference small value sample met saw);
        };
        few = omega (arith, most, few);
      }
