-- A step of a world is one event of the machine.
use Rattle.segment_invariant.proofs.Prelude.Std.{◌≡◌, ◌≢◌, false, ℕ, ℤ, zero, suc, ◌+◌, ◌<◌, ◌≤◌, List, [], ◌∷◌, ◌++◌, length, get_or, set, take, inl, inr, ⊎_elim, refl, sym, ap, ◌∙◌, subst, arith, length-set, append-nil, set-set, ∥∥₁_elim, props, some, some-injective, some-ne-none, get_elem?, set_else, Contains, None, Ok}
use Rattle.segment_invariant.proofs.Prelude.Machine.{Dimensions, word_at, Actor, Event, spot, next, Learned, Notes, State, Answered, is_opener, units_listed, units_of, IsListed, reading_along, spec_of, SameSpec, IsChain, head_of, Spent, boundaries_of, spec_fault, Refusal}
use Rattle.segment_invariant.proofs.Prelude.Invariant.{layout_of, found_at, IsHistogram}
use Rattle.std.proofs.Math.Numerals.{add-one}
use Rattle.std.proofs.lemmas.List.{length-take-le}
use Rattle.atomic_table.proofs.Lists.{set_again}
use Rattle.segment_machine.specs.Event.{after}
use Rattle.segment_machine.specs.State.{memory, IsStep}
use Rattle.segment_machine.specs.Reached.{IsLent, IsReturned, stepped, lent, returned}
use Rattle.segment_machine.specs.Reached as machine
use Rattle.segment_machine.specs.Seats.{giver, getter}
use Rattle.segment_machine.specs.declared.actor.Done.{Done as Deeds}
use Rattle.segment_machine.specs.declared.actor.Hand.{Hand}
use Rattle.segment_machine.specs.Actor.{AreOwnBlocksApart}
use Rattle.segment_invariant.proofs.Lists.Elements.{all_at, sum_at_least}
use Rattle.alloc_core.proofs.Layouts.{length_shown}
use Rattle.alloc_core.proofs.Owners.{set_at}
use Rattle.segment_invariant.proofs.Lists.Pairs.{element_at}
use Rattle.segment_promises.proofs.Adopting.Headers.{header_is}
use Rattle.segment_promises.proofs.Readings.Stopped.{stopped_reads}
use Rattle.segment_promises.specs.Reads.{ReadsUnits}
use Rattle.segment_promises.specs.Deltas.{IsEnough}
use Rattle.segment_promises.proofs.Deltas.{deltas_take_accepted}
use Rattle.segment_promises.proofs.Snapshots.{snapshots_see_accepted}
use Rattle.segment_promises.proofs.Steps.{happens}
use Rattle.segment_promises.proofs.Names.{names_are_first}
use Rattle.segment_promises.proofs.Spoilers.{notes_leave}
use Rattle.segment_promises.specs.Adoption.{IsAdoptable}
use Rattle.segment_promises.proofs.Adopting.Kept.{kept_are_adoptable}
use Rattle.segment_image.specs.Head.{header_of}
use Rattle.segment_machine.specs.declared.actor.Known.{Known}
use Rattle.segment_machine.specs.declared.place.Place.TheVariants.{FreeLoaded}
use Rattle.segment_invariant.proofs.Lists.Maps.{contains_map}
use Rattle.hist_core.specs.declared.hist.KnownHist.{KnownHist}
use Rattle.hist_core.specs.declared.actor_run.ActorRun.{ActorRun}
use Rattle.hist_core.specs.declared.world_state.WorldState.{WorldState}
use Rattle.segment_calls.specs.declared.answer.Delta.{Delta}
use Rattle.segment_calls.specs.declared.answer.Snapshot.{Snapshot}
use Rattle.hist_core.specs.declared.call.Stepped.{Stepped}
use Rattle.hist_core.specs.declared.call.Stepped.TheVariants.{More, Done}
use Rattle.hist_core.specs.declared.call.Answer.TheVariants as answer
use Rattle.hist_core.specs.Start.{MayStart, Start, start_state}
use Rattle.hist_core.specs.StepsBy.{StepsBy, WalksInOrder, has_pointer}
use Rattle.hist_core.specs.ActorRun.{IsAnswer, IsTook, IsKnown, IsActorRunOf, IsSomeRun, Lands, Advances, held_by, looked_by, returned_by, DoesAsSaid, LooksSince, Serves, is_flagged, lacks_room, StandsIn, known_of, pending_by, IsRefusedBy}
use Rattle.hist_core.specs.WorldState.{AreRun, IsReachedAs, IsReachable, IsConsistentAs, ReadsBack, MayBeAdopted, AreKnownFirst, HasSeenEnough, HasTakenEnough, ClaimsNothing, DoesOnlySo, HoldsNoPointer, LoadsPointer, IsPromised, StepsTo, IsResting, BeginsFrom, IsDue, LooksFrom}
use Rattle.hist_core.specs.World.{of_actor}
use Rattle.hist_core.proofs.Parts.Deeds.{does_still}
use Rattle.hist_core.proofs.Walks.Orders.{walks_in_order}
use Rattle.hist_core.proofs.Worlds.Free.{free_holds_none, free_turns}
use Rattle.hist_core.proofs.Worlds.Pointers.{pointer_from}
use Rattle.hist_core.proofs.Worlds.Landing.{looks_still}
use Rattle.hist_core.proofs.Worlds.Causes.{flagged, refused_still}
use Rattle.hist_core.proofs.Worlds.Quiet.{not_spent, counts_none, some_quiet}
use Rattle.hist_core.proofs.Worlds.Starts.{consistent_there, kept_there, shape_there, spoiled_there, version_there}

-- ---- actors and those that they stand for

module _ (shape : Dimensions) (version : ℕ) where
  -- the recorder of an actor
  pub recorder_at : (actor_runs : List ActorRun) (recorders : List Actor) (i : ℕ) (r : ActorRun) → AreRun shape version actor_runs recorders
      → get_elem? actor_runs i ≡ some r → (a : Actor) × (get_elem? recorders i ≡ some a) × IsActorRunOf shape version r a
  recorder_at [] recorders i r run at = absurd (some-ne-none r (sym at))
  recorder_at (x ∷ actor_runs) [] i r run at = absurd run
  recorder_at (x ∷ actor_runs) (b ∷ recorders) zero r run at =
      (b, refl, subst (λ (y : ActorRun). IsActorRunOf shape version y b) (some-injective x r at) run.0)
  recorder_at (x ∷ actor_runs) (b ∷ recorders) (suc i) r run at = recorder_at actor_runs recorders i r run.1 at

  -- an actor continues, and so does its recorder
  pub one_goes_on : (actor_runs : List ActorRun) (recorders : List Actor) (i : ℕ) (r : ActorRun) (a : Actor) → AreRun shape version actor_runs recorders
      → IsActorRunOf shape version r a → AreRun shape version (set actor_runs i r) (set recorders i a)
  one_goes_on [] [] i r a run goes = run
  one_goes_on [] (b ∷ recorders) i r a run goes = absurd run
  one_goes_on (x ∷ actor_runs) [] i r a run goes = absurd run
  one_goes_on (x ∷ actor_runs) (b ∷ recorders) zero r a run goes = (goes, run.1)
  one_goes_on (x ∷ actor_runs) (b ∷ recorders) (suc i) r a run goes = (run.0, one_goes_on actor_runs recorders i r a run.1 goes)

-- what is read at a place is there
pub is_there : {A : Type 0} (l : List A) (n i : ℕ) (x : A) → n ≡ length l → i < n → x ≡ get_or l i x → get_elem? l i ≡ some x
is_there l n i x count near read = element_at l i x (omega (arith, count, near)) ∙ ap some (sym read)

-- after the opener
behind_first : {A : Type 0} (x : A) (xs : List A) (i : ℕ) → get_elem? (x ∷ xs) (i + 1) ≡ get_elem? xs i
behind_first x xs i = ap (get_elem? (x ∷ xs)) (add-one i)

set_behind_first : {A : Type 0} (x : A) (xs : List A) (i : ℕ) (y : A) → set (x ∷ xs) (i + 1) y ≡ x ∷ set xs i y
set_behind_first x xs i y = ap (λ n. set (x ∷ xs) n y) (add-one i)

-- ---- what is returned

-- what a snapshot of an actor returns is at least what the actor had accepted and seen
has_seen : (start : Start) (world_state : WorldState) (state : State) (reach : IsReachedAs start world_state state) (actor : ℕ) (b : Actor)
    → get_elem? state.actors (actor + 1) ≡ some b → is_opener b.role ≡ false → (histogram : ℕ) (snapshot : Snapshot) → IsAnswer histogram snapshot b
    → HasSeenEnough actor histogram snapshot start world_state state reach
has_seen start world_state state reach actor b there records histogram snapshot is =
    let kept = kept_there start world_state state reach in
    let known : Known = is.known in
    let answered : Answered = is.answered in
    let sees = snapshots_see_accepted world_state.shape start.opened state (actor + 1) reach.shows.opener b known answered kept
    (ap (λ l. get_elem? l 0) reach.shows.actors) there records is.knows is.saw in
    let noted = sees.1 in
    let redundant = is.redundant in record {
      recorder = b;
      there = there;
      answer = is;
      kept = kept;
      enough = subst (λ (l : List (ℤ × ℕ)). IsEnough state.words kept.anatomy.records b known (units_listed l)) is.counts sees.0;
      noted = omega (arith, noted, redundant);
      rising = λ count saw.
          let least = sees.2 count (subst (λ (h : ℕ). Contains (take b.since.counts b.seen.counts) (record { at = h + 13; word = count })) (sym is.reference) saw) in
          omega (arith, least, redundant);
    }

-- of a delta, that all of them took together
has_taken : (start : Start) (world_state : WorldState) (state : State) (reach : IsReachedAs start world_state state) (actor : ℕ) (b : Actor)
    → get_elem? state.actors (actor + 1) ≡ some b → is_opener b.role ≡ false → (histogram : ℕ) (delta : Delta) → IsTook histogram delta b
    → HasTakenEnough actor histogram delta start world_state state reach
has_taken start world_state state reach actor b there records histogram delta is =
    let kept = kept_there start world_state state reach in record {
      recorder = b;
      there = there;
      answer = is;
      kept = kept;
      enough = deltas_take_accepted world_state.shape start.opened state (actor + 1) b is.known kept there records is.knows is.took;
    }

-- ---- a step

module _ (start : Start) (old : WorldState) (state : State) (reach : IsReachedAs start old state) (size : length old.words.items ≡ old.shape.size) where
  -- without shared cursors the memory is the words
  abbrev words : List ℕ
  words = old.words.items

  in_memory : memory state ≡ words
  in_memory = ap (λ cursors. state.words ++ cursors) reach.shows.cursors ∙ append-nil state.words ∙ reach.shows.words

  as_long : length state.words ≡ old.shape.size
  as_long = ap length reach.shows.words ∙ size

  -- what an event finds
  finds : (event : Event) → found_at state event ≡ word_at words (spot old.shape.size event)
  finds event i = word_at (in_memory i) (spot (as_long i) event)

  becomes : (event : Event) → after (length state.words) old.version event (memory state) ≡ after old.shape.size old.version event words
  becomes event i = after (as_long i) old.version event (in_memory i)

  -- ---- an actor continues

  module _ (actor : ℕ) (r r' : ActorRun) (new : WorldState) (at : get_elem? old.actor_runs.items actor ≡ some r) (shaped : new.shape ≡ old.shape)
      (versioned : new.version ≡ old.version) (actor_runs : new.actor_runs.items ≡ set old.actor_runs.items actor r') where
    its : (a : Actor) × (get_elem? reach.shows.recorders actor ≡ some a) × IsActorRunOf old.shape old.version r a
    its = recorder_at old.shape old.version old.actor_runs.items reach.shows.recorders actor r reach.shows.runs at

    there : get_elem? state.actors (actor + 1) ≡ some its.0
    there = ap (λ actors. get_elem? actors (actor + 1)) reach.shows.actors ∙ behind_first reach.shows.opener reach.shows.recorders actor ∙ its.1

    -- the state where its actor is another
    abbrev changed : Actor → State
    changed b = record { words = new.words.items; cursors = []; actors = set state.actors (actor + 1) b }

    -- the actors stand for those of that state, of which its actor and its opener may have given each other units
    runs_there : (b : Actor) → IsActorRunOf old.shape old.version r' b → AreRun new.shape new.version new.actor_runs.items (set reach.shows.recorders actor b)
    runs_there b run = subst (λ (p : Dimensions × ℕ × List ActorRun). AreRun p.0 p.1 p.2 (set reach.shows.recorders actor b))
        (λ i. (sym shaped i, sym versioned i, sym actor_runs i))
        (one_goes_on old.shape old.version old.actor_runs.items reach.shows.recorders actor r' b reach.shows.runs run)

    starts_there : MayStart new.shape new.version start
    starts_there = subst (λ (p : Dimensions × ℕ). MayStart p.0 p.1 start) (λ i. (sym shaped i, sym versioned i)) reach.starts

    reaches : (then_is : State) → machine.IsReached old.version (start_state start) then_is → machine.IsReached new.version (start_state start) then_is
    reaches then_is led = subst (λ (v : ℕ). machine.IsReached v (start_state start) then_is) (sym versioned) led

    -- what it does is a step of the machine
    does_step : {holds : Actor → Type 0} → StepsBy old.shape.size old.version its.0 words new.words.items holds
        → (event : Event) × (b : Actor) × IsStep old.version state (actor + 1) event (changed b) × holds b
    does_step {holds = holds} e =
        let run = its.2 in
        let event : Event = e.event in
        let kept = kept_there start old state reach in
        let acted : Actor = next e.at event (found_at state event) in
        let did = happens old.shape start.opened state (actor + 1) its.0 e.at e.before event kept there run.records e.told
        e.ready [] acted (λ learned. refl) in
        let learned = subst (Learned e.at event) (finds event) did.1 in
        let stood = set_at state.actors (actor + 1) its.0 (next e.at event (found_at state event)) there in
        let apart = subst (λ (n : ℕ). AreOwnBlocksApart (next e.at event n)) (finds event) (λ living. (did.0.each (actor + 1) (next e.at event (found_at state event)) stood living).apart) in
        let ordered = subst (λ (n : ℕ). WalksInOrder (next e.at event n)) (finds event)
        (walks_in_order old.shape start.opened _ did.0 (actor + 1) (next e.at event (found_at state event)) stood) in
        let goes = e.goes learned apart ordered in
        let long : length new.words.items ≡ length state.words =
        ap length e.words_are ∙ length-set words (spot old.shape.size event) _ ∙ sym (ap length reach.shows.words) in (
          event,
          goes.1,
          record {
            actor = its.0;
            there = there;
            is_recorder = run.records;
            before = e.before;
            at = e.at;
            notes_before = e.told;
            ready = e.ready;
            behind = goes.0;
            then_is = goes.1;
            notes_behind = subst (λ (n : ℕ). Notes (next e.at event n) goes.0 goes.1) (sym (finds event)) goes.2;
            size = long;
            memory_is = append-nil new.words.items ∙ e.words_are ∙ sym (becomes event);
            actors_are = refl {a = set state.actors (actor + 1) goes.1};
          },
          goes.3,
        )

    -- the state where its actor is this is reached
    reached_so : (event : Event) (b : Actor) → IsStep old.version state (actor + 1) event (changed b) → new.units ≡ old.units → IsActorRunOf old.shape old.version r' b
        → IsReachedAs start new (changed b)
    reached_so event b step pooled run = record {
      starts = starts_there;
      reached = reaches (changed b) (stepped state (changed b) (actor + 1) event reach.reached step);
      shows = record {
        words = refl;
        cursors = refl;
        opener = reach.shows.opener;
        recorders = set reach.shows.recorders actor b;
        actors = ap (λ actors. set actors (actor + 1) b) reach.shows.actors ∙ set_behind_first reach.shows.opener reach.shows.recorders actor b;
        opens = reach.shows.opens;
        waits = reach.shows.waits;
        offers = reach.shows.offers;
        pool = reach.shows.pool ∙ sym pooled;
        runs = runs_there b run;
      };
      entries = reach.entries;
      deltas = reach.deltas;
      answers = reach.answers;
    }

    -- since when it looks
    looks_from : (last : State) (b : Actor) → get_elem? last.actors (actor + 1) ≡ some b → LooksSince r.running its.0 b → LooksFrom old actor state last
    looks_from last b is_last looks before a c was is_a is_c =
        subst (λ (p : ActorRun × Actor × Actor). LooksSince p.0.running p.1 p.2)
        (λ i. (some-injective r before (sym at ∙ was) i, some-injective its.0 a (sym there ∙ is_a) i, some-injective b c (sym is_last ∙ is_c) i)) looks

    -- its record before a step and after it
    stepped_from : (event : Event) (b : Actor) (step : IsStep old.version state (actor + 1) event (changed b)) (a : Actor) → get_elem? state.actors (actor + 1) ≡ some a
        → (step.actor ≡ a) × (step.then_is ≡ b)
    stepped_from event b step a is_a = (
      some-injective _ _ (sym step.there ∙ is_a),
      some-injective _ _
          (sym (set_at state.actors (actor + 1) its.0 step.then_is there)
          ∙ (ap (λ l. get_elem? l (actor + 1)) (sym step.actors_are) ∙ set_at state.actors (actor + 1) its.0 b there)),
    )

    -- it holds no free pointer that it has not loaded
    loads_pointer : (event : Event) (b : Actor) → IsStep old.version state (actor + 1) event (changed b) → (last : State) (c : Actor) → get_elem? last.actors (actor + 1) ≡ some c
        → c.hand ≡ b.hand → LoadsPointer actor words state last
    loads_pointer event b step last c is_last hand a d is_a is_d free at =
        let (first, then_is) = stepped_from event b step a is_a in
        let found : ℕ = found_at state event in
        let begins = notes_leave step.before step.actor step.at step.notes_before in
        let ends = notes_leave step.behind (next step.at event found) step.then_is step.notes_behind in
        let behind : (next step.at event found).hand.place ≡ FreeLoaded free =
        sym ends.0 ∙ (ap (λ (x : Actor). x.hand.place) then_is ∙ (ap (λ (h : Hand). h.place) (sym hand) ∙ (ap (λ (x : Actor). x.hand.place) (some-injective c d (sym is_last ∙ is_d)) ∙ at))) in
        ⊎_elim (λ stood. inl (ap (λ (x : Actor). x.hand.place) (sym first) ∙ (sym begins.0 ∙ stood)))
        (λ (loads, same). inr (sym (same ∙ (finds event ∙ ap (λ (e : Event). word_at words (spot old.shape.size e)) loads))))
        (pointer_from free step.at event found behind)

    -- once it has set the corrupt flag, it claims nothing
    claims_none : (event : Event) (b : Actor) → IsStep old.version state (actor + 1) event (changed b) → (last : State) (c : Actor) → get_elem? last.actors (actor + 1) ≡ some c
        → c.done ≡ b.done → ClaimsNothing actor state last
    claims_none event b step last c is_last done a d is_a is_d spoiled =
        let (first, then_is) = stepped_from event b step a is_a in
        let ends : d.done ≡ step.then_is.done = ap (λ (x : Actor). x.done) (sym (some-injective c d (sym is_last ∙ is_d))) ∙ (done ∙ ap (λ (x : Actor). x.done) (sym then_is)) in
        let (sets, claimed) = spoiled_there start old state reach (changed b) (actor + 1) event step
        (ap (λ (x : Actor). x.done.spoiled) first ∙ spoiled) in
        (ap (λ (x : Deeds). x.spoiled) ends ∙ sets, ap (λ (x : Deeds). x.claimed) ends ∙ (claimed ∙ ap (λ (x : Actor). x.done.claimed) first))

    -- what it has done agrees with what its call says
    does_so : (said : Stepped) (b : Actor) → DoesAsSaid r.running said its.0 b → (last : State) (c : Actor) → get_elem? last.actors (actor + 1) ≡ some c → c.done ≡ b.done
        → DoesOnlySo old actor state said last
    does_so said b does last c is_last done before x d was is_x is_d =
        let so : DoesAsSaid r.running said its.0 d =
        does_still (is_flagged said) (lacks_room said) (Serves r.running its.0) its.0 its.0 b d refl (ap (λ (y : Actor). y.done) (sym (some-injective c d (sym is_last ∙ is_d))) ∙ done) does in
        subst (λ (p : ActorRun × Actor). DoesAsSaid p.0.running said p.1 d)
        (λ i. (some-injective r before (sym at ∙ was) i, some-injective its.0 x (sym there ∙ is_x) i)) so

    -- it lands there, if no units come back
    lands : (event : Event) (b : Actor) (step : IsStep old.version state (actor + 1) event (changed b)) (pooled : new.units ≡ old.units)
        (run : IsActorRunOf old.shape old.version r' b) → LooksSince r.running its.0 b → (said : Stepped) → DoesAsSaid r.running said its.0 b
        → IsPromised old actor state said start new (changed b) (reached_so event b step pooled run) → StepsTo old actor start state new said
    lands event b step pooled run looks said does promised = (
      event,
      changed b,
      step,
      (
        changed b,
        inl refl,
        (
          reached_so event b step pooled run,
          promised,
          looks_from (changed b) b (set_at state.actors (actor + 1) its.0 b there) looks,
          claims_none event b step (changed b) b (set_at state.actors (actor + 1) its.0 b there) refl,
          loads_pointer event b step (changed b) b (set_at state.actors (actor + 1) its.0 b there) refl,
          does_so said b does (changed b) b (set_at state.actors (actor + 1) its.0 b there) refl,
        ),
      ),
    )

    -- the opener and its actor, once one has given the other units
    abbrev traded : Actor → Actor → Actor → State
    traded b opener c = record (changed b) { actors = set (set (set state.actors (actor + 1) b) 0 opener) (actor + 1) c }

    traded_are : (b opener c : Actor) → (traded b opener c).actors ≡ opener ∷ set reach.shows.recorders actor c
    traded_are b opener c =
        (λ i. set (set (set (reach.shows.actors i) (actor + 1) b) 0 opener) (actor + 1) c)
        ∙ ((λ i. set (set (set_behind_first reach.shows.opener reach.shows.recorders actor b i) 0 opener) (actor + 1) c)
        ∙ (set_behind_first opener (set reach.shows.recorders actor b) actor c ∙ ap (λ l. opener ∷ l) (set-set reach.shows.recorders actor b c)))

    first_is : (b : Actor) → get_elem? (set state.actors (actor + 1) b) 0 ≡ some reach.shows.opener
    first_is b = ap (λ l. get_elem? l 0) (ap (λ actors. set actors (actor + 1) b) reach.shows.actors ∙ set_behind_first reach.shows.opener reach.shows.recorders actor b)

    not_first : 0 ≢ actor + 1
    not_first same = omega (arith, same)

    -- its actor is last there
    mine_last : (b : Actor) (units : ℕ) → get_elem? (traded b (getter reach.shows.opener units) (giver b units)).actors (actor + 1) ≡ some (giver b units)
    mine_last b units =
        let opener : Actor = getter reach.shows.opener units in
        let mine = set_else (set state.actors (actor + 1) b) 0 (actor + 1) opener (λ same. not_first (sym same)) ∙ set_at state.actors (actor + 1) its.0 b there in
        set_at (set (set state.actors (actor + 1) b) 0 opener) (actor + 1) b (giver b units) mine

    -- it lands there once its units have come back
    lands_back : (event : Event) (b : Actor) (units : ℕ) → IsStep old.version state (actor + 1) event (changed b) → new.units ≡ old.units + units
        → b.hand.place ≢ Spent → is_opener b.role ≡ false → units ≤ b.units.share → IsActorRunOf old.shape old.version r' (giver b units) → LooksSince r.running its.0 b → (said : Stepped) → DoesAsSaid r.running said its.0 b
        → ((there : IsReachedAs start new (traded b (getter reach.shows.opener units) (giver b units))) → IsPromised old actor state said start new _ there) → StepsTo old actor start state new said
    lands_back event b units step pooled living recorder fits run looks said does promised =
        let opener : Actor = reach.shows.opener in
        let last : State = traded b (getter opener units) (giver b units) in
        let back : IsReturned (changed b) 0 (actor + 1) units last =
        (opener, b, not_first, first_is b, set_at state.actors (actor + 1) its.0 b there, (reach.shows.opens, recorder, living, fits), refl) in
        let there : IsReachedAs start new last = record {
          starts = starts_there;
          reached = reaches last (returned (changed b) last 0 (actor + 1) units (stepped state (changed b) (actor + 1) event reach.reached step) back);
          shows = record {
            words = refl;
            cursors = refl;
            opener = getter opener units;
            recorders = set reach.shows.recorders actor (giver b units);
            actors = traded_are b (getter opener units) (giver b units);
            opens = reach.shows.opens;
            waits = reach.shows.waits;
            offers = reach.shows.offers;
            pool = ap (λ n. n + units) reach.shows.pool ∙ sym pooled;
            runs = runs_there (giver b units) run;
          };
          entries = reach.entries;
          deltas = reach.deltas;
          answers = reach.answers;
        } in (
          event,
          changed b,
          step,
          (
            last,
            inr (units, back),
            (
              there,
              promised there,
              looks_from last (giver b units) (mine_last b units) (looks_still r.running its.0 b (giver b units) refl looks),
              claims_none event b step last (giver b units) (mine_last b units) refl,
              loads_pointer event b step last (giver b units) (mine_last b units) refl,
              does_so said b does last (giver b units) (mine_last b units) refl,
            ),
          ),
        )

    -- why it was refused shows there
    due_back : (b : Actor) (units : ℕ) (cause : Refusal) → b.hand.place ≢ Spent → IsRefusedBy r.running cause its.0 b
        → (there : IsReachedAs start new (traded b (getter reach.shows.opener units) (giver b units))) (before : ActorRun) → get_elem? old.actor_runs.items actor ≡ some before
        → IsDue actor before.running cause state new (traded b (getter reach.shows.opener units) (giver b units))
    due_back b units cause living is reaches_it before was =
        let last : State = traded b (getter reach.shows.opener units) (giver b units) in
        let still = refused_still cause its.0 b (giver b units) refl refl refl r.running is in
        subst (λ (x : ActorRun). IsDue actor x.running cause state new last) (some-injective r before (sym at ∙ was)) (record {
          before = its.0;
          was = there;
          recorder = giver b units;
          there = mine_last b units;
          refused = still;
          flagged = flagged start new last reaches_it actor its.0 (giver b units) (mine_last b units) living r.running cause still;
        })

    -- where its actor lands by what its call says
    lands_so : (event : Event) (b : Actor) → IsStep old.version state (actor + 1) event (changed b) → (said : Stepped)
        → new.units ≡ old.units + returned_by said (held_by r.running) → Lands old.shape old.version r r' said its.0 b → LooksSince r.running its.0 b → DoesAsSaid r.running said its.0 b → StepsTo old actor start state new said
    lands_so event b step More pooled run looks does = lands event b step (omega (arith, pooled)) run looks More does tt
    lands_so event b step (Done answer.Added) pooled run looks does = lands event b step (omega (arith, pooled)) run looks (Done answer.Added) does tt
    lands_so event b step (Done answer.Flagged) pooled (run, spoiled) looks does =
        lands event b step (omega (arith, pooled)) run looks (Done answer.Flagged) does (b, set_at state.actors (actor + 1) its.0 b there, spoiled)
    lands_so event b step (Done (answer.Hist reference)) pooled run looks does = lands event b step (omega (arith, pooled)) run looks (Done (answer.Hist reference)) does tt
    lands_so event b step (Done (answer.Delta delta)) pooled (run, is) looks does =
        let same : new.units ≡ old.units = omega (arith, pooled) in
        lands event b step same run looks (Done (answer.Delta delta)) does (λ before was.
        subst (λ (x : ActorRun). HasTakenEnough actor (looked_by x.running) delta start new (changed b) (reached_so event b step same run)) (some-injective r before (sym at ∙ was))
        (has_taken start new (changed b) (reached_so event b step same run) actor b (set_at state.actors (actor + 1) its.0 b there) run.records (looked_by r.running) delta is))
    lands_so event b step (Done (answer.Snapshot snapshot)) pooled (run, is) looks does =
        let same : new.units ≡ old.units = omega (arith, pooled) in
        lands event b step same run looks (Done (answer.Snapshot snapshot)) does (λ before was.
        subst (λ (x : ActorRun). HasSeenEnough actor (looked_by x.running) snapshot start new (changed b) (reached_so event b step same run)) (some-injective r before (sym at ∙ was))
        (has_seen start new (changed b) (reached_so event b step same run) actor b (set_at state.actors (actor + 1) its.0 b there) run.records (looked_by r.running) snapshot is))
    lands_so event b step (Done (answer.BatchRefused refused)) pooled ((living, fits, run), cause) looks does =
        lands_back event b (held_by r.running) step pooled living run.records fits run looks (Done (answer.BatchRefused refused)) does (due_back b (held_by r.running) refused.why living cause)
    lands_so event b step (Done (answer.Refused why)) pooled ((living, fits, run), cause) looks does =
        lands_back event b (held_by r.running) step pooled living run.records fits run looks (Done (answer.Refused why)) does (due_back b (held_by r.running) why living cause)

    -- an actor that performs an event leads to the next state
    pub steps : (said : Stepped) → ((a : Actor) → WalksInOrder a → IsActorRunOf old.shape old.version r a → Advances old.shape old.version r words r' new.words.items said a)
        → new.units ≡ old.units + returned_by said (held_by r.running) → StepsTo old actor start state new said
    steps said advances pooled =
        let kept = kept_there start old state reach in
        let order = walks_in_order old.shape start.opened state kept (actor + 1) its.0 there in
        let did = does_step (advances its.0 order its.2) in lands_so did.0 did.1 did.2 said pooled did.3.0 did.3.1 did.3.2

    -- its actor is lent units, and may begin a call with them
    pub lends : (units : ℕ) → new.words.items ≡ old.words.items → new.units + units ≡ old.units
        → ((a : Actor) → get_elem? state.actors (actor + 1) ≡ some a → IsActorRunOf old.shape old.version r a
        → (a.hand.place ≢ Spent) × IsActorRunOf old.shape old.version r' (getter a units)) → BeginsFrom start state actor new
    lends units worded pooled begins =
        let opener : Actor = reach.shows.opener in
        let a : Actor = its.0 in
        let may = begins a there its.2 in
        let b : Actor = getter a units in
        let then_is : State = record state { actors = set (set state.actors 0 (giver opener units)) (actor + 1) b } in
        let offered = reach.shows.offers in let pool = reach.shows.pool in
        let lent_so : IsLent state 0 (actor + 1) units then_is =
        (opener, a, not_first, ap (λ l. get_elem? l 0) reach.shows.actors, there, (reach.shows.opens, its.2.records, may.0, omega (arith, offered, pool, pooled)), refl) in (
          then_is,
          inr (units, lent_so),
          record {
            starts = starts_there;
            reached = reaches then_is (lent state then_is 0 (actor + 1) units reach.reached lent_so);
            shows = record {
              words = reach.shows.words ∙ sym worded;
              cursors = reach.shows.cursors;
              opener = giver opener units;
              recorders = set reach.shows.recorders actor b;
              actors = (λ i. set (set (reach.shows.actors i) 0 (giver opener units)) (actor + 1) b)
                  ∙ set_behind_first (giver opener units) reach.shows.recorders actor b;
              opens = reach.shows.opens;
              waits = reach.shows.waits;
              offers = reach.shows.offers;
              pool = omega (arith, pool, pooled);
              runs = runs_there b may.1;
            };
            entries = reach.entries;
            deltas = reach.deltas;
            answers = reach.answers;
          },
        )

-- an actor changes only at run time, and still stands for the same actor of the machine: so does its world
pub same_there : (start : Start) (old : WorldState) (state : State) → IsReachedAs start old state → (actor : ℕ) (r r' : ActorRun) (new : WorldState) → get_elem? old.actor_runs.items actor ≡ some r
    → ((a : Actor) → get_elem? state.actors (actor + 1) ≡ some a → IsActorRunOf old.shape old.version r a → IsActorRunOf old.shape old.version r' a)
    → new.shape ≡ old.shape → new.version ≡ old.version → new.units ≡ old.units → new.words.items ≡ old.words.items → new.actor_runs.items ≡ set old.actor_runs.items actor r'
    → IsReachedAs start new state
same_there start old state reach actor r r' new at same shaped versioned pooled worded actor_runs =
    let shows = reach.shows in
    let found = recorder_at old.shape old.version old.actor_runs.items shows.recorders actor r shows.runs at in
    let there : get_elem? state.actors (actor + 1) ≡ some found.0 =
    ap (λ actors. get_elem? actors (actor + 1)) shows.actors ∙ behind_first shows.opener shows.recorders actor ∙ found.1 in
    let goes = one_goes_on old.shape old.version old.actor_runs.items shows.recorders actor r' found.0 shows.runs (same found.0 there found.2) in
    let stays = set_again shows.recorders actor found.0 found.1 in
    record {
      starts = subst (λ (p : Dimensions × ℕ). MayStart p.0 p.1 start) (λ i. (sym shaped i, sym versioned i)) reach.starts;
      reached = subst (λ (v : ℕ). machine.IsReached v (start_state start) state) (sym versioned) reach.reached;
      shows = record {
        words = shows.words ∙ sym worded;
        cursors = shows.cursors;
        opener = shows.opener;
        recorders = shows.recorders;
        actors = shows.actors;
        opens = shows.opens;
        waits = shows.waits;
        offers = shows.offers;
        pool = shows.pool ∙ sym pooled;
        runs = subst (λ (p : Dimensions × ℕ × List ActorRun × List Actor). AreRun p.0 p.1 p.2 p.3) (λ i. (sym shaped i, sym versioned i, sym actor_runs i, stays i)) goes;
      };
      entries = reach.entries;
      deltas = reach.deltas;
      answers = reach.answers;
    }

-- ---- at any moment

-- what holds of each actor that is there
pub each_runs : (start : Start) (world_state : WorldState) (state : State) → IsReachedAs start world_state state → (i : ℕ) (r : ActorRun) → get_elem? world_state.actor_runs.items i ≡ some r
    → (a : Actor) × IsActorRunOf world_state.shape world_state.version r a
each_runs start world_state state reach i r at =
    let found = recorder_at world_state.shape world_state.version world_state.actor_runs.items reach.shows.recorders i r reach.shows.runs at in (found.0, found.2)

-- it is an actor of a segment of `n` words
pub some_run : (world_state : WorldState) → ∥ IsReachable world_state ∥₁ → (i : ℕ) (r : ActorRun) → get_elem? world_state.actor_runs.items i ≡ some r → (n : ℕ) → n ≡ length world_state.words.items
    → ∥ IsSomeRun n r ∥₁
some_run world_state reached i r at n count = ∥∥₁_elim reached (hlevel props) (λ (start, state, reach).
    let found = each_runs start world_state state reach i r at in
    let kept = kept_there start world_state state reach in
    let long : n ≡ world_state.shape.size = count ∙ (sym (ap length reach.shows.words) ∙ length_shown world_state.shape state.words (layout_of kept.anatomy) kept.shown) in
    let shaped = shape_there start world_state state reach in let from = shaped.wide in let to = shaped.one in
    ∣ (world_state.shape, world_state.version, found.0, long, omega (arith, from, to, long), found.1) ∣₁)

-- no more entries have begun than there are, and none of them has not begun that has ended
pub within : (world_state : WorldState) → ∥ IsReachable world_state ∥₁ → (i : ℕ) (r : ActorRun) → get_elem? world_state.actor_runs.items i ≡ some r
    → (r.ended ≤ r.begun) × (r.begun ≤ length r.entries.items)
within world_state reached i r at = ∥∥₁_elim reached (hlevel props) (λ (start, state, reach). (each_runs start world_state state reach i r at).1.within)

-- a front of a list that is long enough
pub front_is : {A : Type 0} (n : ℕ) (l : List A) → n ≤ length l → n ≡ length (take n l)
front_is n l long = sym (length-take-le n l long)

-- what an actor that is there shows
pub shown_is : {X : Type 0} (shown : ActorRun → List X) (world_state : WorldState) (i : ℕ) (r : ActorRun) → get_elem? world_state.actor_runs.items i ≡ some r
    → shown r ≡ of_actor shown (get_elem? world_state.actor_runs.items i)
shown_is shown world_state i r at = sym (ap (of_actor shown) at)

-- the words are the words of a kept state
pub is_long : (world_state : WorldState) → ∥ IsReachable world_state ∥₁ → length world_state.words.items ≡ world_state.shape.size
is_long world_state reached = ∥∥₁_elim reached (hlevel props) (λ (start, state, reach).
    let kept = kept_there start world_state state reach in
    sym (ap length reach.shows.words) ∙ length_shown world_state.shape state.words (layout_of kept.anatomy) kept.shown)

-- their header has no fault
pub has_sound_header : (world_state : WorldState) → ∥ IsReachable world_state ∥₁ → header_of world_state.words.items ≡ Ok (head_of world_state.words.items)
has_sound_header world_state reached = ∥∥₁_elim reached (hlevel props) (λ (start, state, reach).
    let kept = kept_there start world_state state reach in
    subst (λ (l : List ℕ). header_of l ≡ Ok (head_of l)) reach.shows.words
    (header_is world_state.shape start.opened state kept))

pub is_consistent_now : (world_state : WorldState) → IsConsistentAs world_state
is_consistent_now world_state start state reach = consistent_there start world_state state reach

pub is_read_now : (world_state : WorldState) → ReadsBack world_state
is_read_now world_state start state reach =
    let kept = kept_there start world_state state reach in (
      kept,
      λ reading is.
          let reads = stopped_reads world_state.shape start.opened state reading kept is in (
            reads.0,
            reads.1,
            reads.2,
            λ h inside.
                let (units, amounts) = reads.3 h inside in (subst (λ (v : ℕ). ReadsUnits v state h) (version_there start world_state state reach) units, amounts),
          ),
    )

-- words of version 2 may be adopted, unless the corrupt flag is set
pub may_be_adopted_now : (world_state : WorldState) → ∥ IsReachable world_state ∥₁ → MayBeAdopted world_state
may_be_adopted_now world_state reached frozen intact references listed = ∥∥₁_elim reached (hlevel props) (λ (start, state, reach).
    let words = reach.shows.words in
    ∣ subst (λ (l : List ℕ). IsAdoptable l references (reading_along l (head_of l) references)) words
    (kept_are_adoptable world_state.shape start.opened state references (kept_there start world_state state reach) (version_there start world_state state reach ∙ frozen)
    (subst (λ (l : List ℕ). (head_of l).corrupt ≡ false) (sym words) intact)
    (subst (λ (l : List ℕ). IsListed l (head_of l) references) (sym words) listed)) ∣₁)

-- what a resting actor knows is the first of its name
pub are_known_first : (world_state : WorldState) → ∥ IsReachable world_state ∥₁ → AreKnownFirst world_state
are_known_first world_state reached chain is_chain i r known at rests inside = ∥∥₁_elim reached (hlevel props) (λ (start, state, reach).
    let found = recorder_at world_state.shape world_state.version world_state.actor_runs.items reach.shows.recorders i r reach.shows.runs at in
    let a : Actor = found.0 in
    let run = found.2 in
    let kept = kept_there start world_state state reach in
    let there : get_elem? state.actors (i + 1) ≡ some a =
    ap (λ actors. get_elem? actors (i + 1)) reach.shows.actors ∙ behind_first reach.shows.opener reach.shows.recorders i ∙ found.1 in
    let words = reach.shows.words in
    let knows : Contains a.answers.names (known_of known) = subst (λ (l : List Known). Contains l (known_of known)) run.names (contains_map known_of r.known.items known inside) in
    let may = free_turns a.hand.place (subst (λ running. StandsIn world_state.shape r.known.items (pending_by r) running a) rests run.stands).0 in
    let first = names_are_first world_state.shape start.opened state chain kept
    (subst (λ (l : List ℕ). IsChain l (head_of l) chain) (sym words) is_chain) (i + 1) a there (not_spent a.hand.place may) (known_of known) knows in
    ∣ subst (λ (l : List ℕ). IsHistogram l chain known.name.items known.reference × SameSpec (spec_of l known.reference) known.spec) words first ∣₁)

-- the recorder of an actor that is there
pub its_recorder : (start : Start) (world_state : WorldState) (state : State) → IsReachedAs start world_state state → (actor : ℕ) (r : ActorRun) → get_elem? world_state.actor_runs.items actor ≡ some r
    → (a : Actor) × (get_elem? state.actors (actor + 1) ≡ some a) × IsActorRunOf world_state.shape world_state.version r a
its_recorder start world_state state reach actor r at =
    let found = recorder_at world_state.shape world_state.version world_state.actor_runs.items reach.shows.recorders actor r reach.shows.runs at in
    (found.0, ap (λ actors. get_elem? actors (actor + 1)) reach.shows.actors ∙ behind_first reach.shows.opener reach.shows.recorders actor ∙ found.1, found.2)

-- an actor that rests holds no free pointer
pub rests_without : (world_state : WorldState) (actor : ℕ) (r : ActorRun) → IsResting world_state actor r → HoldsNoPointer actor world_state
rests_without world_state actor r resting start state reach a is =
    let (b, mine, run) = its_recorder start world_state state reach actor r resting.at in
    let free = (subst (λ running. StandsIn world_state.shape r.known.items (pending_by r) running b) resting.rests run.stands).0 in
    ap (λ (x : Actor). has_pointer x.hand.place) (some-injective a b (sym is ∙ mine)) ∙ free_holds_none b.hand.place free

-- the pool has no more than all units
pub pool_fits : (world_state : WorldState) → ∥ IsReachable world_state ∥₁ → world_state.units ≤ 4294967295
pool_fits world_state reached = ∥∥₁_elim reached (hlevel props) (λ (start, state, reach).
    let kept = kept_there start world_state state reach in
    let opener : Actor = reach.shows.opener in
    let part = sum_at_least units_of state.actors 0 opener (ap (λ l. get_elem? l 0) reach.shows.actors) in
    let all = kept.pool in let pool = reach.shows.pool in
    let least : opener.units.share ≤ units_of opener = omega arith in
    omega (arith, part, all, pool, least))

-- what an actor knows is valid
module _ (world_state : WorldState) (reached : ∥ IsReachable world_state ∥₁) (i : ℕ) (r : ActorRun) (at : get_elem? world_state.actor_runs.items i ≡ some r) (place : ℕ) (known : KnownHist)
    (there : get_elem? r.known.items place ≡ some known) where
  known_in : (start : Start) (state : State) → IsReachedAs start world_state state → IsKnown world_state.shape known
  known_in start state reach = all_at (IsKnown world_state.shape) r.known.items place known (each_runs start world_state state reach i r at).1.lawful there

  pub lawful_now : spec_fault known.spec ≡ None
  lawful_now = ∥∥₁_elim reached (hlevel props) (λ (start, state, reach). (known_in start state reach).lawful)

  pub ranges_now : known.ranges ≡ boundaries_of known.spec
  ranges_now = ∥∥₁_elim reached (hlevel props) (λ (start, state, reach). (known_in start state reach).ranges)

-- of an actor that rests all entries have ended
pub quiet_now : (world_state : WorldState) → ∥ IsReachable world_state ∥₁ → (i : ℕ) (r : ActorRun) → get_elem? world_state.actor_runs.items i ≡ some r → r.running ≡ None
    → (length r.entries.items ≡ r.ended) × (r.begun ≡ r.ended)
quiet_now world_state reached i r at rests = ∥∥₁_elim (some_run world_state reached i r at (length world_state.words.items) refl) (hlevel props)
    (λ some. some_quiet (length world_state.words.items) r (subst counts_none (sym rests) tt) some)
