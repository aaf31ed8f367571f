-- A `snapshot` of an actor continues, and what it returns.
use Rattle.segment_invariant.proofs.Prelude.Std.{◌≡◌, ◌≤◌, ◌+◌, inl, inr, ℕ, ℤ, List, [], length, map, take, All, refl, sym, ap, subst, ◌∙◌, Option, Some, None, Contains, range_with_len, some, get_elem?}
use Rattle.segment_invariant.proofs.Prelude.Machine.{Dimensions, Actor, IsShape, boundaries_of, buckets_of, State, bucket_key, known_at}
use Rattle.segment_machine.specs.declared.actor.Known.{Known}
use Rattle.segment_promises.proofs.Calls.BlankTotals.{keys_of_buckets, no_units}
use Rattle.hist_core.proofs.Parts.Alone.{alike}
use Rattle.hist_core.specs.declared.call.Stepped.{Stepped}
use Rattle.hist_core.specs.declared.call.Answer.TheVariants as answer
use Rattle.hist_core.specs.declared.call.Stepped.TheVariants as stepped
use Rattle.hist_core.specs.declared.snapshot_call.SnapshotCall.{SnapshotCall}
use Rattle.hist_core.specs.declared.snapshot_call.SnapshotCallStep.{SnapshotCallStep}
use Rattle.hist_core.specs.declared.snapshot_call.SnapshotCallStep.TheVariants.{More, Done}
use Rattle.hist_core.specs.declared.actor_run.Running.{Running}
use Rattle.hist_core.specs.declared.actor_run.Running.TheVariants.{Snapshot}
use Rattle.hist_core.specs.declared.actor_run.ActorRun.{ActorRun}
use Rattle.hist_core.specs.StepsBy.{StepsBy, IsFree, WalksInOrder}
use Rattle.hist_core.specs.SnapshotCall.{HasJustBegun, SnapshotHasEnded, IsSnapshotCall, IsSomeSnapshotCall, LooksAnew, SnapshotCallGives, SnapshotCallSteps}
use Rattle.hist_core.specs.ActorRun.{Advances, Answers, AreDeltasShown, BeginsSnapshot, IsKnown, known_of, IsAnswer, CountsNoEntries, IsActorRunOf, IsSnapshotAnnounced, IsSomeRun, LooksSince, Serves, StandsIn, begun_by, ended_by, looked_by, pending_by}
use Rattle.segment_invariant.proofs.Lists.Elements.{all_at, contains_at}
use Rattle.segment_invariant.proofs.Lists.Maps.{contains_map}
use Rattle.hist_core.specs.declared.world_state.WorldState.{WorldState}
use Rattle.hist_core.specs.declared.hist.KnownHist.{KnownHist}
use Rattle.hist_core.specs.Start.{Start}
use Rattle.hist_core.specs.declared.call.Begun.TheVariants.{Going}
use Rattle.hist_core.specs.WorldState.{BeginsFrom, GoesWith, IsReachedAs, BeginsSnapshotOf, SnapshotBegins}
use Rattle.hist_core.proofs.Worlds.Starts.{kept_there, shape_there}
use Rattle.hist_core.specs.SnapshotCall.{HasListed, HasSeenValues, HasTotal, IsStarted, OpensWith, StandsAtStage}
use Rattle.hist_core.specs.declared.snapshot_call.SnapshotStage.{SnapshotStage}
use Rattle.segment_promises.proofs.ListedValues.{lists_nothing}
use Rattle.hist_core.proofs.Parts.Allocations.{goes_with}
use Rattle.hist_core.proofs.Parts.Deeds.{does_nothing}
use Rattle.hist_core.proofs.HistCall.Asking.{runs_on}
use Rattle.hist_core.proofs.Worlds.Beginnings.{IsPlaced, IsTurned, is_now, same_state}
use Rattle.hist_core.proofs.AddCall.Opening.{alone_there}
use Rattle.hist_core.proofs.Worlds.Apart.{asks_not, adds_not, batches_not, sets_not}
use Rattle.hist_core.proofs.Worlds.Free.{free_apart, free_turns}
use Rattle.hist_core.proofs.Worlds.Quiet.{begun_there, met_split, not_spent, quiet_on, takes_none, takes_not}

abbrev looks_by : SnapshotCall → Option Running → SnapshotCall
looks_by d (Some (Snapshot snapshot_call)) = snapshot_call
looks_by d running = d

pub some_snapshot_call : (n : ℕ) (actor_run : ActorRun) (snapshot_call : SnapshotCall) → actor_run.running ≡ Some (Snapshot snapshot_call) → IsSomeRun n actor_run → IsSomeSnapshotCall n snapshot_call
some_snapshot_call n actor_run snapshot_call is (shape, version, a, long, wide, run) =
    let stands = subst (λ running. StandsIn shape actor_run.known.items (pending_by actor_run) running a) is run.stands in
    (shape, stands.1.0, a, long, stands.1.1)

module _ (shape : Dimensions) (version : ℕ) (old : ActorRun) (a : Actor) (run : IsActorRunOf shape version old a) (snapshot_call now : SnapshotCall)
    (is : old.running ≡ Some (Snapshot snapshot_call)) (same : now.histogram ≡ snapshot_call.histogram) (words new_words : List ℕ) (long : length words ≡ shape.size)
    (order : WalksInOrder a) where
  stands : StandsIn shape old.known.items (pending_by old) (Some (Snapshot snapshot_call)) a
  stands = subst (λ running. StandsIn shape old.known.items (pending_by old) running a) is run.stands

  abbrev known : Known
  known = stands.1.0

  looks : IsSnapshotCall shape known snapshot_call a
  looks = stands.1.1

  one_version : snapshot_call.version ≡ version
  one_version = sym looks.version ∙ ap (λ s. s.version) run.segment

  -- it has ended: of what its actor has counted and knows nothing has changed
  rests_then : (b : Actor) (sum : ℤ) (redundant : ℕ) → IsFree b → SnapshotHasEnded known now sum redundant a b → IsActorRunOf shape version (record old { running = None }) b
  rests_then b sum redundant turns looked =
      let c : Actor = record b { deltas = a.deltas } in
      let quiet = quiet_on (pending_by old) a c looked.beside.units looked.beside.entries refl stands.0 in
      let then_is : IsActorRunOf shape version (record old { running = None }) c = runs_on shape version old a run c None looked.beside (turns, quiet) tt tt in
      let deltas = looked.deltas in record {
        records = then_is.records;
        segment = then_is.segment;
        first = then_is.first;
        within = then_is.within;
        ended = then_is.ended;
        begun = then_is.begun;
        taken = subst (AreDeltasShown old.taken.items) (sym (ap (λ d. d.taken) deltas)) run.taken;
        names = then_is.names;
        lawful = then_is.lawful;
        once = then_is.once;
        met = then_is.met;
        stands = (
          turns,
          record { none = quiet.none; runs = quiet.runs; holds = quiet.holds; share = quiet.share; takes = ap (λ d. d.taking) deltas ∙ quiet.takes },
        );
        room = tt;
        draft = tt;
      }

  is_answer : (b : Actor) (sum : ℤ) (redundant : ℕ) → SnapshotHasEnded known now sum redundant a b
      → IsAnswer (looked_by old.running) (record { counts = now.totals; sum = sum; redundant = redundant }) b
  is_answer b sum redundant looked = record {
    known = known;
    knows = subst (λ l. Contains l known) (sym looked.beside.names) looks.knows;
    reference = looks.reference ∙ sym (ap looked_by is);
    before = a.deltas.snapshots;
    answered = looked.answered;
    snapshots = ap (λ d. d.snapshots) looked.deltas;
    name = looked.name;
    counts = looked.counts;
    sum = looked.sum_is;
    redundant = looked.redundant_is;
    saw = looked.saw;
    values = looked.values;
  }

  its_steps : (said : SnapshotCallStep) → SnapshotCallSteps snapshot_call words now new_words said → StepsBy shape.size version a words new_words (SnapshotCallGives shape known snapshot_call.stage now said a)
  its_steps said steps = subst (λ (v : ℕ). StepsBy shape.size v a words new_words (SnapshotCallGives shape known snapshot_call.stage now said a)) one_version (steps shape known a long order looks)

  looks_since : (b : Actor) → LooksAnew snapshot_call.stage a b → LooksSince old.running a b
  looks_since b anew = subst (λ running. LooksSince running a b) (sym is) anew

  -- what the machine's actor does, and what that is at run time
  pub snapshot_goes : (said : SnapshotCallStep) (new : ActorRun) (result : Stepped) → SnapshotCallSteps snapshot_call words now new_words said
      → IsSnapshotAnnounced (record old { running = Some (Snapshot now) }) said new result → Advances shape version old words new new_words result a
  snapshot_goes More new result steps (new_is, result_is) =
      subst (λ said. Advances shape version old words new new_words said a) (sym result_is) (goes_with (its_steps More steps) (λ b (beside, done, anew, looks_on). (
        subst (λ (r : ActorRun). IsActorRunOf shape version r b) (sym new_is)
            (runs_on shape version old a run b (Some (Snapshot now)) beside (quiet_on (pending_by old) a b beside.units beside.entries beside.deltas stands.0, (known, looks_on)) tt tt),
        looks_since b anew,
        does_nothing (Serves old.running a) a b done,
      )))
  snapshot_goes (Done sum redundant) new result steps (other, is_other, new_is, result_is) =
      let here : other ≡ now = sym (ap (looks_by now) is_other) in
      let said_is : result ≡ stepped.Done (answer.Snapshot (record { counts = now.totals; sum = sum; redundant = redundant })) =
      result_is ∙ ap (λ (x : SnapshotCall). stepped.Done (answer.Snapshot (record { counts = x.totals; sum = sum; redundant = redundant }))) here in
      subst (λ said. Advances shape version old words new new_words said a) (sym said_is) (goes_with (its_steps (Done sum redundant) steps) (λ b (turns, done, anew, looked). (
        (subst (λ (r : ActorRun). IsActorRunOf shape version r b) (sym new_is) (rests_then b sum redundant turns looked), is_answer b sum redundant looked),
        looks_since b anew,
        does_nothing (Serves old.running a) a b done,
      )))

-- ---- what is returned

module _ (old : ActorRun) (snapshot_call now : SnapshotCall) (is : old.running ≡ Some (Snapshot snapshot_call)) (same : now.histogram ≡ snapshot_call.histogram) (words new_words : List ℕ)
    (all : length old.entries.items ≡ old.ended) (unbegun : old.begun ≡ old.ended) where
  pub snapshot_answers : (said : SnapshotCallStep) (new : ActorRun) (result : Stepped) → IsSnapshotAnnounced (record old { running = Some (Snapshot now) }) said new result
      → Answers old words new new_words result
  snapshot_answers More new result (new_is, result_is) =
      subst (Answers old words new new_words) (sym result_is) (
        (
          ap (λ (r : ActorRun). r.known.items) new_is,
          (λ asked is_asked. absurd (subst asks_not (sym is ∙ is_asked) tt)),
          (λ add is_add. absurd (subst adds_not (sym is ∙ is_add) tt)),
          (λ other is_other. (now, ap (λ (r : ActorRun). r.running) new_is, same ∙ ap (λ (x : SnapshotCall). x.histogram) (ap (looks_by snapshot_call) (sym is ∙ is_other)))),
          (λ delta_call fresh is_delta_call. absurd (subst takes_not (sym is ∙ is_delta_call) tt)),
          (λ batch is_batch. absurd (subst batches_not (sym is ∙ is_batch) tt)),
          (λ sets. absurd (subst sets_not (sym is ∙ sets) tt)),
        ),
        (ap ended_by new_is, ap begun_by new_is ∙ begun_there old all unbegun, ap pending_by new_is),
        takes_none old new stepped.More (subst takes_not (sym is) tt) (ap (λ (r : ActorRun). r.taken.items) new_is),
      )
  snapshot_answers (Done sum redundant) new result (other, is_other, new_is, result_is) =
      subst (Answers old words new new_words) (sym result_is) (
        ((snapshot_call, is), ap (λ (r : ActorRun). r.running) new_is, ap (λ (r : ActorRun). r.known.items) new_is),
        (ap ended_by new_is, ap begun_by new_is ∙ (ap (λ n. take n old.entries.items) unbegun ∙ sym (ap ended_by new_is))),
        takes_none old new _ (subst takes_not (sym is) tt) (ap (λ (r : ActorRun). r.taken.items) new_is),
      )

-- ---- it begins

-- an actor that rests begins it, which is not an event
module _ (shape : Dimensions) (version : ℕ) (known : KnownHist) (old new : ActorRun) (starts : BeginsSnapshot shape version known old new) (i : ℕ)
    (at : get_elem? old.known.items i ≡ some known) (rests : old.running ≡ None) where
  module _ (a : Actor) (run : IsActorRunOf shape version old a) (lawful : IsShape shape) (alone : known_at a.answers.names known.reference ≡ Some (known_of known)) where
    stood : IsFree a × CountsNoEntries (pending_by old) a
    stood = subst (λ running. StandsIn shape old.known.items (pending_by old) running a) rests run.stands

    its_known : IsKnown shape known
    its_known = all_at (IsKnown shape) old.known.items i known run.lawful at

    abbrev snapshot_call : SnapshotCall
    snapshot_call = starts.0

    abbrev HasBlanks : List (ℤ × ℕ) → Type 0
    HasBlanks totals = (map (λ (total : ℤ × ℕ). total.0) totals ≡ map (bucket_key (Some (known_of known))) (range_with_len 0 (buckets_of known.spec)))
        × (length totals ≡ buckets_of known.spec)

    started : IsStarted shape version (known_of known) snapshot_call
    started = starts.1

    knows : Contains a.answers.names (known_of known)
    knows = subst (λ (l : List Known). Contains l (known_of known)) run.names (contains_map known_of old.known.items known (contains_at old.known.items i known at))

    -- of a histogram with buckets it is before the single word, of a sparse one at the record
    stands_first : (stage : SnapshotStage) → OpensWith shape (known_of known) snapshot_call stage → StandsAtStage shape (known_of known) snapshot_call a stage
    stands_first stage (inl (is, has, blank)) = subst (StandsAtStage shape (known_of known) snapshot_call a) (sym is)
        (let keys : HasBlanks snapshot_call.totals.items = subst HasBlanks (sym blank) (keys_of_buckets (known_of known) (boundaries_of known.spec) its_known.lawful has refl) in (
          record { bucketed = has; keys = keys.0; buckets = keys.1 },
          subst (All (λ total. total.1 ≡ 0)) (sym blank) (no_units (boundaries_of known.spec)),
        ))
    stands_first stage (inr (is, sparse, none, room)) = subst (StandsAtStage shape (known_of known) snapshot_call a) (sym is) (
      room,
      (
        record { sparse = sparse; apart = free_apart a.hand.place stood.0; met = met_split a.seen.chain known.reference (run.met (known_of known) knows) },
        λ b. subst (λ (l : List (ℤ × ℕ)). HasSeenValues (known_of known) [] l b) (sym none) (lists_nothing (HasListed [] b) (HasTotal b) known.reference b.seen),
      ),
    )

    begins_looking : IsSnapshotCall shape (known_of known) snapshot_call a
    begins_looking = record {
      segment = ap (λ s. s.shape) run.segment;
      version = ap (λ s. s.version) run.segment ∙ sym started.versioned;
      lawful_shape = lawful;
      recorder = run.records;
      counts_nothing = stood.1.runs;
      takes_nothing = stood.1.takes;
      turns = free_turns a.hand.place stood.0;
      reference = sym started.reference;
      within = subst (λ n. n + 15 ≤ shape.size) (sym started.reference) its_known.within;
      lawful = its_known.lawful;
      knows = knows;
      alone = alone;
      stands = stands_first snapshot_call.stage started.opens;
    }

    pub begins_with : IsActorRunOf shape version new a
    begins_with = subst (λ (r : ActorRun). IsActorRunOf shape version r a) (sym starts.2)
        (runs_on shape version old a run a (Some (Snapshot snapshot_call)) (alike a) (stood.1, (known_of known, begins_looking)) tt tt)

-- on a `WorldState`
module _ (old new : WorldState) (actor : ℕ) (name : List ℕ) (place : ℕ) (r now : ActorRun) (its : IsPlaced old actor name place r) (turned : IsTurned old new actor now)
    (pooled : new.units ≡ old.units) where
  abbrev it : KnownHist
  it = its.known

  -- a call on a known histogram begins, which is no event
  pub call_begins : ((a : Actor) → IsActorRunOf old.shape old.version r a → IsShape old.shape → known_at a.answers.names it.reference ≡ Some (known_of it)
      → IsActorRunOf old.shape old.version now a) → (start : Start) (state : State) → IsReachedAs start old state → BeginsFrom start state actor new
  call_begins begins = same_state old new actor r now its.resting turned pooled (λ start state reach a there run.
      let kept = kept_there start old state reach in
      let free = free_turns a.hand.place (subst (λ running. StandsIn old.shape r.known.items (pending_by r) running a) its.resting.rests run.stands).0 in
      begins a run (shape_there start old state reach)
      (alone_there old.shape start.opened state kept (actor + 1) a there (not_spent a.hand.place free) r.known.items run.once run.names place it its.there))

  -- it goes with a histogram of the name
  pub call_begun : (IsOf : ℕ → Option Running → Type 0) → now.known.items ≡ r.known.items → now.taken.items ≡ r.taken.items → IsOf it.reference now.running
      → GoesWith IsOf actor name old new Going
  call_begun IsOf same taken is = (
    turned.words,
    (
      r,
      now,
      its.resting.at,
      is_now old new actor r now its.resting turned,
      taken,
      (it, subst (λ (l : List KnownHist). Contains l it) (sym same) (contains_at r.known.items place it its.there), its.named, is),
    ),
  )

  pub snapshot_begins : BeginsSnapshot old.shape old.version it r now → (start : Start) (state : State) → IsReachedAs start old state → BeginsFrom start state actor new
  snapshot_begins starts = call_begins (begins_with old.shape old.version it r now starts place its.there its.resting.rests)

-- it has done no event yet
just_begun : (shape : Dimensions) (known : Known) (snapshot_call : SnapshotCall) (stage : SnapshotStage) → OpensWith shape known snapshot_call stage → HasJustBegun stage
just_begun _ _ _ stage (inl opens) = inl opens.0
just_begun _ _ _ stage (inr opens) = inr opens.0

pub snapshot_begun : (old new : WorldState) (actor : ℕ) (name : List ℕ) (place : ℕ) (r now : ActorRun) (its : IsPlaced old actor name place r) → IsTurned old new actor now
    → BeginsSnapshot old.shape old.version its.known r now → new.units ≡ old.units → SnapshotBegins actor name old new Going
snapshot_begun old new actor name place r now its turned starts pooled =
    call_begun old new actor name place r now its turned pooled BeginsSnapshotOf (ap (λ (x : ActorRun). x.known.items) starts.2) (ap (λ (x : ActorRun). x.taken.items) starts.2)
    (subst (BeginsSnapshotOf (its.known).reference) (sym (ap (λ (x : ActorRun). x.running) starts.2))
    (starts.1.reference, just_begun old.shape (known_of its.known) starts.0 starts.0.stage starts.1.opens))
