-- A `hist` of an actor continues, and what its actor knows then.
use Rattle.segment_invariant.proofs.Prelude.Std.{◌≡◌, ◌≢◌, ◌<◌, ◌+◌, ℕ, zero, suc, ◌≤◌, List, [], ◌∷◌, ◌++◌, length, map, take, drop, All, inl, inr, ⊎_elim, refl, sym, ap, subst, ◌∙◌, vec_len, arith, Option, Some, None, Ok, vec_capacity, map-append, Contains, All-push, Contains-append_cases, Contains-append_right, dite, ℕ_discrete, some, some-injective, some-ne-none, get_elem?}
use Rattle.segment_invariant.proofs.Prelude.Machine.{Spec, IsShape, Dimensions, Actor, AreNameWords, is_opener, Note, noted, Refusal}
use Rattle.std.specs.Prelude.{Result, Err}
use Rattle.std.specs.declared.alloc.AllocError.{AllocError}
use Rattle.segment_calls.specs.Asked.{payload_words, IsAskedFor}
use Rattle.segment_calls.specs.declared.asked.Asked.{Asked}
use Rattle.hist_core.proofs.Parts.Alone.{alike}
use Rattle.hist_core.specs.declared.call.Begun.{Begun}
use Rattle.hist_core.specs.declared.call.Begun.TheVariants.{Going, Ended}
use Rattle.atomic_table.proofs.Lists.{at_snoc}
use Rattle.segment_machine.specs.declared.actor.Known.{Known}
use Rattle.segment_machine.specs.declared.actor.Made.TheVariants.{Histogram}
use Rattle.segment_machine.specs.Note.{MayNote, knows}
use Rattle.hist_core.specs.declared.call.Answer.TheVariants as answer
use Rattle.hist_core.specs.declared.call.Stepped.{Stepped}
use Rattle.hist_core.specs.declared.call.Stepped.TheVariants as stepped
use Rattle.hist_core.specs.declared.entry.Taken.{Taken}
use Rattle.hist_core.specs.declared.hist.Hist.{Hist as HistCall}
use Rattle.hist_core.specs.declared.hist.HistStep.{HistStep}
use Rattle.hist_core.specs.declared.hist.HistStep.TheVariants.{More, Done, Refused}
use Rattle.hist_core.specs.declared.hist.KnownHist.{KnownHist}
use Rattle.hist_core.specs.declared.actor_run.Running.{Running}
use Rattle.hist_core.specs.declared.actor_run.Running.TheVariants.{Hist}
use Rattle.hist_core.specs.declared.entry.Entry.{Entry}
use Rattle.hist_core.proofs.Parts.Allocations.{goes_with}
use Rattle.hist_core.proofs.Worlds.Apart.{adds_not, looks_not, batches_not, sets_not}
use Rattle.hist_core.proofs.Worlds.Free.{free_turns}
use Rattle.hist_core.proofs.Worlds.Quiet.{met_on, quiet_on, gives_none, begun_there, takes_none, takes_not}
use Rattle.hist_core.specs.declared.actor_run.ActorRun.{ActorRun}
use Rattle.hist_core.specs.StepsBy.{SharedEffect, links, raises, DoesOnly, FrameOfStep, StepsBy, IsFree}
use Rattle.hist_core.specs.Hist.{IsHistCause, IsSomeHist, HistSteps, SawNoName, asked_of, serves_asked}
use Rattle.hist_core.proofs.Worlds.Landing.{Landing, does_as_said}
use Rattle.hist_core.specs.ActorRun.{known_of, AreDeltasShown, HasDraft, IsKnown, NoneHasName, HaveOwnNames, StandsIn, HasRoomForHist, IsActorRunOf, IsSomeRun, IsHistAnnounced, IsRefusedBy, MayBeRefused, BeginsHist, IsAsItWas, CountsNoEntries, Answers, DoesAsSaid, Serves, is_flagged, lacks_room, held_by, entry_of, ended_by, begun_by, pending_by}
use Rattle.hist_core.proofs.Parts.Claims.{goes_noting}

-- ---- a note more

-- an actor that performs an event notes one thing more
notes_one : {size version : ℕ} {a : Actor} {words new_words : List ℕ} {holds then_holds : Actor → Type 0} → StepsBy size version a words new_words holds
    → ((b : Actor) → holds b → (note : Note) × MayNote b note × then_holds (noted b note)) → StepsBy size version a words new_words then_holds
notes_one go notes = goes_noting go (λ b its. let (note, may, then_is) = notes b its in (note ∷ [], noted b note, (may, refl), then_is))

-- ---- names

none_more : (list : List KnownHist) (known : KnownHist) (name : List ℕ) → NoneHasName list name → known.name.items ≢ name → NoneHasName (list ++ known ∷ []) name
none_more list known name none other i x at same =
    elim (at_snoc list known x i at) [ inl before ↦ none i x before same | inr last ↦ other (ap (λ (k : KnownHist). k.name.items) last ∙ same) ]

pub own_more : (list : List KnownHist) (known : KnownHist) → HaveOwnNames list → NoneHasName list known.name.items → HaveOwnNames (list ++ known ∷ [])
own_more [] known own none = ((λ i x at. absurd (some-ne-none x (sym at))), tt)
own_more (first ∷ rest) known own none =
    (none_more rest known first.name.items own.0 (λ same. none 0 first refl (sym same)), own_more rest known own.1 (λ i x at. none (suc i) x at))

one_of : (x y : Known) → Contains (x ∷ []) y → x ≡ y
one_of x y (zero, low, is) = is
one_of x y (suc k, low, is) = absurd (omega (arith, low))

-- an actor that may note that it knows a histogram has visited its record
met_first : (b : Actor) (known : Known) → MayNote b (knows known) → Contains b.seen.chain known.reference
met_first b known ((front, behind, is, others, saw), spelled) =
    subst (λ (l : List ℕ). Contains l known.reference) (sym is) (Contains-append_right front (known.reference ∷ behind) known.reference (0, omega arith, refl))

-- ---- an actor

module _ (shape : Dimensions) (version : ℕ) (old : ActorRun) (a : Actor) (run : IsActorRunOf shape version old a) where
  -- its call is another, or none, and of what it has counted and knows nothing has changed
  pub runs_on : (b : Actor) (running : Option Running) → FrameOfStep a b → StandsIn shape old.known.items (pending_by old) running b
      → HasRoomForHist running (vec_len old.known) (vec_capacity old.known) → HasDraft running old.taken → IsActorRunOf shape version (record old { running = running }) b
  runs_on b running beside stands room draft = record {
    records = ap is_opener beside.role ∙ run.records;
    segment = beside.segment ∙ run.segment;
    first = ap (λ e. e.first) beside.entries ∙ run.first;
    within = run.within;
    ended = run.ended ∙ ap (λ e. map (λ c. c.entry) e.log) (sym beside.entries);
    begun = run.begun ∙ ap (λ e. map (λ c. c.entry) (e.log ++ e.running)) (sym beside.entries);
    taken = subst (AreDeltasShown old.taken.items) (sym (ap (λ d. d.taken) beside.deltas)) run.taken;
    names = run.names ∙ sym beside.names;
    lawful = run.lawful;
    once = run.once;
    met = met_on a b beside.names beside.chain run.met;
    stands = stands;
    room = room;
    draft = draft;
  }

  -- it knows one histogram more
  pub knows_more : (b : Actor) (new : ActorRun) (known : KnownHist) → FrameOfStep a b → IsFree b → CountsNoEntries (pending_by old) b → Contains b.seen.chain known.reference
      → new ≡ record old { known = new.known; running = None } → new.known.items ≡ old.known.items ++ known ∷ [] → IsKnown shape known
      → NoneHasName old.known.items known.name.items → IsActorRunOf shape version new (noted b (knows (known_of known)))
  knows_more b new known beside may quiet met new_is items lawful none =
      subst (λ (r : ActorRun). IsActorRunOf shape version r (noted b (knows (known_of known)))) (sym new_is) (record {
        records = ap is_opener beside.role ∙ run.records;
        segment = beside.segment ∙ run.segment;
        first = ap (λ e. e.first) beside.entries ∙ run.first;
        within = run.within;
        ended = run.ended ∙ ap (λ e. map (λ c. c.entry) e.log) (sym beside.entries);
        begun = run.begun ∙ ap (λ e. map (λ c. c.entry) (e.log ++ e.running)) (sym beside.entries);
        taken = subst (AreDeltasShown old.taken.items) (sym (ap (λ d. d.taken) beside.deltas)) run.taken;
        names = ap (map known_of) items
            ∙ (map-append known_of old.known.items (known ∷ []) ∙ ap (λ l. l ++ known_of known ∷ []) (run.names ∙ sym beside.names));
        lawful = subst (All (IsKnown shape)) (sym items) (All-push (IsKnown shape) old.known.items known run.lawful lawful);
        once = subst HaveOwnNames (sym items) (own_more old.known.items known run.once none);
        met = λ k inside.
            ⊎_elim (λ before. met_on a b beside.names beside.chain run.met k before) (λ last. subst (λ (m : Known). Contains b.seen.chain m.reference) (one_of (known_of known) k last) met)
            (Contains-append_cases b.answers.names (known_of known ∷ []) k inside);
        stands = (may, quiet_on (pending_by old) b (noted b (knows (known_of known))) refl refl refl quiet);
        room = tt;
        draft = tt;
      })

-- ---- its `hist`

abbrev asked_by : HistCall → Option Running → HistCall
asked_by d (Some (Hist h)) = h
asked_by d running = d

pub some_hist : (n : ℕ) (actor_run : ActorRun) (h : HistCall) → actor_run.running ≡ Some (Hist h) → IsSomeRun n actor_run → IsSomeHist n h
some_hist n actor_run h is (shape, version, a, long, wide, run) =
    (shape, a, long, (subst (λ running. StandsIn shape actor_run.known.items (pending_by actor_run) running a) is run.stands).0)

pub some_words : (n : ℕ) (actor_run : ActorRun) → IsSomeRun n actor_run → 16 ≤ n
some_words n actor_run (shape, version, a, long, wide, run) = wide

pub some_room : (n : ℕ) (actor_run : ActorRun) → IsSomeRun n actor_run → HasRoomForHist actor_run.running (vec_len actor_run.known) (vec_capacity actor_run.known)
some_room n actor_run (shape, version, a, long, wide, run) = run.room

module _ (shape : Dimensions) (version : ℕ) (old : ActorRun) (a : Actor) (run : IsActorRunOf shape version old a) (h now : HistCall)
    (is : old.running ≡ Some (Hist h)) (same : now.asked ≡ h.asked) (words new_words : List ℕ) (long : length words ≡ shape.size) where
  stands : StandsIn shape old.known.items (pending_by old) (Some (Hist h)) a
  stands = subst (λ running. StandsIn shape old.known.items (pending_by old) running a) is run.stands

  room : HasRoomForHist (Some (Hist now)) (vec_len old.known) (vec_capacity old.known)
  room = subst (λ running. HasRoomForHist running (vec_len old.known) (vec_capacity old.known)) is run.room

  none : NoneHasName old.known.items now.asked.name.items
  none = subst (λ (k : KnownHist). NoneHasName old.known.items k.name.items) (sym same) stands.2

  still_quiet : (b : Actor) → FrameOfStep a b → CountsNoEntries (pending_by old) b
  still_quiet b beside = quiet_on (pending_by old) a b beside.units beside.entries beside.deltas stands.1

  -- why it is refused
  refused_by : (cause : Refusal) (b : Actor) → IsHistCause now.asked.name.items now.asked.spec cause a b → IsRefusedBy old.running cause a b
  refused_by cause b its = subst (λ running. IsRefusedBy running cause a b) (sym is) (subst (λ (k : KnownHist). IsHistCause k.name.items k.spec cause a b) same its)

  -- it still asks for the same
  same_asked : (deed : SharedEffect) → serves_asked now a deed → serves_asked h a deed
  same_asked (links made) it = it ∙ ap (λ (k : KnownHist). Histogram k.name.items k.spec) same
  same_asked (raises words) it =
      subst (λ (k : KnownHist). SawNoName k.name.items a.seen × ((letters : List ℕ) × AreNameWords k.name.items letters × (words ≡ 4 + length (payload_words k.name.items k.spec letters)))) same it

  -- it makes the record that it asks for
  does_it : (said : Stepped) (b c : Actor) → c.done ≡ b.done → DoesOnly (is_flagged said) (lacks_room said) (serves_asked now a) a b → DoesAsSaid old.running said a c
  does_it said b c same_done = does_as_said old.running said (serves_asked now a) a a b c
      (λ deed it. subst (λ running. Serves running a deed) (sym is) (same_asked deed it)) refl same_done

  -- what the machine's actor does, and what that is at run time
  pub hist_goes : (said : HistStep) (new : ActorRun) (result : Stepped) → HistSteps h words now new_words said
      → IsHistAnnounced (record old { running = Some (Hist now) }) said new result → Landing shape version old words new new_words result a
  hist_goes More new result steps (new_is, result_is) =
      subst (λ said. Landing shape version old words new new_words said a) (sym result_is) (goes_with (steps shape version a long stands.0) (λ b (beside, does, is_hist). (
        subst (λ (r : ActorRun). IsActorRunOf shape version r b) (sym new_is)
            (runs_on shape version old a run b (Some (Hist now)) beside (is_hist, still_quiet b beside, none) room tt),
        does_it stepped.More b b refl does,
      )))
  hist_goes Done new result steps (asked, is_asked, new_is, items, result_is) =
      let here : asked ≡ now = sym (ap (asked_by now) is_asked) in
      let then_items : new.known.items ≡ old.known.items ++ (let k = now.asked in record k { reference = now.reference }) ∷ [] =
      items ∙ ap (λ (x : HistCall). old.known.items ++ (let k = x.asked in record k { reference = x.reference }) ∷ []) here in
      subst (λ said. Landing shape version old words new new_words said a) (sym result_is) (notes_one (steps shape version a long stands.0) (λ b (beside, does, may, may_note, asking, within). (
        knows (asked_of now),
        may_note,
        (
          knows_more shape version old a run b new (let k = now.asked in record k { reference = now.reference }) beside may (still_quiet b beside) (met_first b (asked_of now) may_note) new_is then_items
              (record { name = asking.name; lawful = asking.lawful; ranges = asking.ranges; fits = asking.fits; within = within }) none,
          does_it (stepped.Done (answer.Hist asked.reference)) b (noted b (knows (asked_of now))) refl does,
        ),
      )))
  hist_goes (Refused why) new result steps (new_is, result_is) =
      subst (λ said. Landing shape version old words new new_words said a) (sym result_is) (goes_with (steps shape version a long stands.0) (λ b (beside, does, may, cause). (
        (
          gives_none shape version new b (held_by old.running) (ap held_by is) (free_turns b.hand.place may) (subst (λ (r : ActorRun). IsActorRunOf shape version r b) (sym new_is)
              (runs_on shape version old a run b None beside (may, still_quiet b beside) tt tt)),
          refused_by why b cause,
        ),
        does_it (stepped.Done (answer.Refused why)) b b refl does,
      )))

-- what is returned
module _ (old : ActorRun) (h now : HistCall) (is : old.running ≡ Some (Hist h)) (same : now.asked ≡ h.asked) (words new_words : List ℕ)
    (all : length old.entries.items ≡ old.ended) (unbegun : old.begun ≡ old.ended) where
  begun_on : (new : ActorRun) → new.entries ≡ old.entries → new.ended ≡ old.ended → new.begun ≡ old.begun → begun_by new ≡ ended_by new
  begun_on new entries ended begun = ap (λ n. take n new.entries.items) (begun ∙ unbegun ∙ sym ended)

  pub hist_answers : (said : HistStep) (new : ActorRun) (result : Stepped) → IsHistAnnounced (record old { running = Some (Hist now) }) said new result
      → Answers old words new new_words result
  hist_answers More new result (new_is, result_is) =
      subst (Answers old words new new_words) (sym result_is) (
        (
          ap (λ (r : ActorRun). r.known.items) new_is,
          (λ asked is_asked. (now, ap (λ (r : ActorRun). r.running) new_is, same ∙ ap (λ (y : HistCall). y.asked) (ap (asked_by h) (sym is ∙ is_asked)))),
          (λ add is_add. absurd (subst adds_not (sym is ∙ is_add) tt)),
          (λ snapshot_call is_snapshot_call. absurd (subst looks_not (sym is ∙ is_snapshot_call) tt)),
          (λ delta_call fresh is_delta_call. absurd (subst takes_not (sym is ∙ is_delta_call) tt)),
          (λ batch is_batch. absurd (subst batches_not (sym is ∙ is_batch) tt)),
          (λ sets. absurd (subst sets_not (sym is ∙ sets) tt)),
        ),
        (
          ap ended_by new_is,
          ap begun_by new_is ∙ begun_there old all unbegun,
          ap pending_by new_is,
        ),
        takes_none old new stepped.More (subst takes_not (sym is) tt) (ap (λ (r : ActorRun). r.taken.items) new_is),
      )
  hist_answers Done new result (asked, is_asked, new_is, items, result_is) =
      let then_same : asked.asked ≡ h.asked = ap (λ (y : HistCall). y.asked) (sym (ap (asked_by now) is_asked)) ∙ same in
      subst (Answers old words new new_words) (sym result_is) (
        (
          (let k = asked.asked in record k { reference = asked.reference }),
          (h, is, (ap (λ (k : KnownHist). k.name) then_same, ap (λ (k : KnownHist). k.spec) then_same)),
          refl,
          items,
          ap (λ (r : ActorRun). r.running) new_is,
        ),
        (ap ended_by new_is, begun_on new (ap (λ (r : ActorRun). r.entries) new_is) (ap (λ (r : ActorRun). r.ended) new_is) (ap (λ (r : ActorRun). r.begun) new_is)),
        takes_none old new (stepped.Done (answer.Hist asked.reference)) (subst takes_not (sym is) tt) (ap (λ (r : ActorRun). r.taken.items) new_is),
      )
  hist_answers (Refused why) new result (new_is, result_is) =
      subst (Answers old words new new_words) (sym result_is) (
        (subst MayBeRefused (sym is) tt, ap (λ (r : ActorRun). r.running) new_is, ap (λ (r : ActorRun). r.known.items) new_is),
        (ap ended_by new_is, begun_on new (ap (λ (r : ActorRun). r.entries) new_is) (ap (λ (r : ActorRun). r.ended) new_is) (ap (λ (r : ActorRun). r.begun) new_is)),
        takes_none old new (stepped.Done (answer.Refused why)) (subst takes_not (sym is) tt) (ap (λ (r : ActorRun). r.taken.items) new_is),
      )

-- ---- what it begins with

-- what is at a place is within the list
pub place_below : {A : Type 0} (l : List A) (i : ℕ) (x : A) → get_elem? l i ≡ some x → i < length l
place_below [] i x at = absurd (some-ne-none x (sym at))
place_below (y ∷ l) zero x at = omega arith
place_below (y ∷ l) (suc i) x at = let below = place_below l i x at in omega (arith, below)

-- if it is unchanged except for room, so is the machine's actor
pub as_it_stood : (shape : Dimensions) (version : ℕ) (old new : ActorRun) (a : Actor) → old.running ≡ None → IsAsItWas old new → IsActorRunOf shape version old a
    → IsActorRunOf shape version new a
as_it_stood shape version old new a rests (new_is, entries, items, taken) run =
    subst (λ (r : ActorRun). IsActorRunOf shape version r a) (sym new_is) (record {
      records = run.records;
      segment = run.segment;
      first = run.first;
      within = subst (λ (l : List Entry). (old.ended ≤ old.begun) × (old.begun ≤ length l)) (sym entries) run.within;
      ended = ap (λ (l : List Entry). map entry_of (take old.ended l)) entries ∙ run.ended;
      begun = ap (λ (l : List Entry). map entry_of (take old.begun l)) entries ∙ run.begun;
      taken = subst (λ (l : List Taken). AreDeltasShown l a.deltas.taken) (sym taken) run.taken;
      names = ap (map known_of) items ∙ run.names;
      lawful = subst (All (IsKnown shape)) (sym items) run.lawful;
      once = subst HaveOwnNames (sym items) run.once;
      met = run.met;
      stands = subst (λ (p : List KnownHist × List Entry). StandsIn shape p.0 (drop old.ended p.1) old.running a) (λ i. (sym items i, sym entries i)) run.stands;
      room = subst (λ running. HasRoomForHist running (vec_len new.known) (vec_capacity new.known)) (sym rests) tt;
      draft = subst (λ running. HasDraft running new.taken) (sym rests) tt;
    })

-- it begins a `hist`, or there was no memory for it: the machine's actor is unchanged
pub begins_hist : (shape : Dimensions) (version : ℕ) (name : List ℕ) (spec : Spec) (asked : Asked) (old new : ActorRun) (result : Result Begun AllocError) (a : Actor)
    → IsAskedFor shape name spec asked → IsShape shape → old.running ≡ None → BeginsHist shape asked old new result → IsActorRunOf shape version old a → IsActorRunOf shape version new a
begins_hist shape version name spec asked old new (Ok Going) a asks lawful rests (hist, begun, new_is, items, room, none) run =
    let stands = subst (λ running. StandsIn shape old.known.items (pending_by old) running a) rests run.stands in
    let roomy : ActorRun = record old { known = new.known } in
    subst (λ (r : ActorRun). IsActorRunOf shape version r a) (sym new_is)
    (runs_on shape version roomy a (as_it_stood shape version old roomy a rests (refl, refl, items, refl) run) a (Some (Hist hist)) (alike a) (
      begun.stands name spec a asks lawful (ap (λ s. s.shape) run.segment) stands.0,
      stands.1,
      subst (λ (l : List KnownHist). NoneHasName l hist.asked.name.items) (sym items)
          (subst (NoneHasName old.known.items) (ap (λ n. n.items) (sym begun.named)) none),
    ) room tt)
begins_hist shape version name spec asked old new (Ok (Ended answered)) a asks lawful rests (new_is, known) run = subst (λ (r : ActorRun). IsActorRunOf shape version r a) (sym new_is) run
begins_hist shape version name spec asked old new (Err error) a asks lawful rests same run = as_it_stood shape version old new a rests same run

-- the next has another name, too
pub none_further : (list : List KnownHist) (name : List ℕ) (i : ℕ) (next : KnownHist)
    → ((j : ℕ) (known : KnownHist) → j < i → get_elem? list j ≡ some known → known.name.items ≢ name) → get_elem? list i ≡ some next → next.name.items ≢ name
    → (j : ℕ) (known : KnownHist) → j < i + 1 → get_elem? list j ≡ some known → known.name.items ≢ name
none_further list name i next before here other j known below at = dite (ℕ_discrete j i)
    (λ same. λ named. other (ap (λ (k : KnownHist). k.name.items) (some-injective next known (sym here ∙ (ap (get_elem? list) (sym same) ∙ at))) ∙ named))
    (λ apart. before j known (omega (arith, below, apart)) at)
