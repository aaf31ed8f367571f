-- A `delta` of an actor continues: what it is shown as, and what it returns.
use Rattle.segment_invariant.proofs.Prelude.Std.{◌≡◌, ◌⊎◌, inl, inr, ⊎_elim, ◌<◌, ◌≤◌, ◌+◌, ◌-◌, ℕ, zero, suc, ℤ, pos, arith, set, List, [], ◌∷◌, ◌++◌, length, map, take, refl, sym, ap, subst, ◌∙◌, vec_len, Option, Some, None, slice_set, vec_capacity, All, Contains, props, ∥∥₁_elim, append-nil, length_push, some, some-injective, some-ne-none, get_elem?}
use Rattle.segment_invariant.proofs.Prelude.Machine.{IsShape, Dimensions, Actor, is_opener, known_at, units_listed, State}
use Rattle.std.specs.Prelude.{option_to_list, slice_index_or}
use Rattle.std.specs.declared.alloc.Global.{Global}
use Rattle.std.specs.declared.vec.Vec.{Vec}
use Rattle.std.specs.List.Sorted.{IsStrictlySortedBy}
use Rattle.std.specs.Ordering.{int_cmp}
use Rattle.std.proofs.lemmas.List.{same_from_push, take-append-le, take_all}
use Rattle.std.proofs.lemmas.List.Sorted.{IsPermutation-insert, length_permutation}
use Rattle.segment_invariant.proofs.Lists.Elements.{all_at, all_from, contains_at}
use Rattle.segment_invariant.proofs.Lists.Maps.{contains_map}
use Rattle.segment_machine.specs.declared.actor.Known.{Known}
use Rattle.segment_machine.specs.declared.actor.Taken.{Taken as MachineTaken}
use Rattle.segment_machine.specs.Note.{TookSample}
use Rattle.segment_promises.specs.Values.{ListsValues}
use Rattle.segment_promises.proofs.ListedValues.{lists_nothing}
use Rattle.segment_promises.specs.Calls.{AreUnits}
use Rattle.hist_core.proofs.HistCall.Asking.{as_it_stood, runs_on}
use Rattle.hist_core.proofs.Parts.Alone.{alike}
use Rattle.hist_core.specs.declared.world_state.WorldState.{WorldState}
use Rattle.hist_core.specs.declared.call.Answer.TheVariants as answer
use Rattle.hist_core.specs.declared.call.Stepped.{Stepped}
use Rattle.hist_core.specs.declared.call.Stepped.TheVariants as stepped
use Rattle.hist_core.specs.declared.entry.Taken.{Taken}
use Rattle.hist_core.specs.declared.hist.KnownHist.{KnownHist}
use Rattle.hist_core.specs.declared.actor_run.Running.{Running}
use Rattle.hist_core.specs.declared.actor_run.Running.TheVariants.{SetCorrupt, Hist, Add, Delta, Snapshot, Batch}
use Rattle.hist_core.specs.declared.actor_run.ActorRun.{ActorRun}
use Rattle.hist_core.specs.declared.delta_call.DeltaStage.{DeltaStage}
use Rattle.hist_core.specs.declared.delta_call.DeltaStage.TheVariants.{LoadingSingle, TakingPacked, LoadingCounts, LoadingCount, Raising, Walking, LoadingSample, RaisingSample, LoadingSum, Swapping}
use Rattle.hist_core.specs.declared.delta_call.DeltaCall.{DeltaCall}
use Rattle.hist_core.specs.declared.delta_call.DeltaCallStep.{DeltaCallStep}
use Rattle.hist_core.specs.declared.delta_call.DeltaCallStep.TheVariants.{More, Took, Done}
use Rattle.hist_core.specs.Start.{Start}
use Rattle.hist_core.specs.declared.call.Begun.TheVariants.{Going}
use Rattle.hist_core.specs.WorldState.{BeginsFrom, DeltaBegins, IsReachable, IsReachedAs, TakesOf}
use Rattle.hist_core.specs.StepsBy.{StepsBy, IsFree, WalksInOrder}
use Rattle.hist_core.specs.Walk.{HasSetOut}
use Rattle.hist_core.proofs.Worlds.Landing.{Landing}
use Rattle.hist_core.specs.ActorRun.{Answers, AreDeltasShown, BeginsDelta, Becomes, HasRoomForStep, HasDraft, HasDraftRoom, HasRoomForHist, IsDeltaAnnounced, IsDeltaDraft, IsDrawing, IsKnown, IsLast, CountsNoEntries, IsActorRunOf, IsDeltaShown, IsSomeRun, IsTimely, IsTook, Serves, StandsIn, TakenGoes, apart_from_delta, begun_by, ended_by, ended_deltas, known_of, looked_by, pending_by}
use Rattle.hist_core.specs.DeltaCall.{HasBegun, DeltaHasEnded, IsFirstStage, IsSomeDeltaCall, IsDeltaCall, IsUnderWay, Lists, OpensWith, StandsAtStage, DeltaCallGives, DeltaCallSteps, FrameOfDelta, insert_by_key, place_of}
use Rattle.hist_core.proofs.Parts.Allocations.{goes_with}
use Rattle.hist_core.proofs.Parts.Deeds.{does_nothing}
use Rattle.hist_core.proofs.Worlds.Apart.{asks_not, adds_not, looks_not, batches_not, sets_not}
use Rattle.hist_core.proofs.Worlds.Beginnings.{IsPlaced, IsTurned}
use Rattle.hist_core.proofs.Worlds.WorldStates.{each_runs, is_there}
use Rattle.hist_core.proofs.Worlds.Free.{free_apart, free_turns}
use Rattle.hist_core.proofs.Worlds.Quiet.{begun_there, met_on, met_split}
use Rattle.hist_core.proofs.SnapshotCall.Viewing.{call_begins, call_begun}

-- ---- lists of what deltas took

pub last_there : {A : Type 0} (before : List A) (last : A) → get_elem? (before ++ last ∷ []) (length (before ++ last ∷ []) - 1) ≡ some last
last_there before last =
    let long : length (before ++ last ∷ []) - 1 ≡ length before = (let one = length_push before last in omega (arith, one)) in
    ap (get_elem? (before ++ last ∷ [])) long ∙ there before last
  where
    there : {A : Type 0} (before : List A) (last : A) → get_elem? (before ++ last ∷ []) (length before) ≡ some last
    there [] last = refl
    there (x ∷ before) last = there before last

-- the last one is what was put there
pub last_alone : (before : List Taken) (last other : Taken) → IsLast (before ++ last ∷ []) other → last ≡ other
last_alone before last other is = some-injective last other (sym (last_there before last) ∙ is)

-- another may be set in place of the last one
last_set : {A : Type 0} (l : List A) (n : ℕ) (x y : A) → length l ≡ n + 1 → get_elem? l n ≡ some x
    → (before : List A) × (l ≡ before ++ x ∷ []) × (set l n y ≡ before ++ y ∷ [])
last_set [] n x y long at = absurd (omega (arith, long))
last_set (z ∷ []) zero x y long at = ([], ap (λ w. w ∷ []) (some-injective z x at), refl)
last_set (z ∷ w ∷ l) zero x y long at = absurd (omega (arith, long))
last_set (z ∷ l) (suc n) x y long at =
    let rest = last_set l n x y (omega (arith, long)) at in (z ∷ rest.0, ap (λ m. z ∷ m) rest.1, ap (λ m. z ∷ m) rest.2)

pub last_set_at : {A : Type 0} (l : List A) (n i : ℕ) (x y : A) → n ≡ length l → i ≡ n - 1 → 0 < n → x ≡ slice_index_or l i x
    → (before : List A) × (l ≡ before ++ x ∷ []) × (slice_set l i y ≡ before ++ y ∷ [])
last_set_at l n i x y long last some_there read =
    last_set l i x y (omega (arith, long, last, some_there)) (is_there l n i x long (omega (arith, last, some_there)) read)

-- a list that has some has a last
pub last_split : {A : Type 0} (l : List A) → 0 < length l → (before : List A) × (last : A) × (l ≡ before ++ last ∷ [])
last_split [] some_there = absurd (omega (arith, some_there))
last_split (z ∷ []) some_there = ([], z, refl)
last_split (z ∷ w ∷ l) some_there = let rest = last_split (w ∷ l) (omega arith) in (z ∷ rest.0, rest.1, ap (λ m. z ∷ m) rest.2)

-- ---- what is shown

none_shown : (list : List MachineTaken) (last : MachineTaken) → AreDeltasShown [] (list ++ last ∷ []) → ⊥
none_shown [] last shown = shown
none_shown (x ∷ list) last shown = shown

shows_none : (list : List Taken) (last : Taken) → AreDeltasShown (list ++ last ∷ []) [] → ⊥
shows_none [] last shown = shown
shows_none (x ∷ list) last shown = shown

pub shown_more : (list : List Taken) (machine : List MachineTaken) (taken : Taken) (its : MachineTaken) → AreDeltasShown list machine → IsDeltaShown taken its
    → AreDeltasShown (list ++ taken ∷ []) (machine ++ its ∷ [])
shown_more [] [] taken its shown is = (is, tt)
shown_more [] (m ∷ machine) taken its shown is = absurd shown
shown_more (t ∷ list) [] taken its shown is = absurd shown
shown_more (t ∷ list) (m ∷ machine) taken its (first, rest) is = (first, shown_more list machine taken its rest is)

shown_less : (list : List Taken) (machine : List MachineTaken) (taken : Taken) (its : MachineTaken) → AreDeltasShown (list ++ taken ∷ []) (machine ++ its ∷ [])
    → AreDeltasShown list machine × IsDeltaShown taken its
shown_less [] [] taken its (is, rest) = (tt, is)
shown_less [] (m ∷ machine) taken its (is, rest) = absurd (none_shown machine its rest)
shown_less (t ∷ list) [] taken its (is, rest) = absurd (shows_none list taken rest)
shown_less (t ∷ list) (m ∷ machine) taken its (first, rest) = let less = shown_less list machine taken its rest in ((first, less.0), less.1)

-- what is shown ascends
shown_units : (list : List Taken) (machine : List MachineTaken) → AreDeltasShown list machine → (i : ℕ) (taken : Taken) → get_elem? list i ≡ some taken
    → AreUnits taken.counts.items
shown_units [] machine shown i taken at = absurd (some-ne-none taken (sym at))
shown_units (t ∷ list) [] shown i taken at = absurd shown
shown_units (t ∷ list) (m ∷ machine) (first, rest) zero taken at = subst (λ (x : Taken). AreUnits x.counts.items) (some-injective t taken at) first.units
shown_units (t ∷ list) (m ∷ machine) (first, rest) (suc i) taken at = shown_units list machine rest i taken at

pub taken_ascends : (world_state : WorldState) → ∥ IsReachable world_state ∥₁ → (i : ℕ) (r : ActorRun) → get_elem? world_state.actor_runs.items i ≡ some r
    → ∥ All (λ (taken : Taken). AreUnits taken.counts.items) r.taken.items ∥₁
taken_ascends world_state reached i r at = ∥∥₁_elim reached (hlevel props) (λ (start, state, reach).
    let run = each_runs start world_state state reach i r at in
    let a : Actor = run.0 in
    ∣ all_from (λ (taken : Taken). AreUnits taken.counts.items) r.taken.items (shown_units r.taken.items a.deltas.taken run.1.taken) ∣₁)

-- ---- it continues

-- once its first event has happened it is under way
way_of : (shape : Dimensions) (known : Known) (earlier : List MachineTaken) (delta_call : DeltaCall) (a : Actor) (stage : DeltaStage) → HasBegun stage
    → StandsAtStage shape known earlier delta_call a stage → IsUnderWay known earlier delta_call a
way_of shape known earlier delta_call a LoadingSingle begun stands = absurd begun
way_of shape known earlier delta_call a (TakingPacked bucket units) begun stands = stands.0
way_of shape known earlier delta_call a (LoadingCounts packed kept) begun stands = stands.0
way_of shape known earlier delta_call a (LoadingCount mounted bucket) begun stands = stands.0
way_of shape known earlier delta_call a (Raising mounted bucket total) begun stands = stands.0
way_of shape known earlier delta_call a (Walking walk) begun stands = ⊎_elim (λ first. absurd (subst HasSetOut first.0 begun)) (λ way. way.1) stands.0
way_of shape known earlier delta_call a (LoadingSample at value) begun stands = stands.0
way_of shape known earlier delta_call a (RaisingSample at value count) begun stands = stands.0
way_of shape known earlier delta_call a LoadingSum begun stands = stands.0
way_of shape known earlier delta_call a (Swapping sum) begun stands = stands.0

-- before that its actor's deltas took what they took
taken_first : (shape : Dimensions) (known : Known) (earlier : List MachineTaken) (delta_call : DeltaCall) (a : Actor) (stage : DeltaStage) → IsFirstStage stage
    → StandsAtStage shape known earlier delta_call a stage → a.deltas.taken ≡ earlier
taken_first shape known earlier delta_call a stage (inl is) stands = (subst (StandsAtStage shape known earlier delta_call a) is stands).1
taken_first shape known earlier delta_call a stage (inr is) stands =
    ⊎_elim (λ before. before.1.1) (λ way. absurd way.0) (subst (StandsAtStage shape known earlier delta_call a) is stands).0

pub some_delta_call : (n : ℕ) (actor_run : ActorRun) (delta_call : DeltaCall) (fresh : Option Taken) → actor_run.running ≡ Some (Delta delta_call fresh) → IsSomeRun n actor_run → IsSomeDeltaCall n delta_call
some_delta_call n actor_run delta_call fresh is (shape, version, a, long, wide, run) =
    let stands = subst (λ running. StandsIn shape actor_run.known.items (pending_by actor_run) running a) is run.stands in
    (shape, stands.1.0, stands.1.1, a, long, stands.1.2)

-- the last one after a first event lists what the call has taken
pub drafted : (actor_run : ActorRun) (delta_call : DeltaCall) (fresh : Option Taken) → HasDraft (Some (Delta delta_call fresh)) actor_run.taken → (before : List Taken) (last : Taken)
    → actor_run.taken.items ++ option_to_list fresh ≡ before ++ last ∷ [] → IsDeltaDraft delta_call last
drafted actor_run delta_call (Some fresh) (room, draft) before last same = subst (IsDeltaDraft delta_call) (same_from_push actor_run.taken.items before fresh last same).1 draft
drafted actor_run delta_call None (some_there, draft) before last same =
    draft last (subst (λ l. IsLast l last) (sym (sym (append-nil actor_run.taken.items) ∙ same)) (last_there before last))

pub some_draft : (n : ℕ) (actor_run : ActorRun) (delta_call : DeltaCall) (fresh : Option Taken) → actor_run.running ≡ Some (Delta delta_call fresh) → (before : List Taken) (last : Taken)
    → actor_run.taken.items ++ option_to_list fresh ≡ before ++ last ∷ [] → IsSomeRun n actor_run → IsDeltaDraft delta_call last
some_draft n actor_run delta_call fresh is before last same (shape, version, a, long, wide, run) =
    drafted actor_run delta_call fresh (subst (λ running. HasDraft running actor_run.taken) is run.draft) before last same

-- what it is shown as after a step of the call
draft_on : (delta_call now : DeltaCall) (said : DeltaCallStep) (last then_is : Taken) → IsDeltaDraft delta_call last → Lists delta_call now said
    → vec_capacity now.counts ≡ vec_capacity delta_call.counts → Becomes said last then_is → (then_is.name ≡ last.name) × (then_is.counts.items ≡ now.counts.items)
draft_on delta_call now More last then_is draft lists room same =
    (ap (λ (t : Taken). t.name) same, ap (λ (t : Taken). t.counts.items) same ∙ (draft.0 ∙ sym lists))
draft_on delta_call now (Took key units) last then_is draft lists room (same, listed, capacity) =
    (ap (λ (t : Taken). t.name) same, listed ∙ (ap (insert_by_key (key, units)) draft.0 ∙ sym lists))
draft_on delta_call now (Done sum) last then_is draft lists room same =
    (ap (λ (t : Taken). t.name) same, ap (λ (t : Taken). t.counts.items) same ∙ (draft.0 ∙ sym lists))

module _ (shape : Dimensions) (version : ℕ) (old : ActorRun) (a : Actor) (run : IsActorRunOf shape version old a) (delta_call now : DeltaCall) (fresh : Option Taken)
    (is : old.running ≡ Some (Delta delta_call fresh)) (words new_words : List ℕ) (long : length words ≡ shape.size) (begun : HasBegun now.stage)
    (room : vec_capacity now.counts ≡ vec_capacity delta_call.counts) (order : WalksInOrder a) where
  stands : IsDrawing shape (pending_by old) delta_call fresh a
  stands = subst (λ running. StandsIn shape old.known.items (pending_by old) running a) is run.stands

  has_draft : HasDraft (Some (Delta delta_call fresh)) old.taken
  has_draft = subst (λ running. HasDraft running old.taken) is run.draft

  abbrev known : Known
  known = stands.1.0

  abbrev earlier : List MachineTaken
  earlier = stands.1.1

  takes : IsDeltaCall shape known earlier delta_call a
  takes = stands.1.2

  one_version : delta_call.version ≡ version
  one_version = sym takes.version ∙ ap (λ s. s.version) run.segment

  -- what ended before it is shown, and it has its name
  named_so : (fresh : Option Taken) → IsTimely known delta_call fresh → (before : List Taken) (last : Taken)
      → old.taken.items ++ option_to_list fresh ≡ before ++ last ∷ [] → AreDeltasShown before earlier × (last.name.items ≡ known.name)
  named_so (Some t) (first, named) before last same =
      let parts = same_from_push old.taken.items before t last same in
      let begins = taken_first shape known earlier delta_call a delta_call.stage first takes.stands in (
        subst (λ (p : List Taken × List MachineTaken). AreDeltasShown p.0 p.1) (λ i. (parts.0 i, begins i)) run.taken,
        subst (λ (x : Taken). x.name.items ≡ known.name) parts.1 named,
      )
  named_so None begun_before before last same =
      let here : old.taken.items ≡ before ++ last ∷ [] = sym (append-nil old.taken.items) ∙ same in
      let way = way_of shape known earlier delta_call a delta_call.stage begun_before takes.stands in
      let both = shown_less before earlier last way.last (subst (λ (p : List Taken × List MachineTaken). AreDeltasShown p.0 p.1) (λ i. (here i, way.taken i)) run.taken) in
      (both.0, both.1.name ∙ way.name)

  module _ (b : Actor) (aside : FrameOfDelta a b) where
    still_quiet : CountsNoEntries (pending_by old) (apart_from_delta b)
    still_quiet = let quiet = stands.0 in record {
      none = quiet.none;
      runs = ap (λ e. e.running) aside.entries ∙ quiet.runs;
      holds = ap (λ u. u.held) aside.units ∙ quiet.holds;
      share = ap (λ u. u.share) aside.units ∙ quiet.share;
      takes = refl;
    }

    -- it continues, or has ended, and is there
    runs_so : (new : ActorRun) (running : Option Running) → new ≡ record old { taken = new.taken; running = running } → AreDeltasShown new.taken.items b.deltas.taken
        → StandsIn shape old.known.items (pending_by old) running b → HasDraft running new.taken → ((n m : ℕ) → HasRoomForHist running n m) → IsActorRunOf shape version new b
    runs_so new running new_is shown stands_there draft has_room = subst (λ (r : ActorRun). IsActorRunOf shape version r b) (sym new_is) (record {
      records = ap is_opener aside.role ∙ run.records;
      segment = aside.segment ∙ run.segment;
      first = ap (λ e. e.first) aside.entries ∙ run.first;
      within = run.within;
      ended = run.ended ∙ ap (λ e. map (λ c. c.entry) e.log) (sym aside.entries);
      begun = run.begun ∙ ap (λ e. map (λ c. c.entry) (e.log ++ e.running)) (sym aside.entries);
      taken = shown;
      names = run.names ∙ sym aside.names;
      lawful = run.lawful;
      once = run.once;
      met = met_on a b aside.names aside.chain run.met;
      stands = stands_there;
      room = has_room (vec_len old.known) (vec_capacity old.known);
      draft = draft;
    })

    module _ (new : ActorRun) (before : List Taken) (last then_is : Taken) (shown : old.taken.items ++ option_to_list fresh ≡ before ++ last ∷ [])
        (taken : new.taken.items ≡ before ++ then_is ∷ []) (name : then_is.name ≡ last.name) (counts : then_is.counts.items ≡ now.counts.items) where
      are_named : AreDeltasShown before earlier × (last.name.items ≡ known.name)
      are_named = named_so fresh stands.1.3 before last shown

      -- it is shown as the machine has it
      shows_it : (its : MachineTaken) → b.deltas.taken ≡ earlier ++ its ∷ [] → its.name ≡ known.name → ((key : ℤ) → units_listed now.counts.items key ≡ units_listed its.counts key) → AreUnits now.counts.items
          → then_is.sum ≡ its.sum → AreDeltasShown new.taken.items b.deltas.taken
      shows_it its deltas its_name its_counts units sum =
          subst (λ (p : List Taken × List MachineTaken). AreDeltasShown p.0 p.1) (λ i. (sym taken i, sym deltas i)) (shown_more before earlier then_is its are_named.0 (record {
            name = ap (λ n. n.items) name ∙ (are_named.1 ∙ sym its_name);
            sum = sum;
            counts = λ key. ap (λ (l : List (ℤ × ℕ)). units_listed l key) counts ∙ its_counts key;
            units = subst AreUnits (sym counts) units;
          }))

      goes_on : new ≡ record old { taken = new.taken; running = Some (Delta now None) } → IsDeltaCall shape known earlier now b
          → vec_capacity then_is.counts ≡ vec_capacity now.counts → then_is.sum ≡ pos 0 → IsActorRunOf shape version new b
      goes_on new_is its capacity sum =
          let way = way_of shape known earlier now b now.stage begun its.stands in
          let same_length : length new.taken.items ≡ length before + 1 = ap length taken ∙ length_push before then_is in
          let ok = new.taken.ok.0 in
          runs_so new (Some (Delta now None)) new_is (shows_it way.last way.taken way.name way.counts its.units (sum ∙ sym way.sum))
          (still_quiet, (known, earlier, its, begun)) (
            omega (arith, same_length, ok),
            λ other there. subst (IsDeltaDraft now) (last_alone before then_is other (subst (λ l. IsLast l other) taken there)) (counts, capacity, sum),
          )
          (λ n m. tt)

      -- it has ended
      ends : (sum : ℤ) → new ≡ record old { taken = new.taken; running = None } → IsFree b → DeltaHasEnded known earlier now sum b → then_is.sum ≡ sum
          → IsActorRunOf shape version new b
      ends sum new_is turns ended is_sum =
          let quiet = still_quiet in
          runs_so new None new_is (shows_it ended.last ended.taken ended.name ended.counts ended.units (is_sum ∙ sym ended.sum_is))
          (turns, record { none = quiet.none; runs = quiet.runs; holds = quiet.holds; share = quiet.share; takes = ended.taking }) tt (λ n m. tt)

    is_took : (sum : ℤ) → DeltaHasEnded known earlier now sum b → IsTook (looked_by old.running) (record { counts = now.counts; sum = sum }) b
    is_took sum ended = record {
      known = known;
      knows = subst (λ l. Contains l known) (sym aside.names) takes.knows;
      reference = takes.reference ∙ sym (ap looked_by is);
      before = earlier;
      last = ended.last;
      deltas = ended.taken;
      name = ended.name;
      counts = ended.counts;
      ascending = ended.units;
      sum = sym ended.sum_is;
      took = ended.all;
    }

  its_steps : (said : DeltaCallStep) → DeltaCallSteps delta_call words now new_words said → StepsBy shape.size version a words new_words (DeltaCallGives shape known earlier now said a)
  its_steps said steps = subst (λ (v : ℕ). StepsBy shape.size v a words new_words (DeltaCallGives shape known earlier now said a)) one_version (steps shape known earlier a long order takes)

  -- what the machine's actor does, and what that is at run time
  pub delta_goes : (said : DeltaCallStep) (new : ActorRun) (result : Stepped) → DeltaCallSteps delta_call words now new_words said → Lists delta_call now said
      → IsDeltaAnnounced now fresh (record old { running = Some (Delta now fresh) }) said new result → Landing shape version old words new new_words result a
  delta_goes More new result steps lists ((before, last, then_is, shown, taken, becomes), new_is, result_is) =
      let draft = drafted old delta_call fresh has_draft before last shown in
      let on = draft_on delta_call now More last then_is draft lists room becomes in
      subst (λ said. Landing shape version old words new new_words said a) (sym result_is) (goes_with (its_steps More steps) (λ b (aside, its). (
        goes_on b aside new before last then_is shown taken on.0 on.1 new_is its
            (ap (λ (t : Taken). vec_capacity t.counts) becomes ∙ (draft.1 ∙ sym room)) (ap (λ (t : Taken). t.sum) becomes ∙ draft.2),
        does_nothing (Serves old.running a) a b aside.done,
      )))
  delta_goes (Took key units) new result steps lists ((before, last, then_is, shown, taken, becomes), new_is, result_is) =
      let draft = drafted old delta_call fresh has_draft before last shown in
      let on = draft_on delta_call now (Took key units) last then_is draft lists room becomes in
      subst (λ said. Landing shape version old words new new_words said a) (sym result_is) (goes_with (its_steps (Took key units) steps) (λ b (aside, its). (
        goes_on b aside new before last then_is shown taken on.0 on.1 new_is its
            (becomes.2 ∙ (draft.1 ∙ sym room)) (ap (λ (t : Taken). t.sum) becomes.0 ∙ draft.2),
        does_nothing (Serves old.running a) a b aside.done,
      )))
  delta_goes (Done sum) new result steps lists ((before, last, then_is, shown, taken, becomes), new_is, result_is) =
      let draft = drafted old delta_call fresh has_draft before last shown in
      let on = draft_on delta_call now (Done sum) last then_is draft lists room becomes in
      subst (λ said. Landing shape version old words new new_words said a) (sym result_is) (goes_with (its_steps (Done sum) steps) (λ b (aside, turns, ended). (
        (
          ends b aside new before last then_is shown taken on.0 on.1 sum new_is turns ended (ap (λ (t : Taken). t.sum) becomes),
          is_took b aside sum ended,
        ),
        does_nothing (Serves old.running a) a b aside.done,
      )))

-- ---- there is room for what it says

longer_by_key : (one : ℤ × ℕ) (counts : List (ℤ × ℕ)) → length (insert_by_key one counts) ≡ length counts + 1
longer_by_key one counts =
    let moved = length_permutation (one ∷ counts) (insert_by_key one counts) (IsPermutation-insert counts (place_of one.0 counts) one) in omega (arith, moved)

-- what it took it listed, so there was room for it
fits : (delta_call now : DeltaCall) (said : DeltaCallStep) (last : Taken) → IsDeltaDraft delta_call last → Lists delta_call now said → vec_capacity now.counts ≡ vec_capacity delta_call.counts → HasRoomForStep said last
fits delta_call now More last draft lists room = tt
fits delta_call now (Took key units) last (counts, capacity, sum) lists room =
    let longer = ap length lists ∙ longer_by_key (key, units) delta_call.counts.items in
    let its = now.counts.ok in let last_ok = last.counts.ok in let same = ap length counts in
    omega (arith, longer, its, last_ok, same, capacity, room)
fits delta_call now (Done sum) last draft lists room = tt

-- what a running delta is shown as, of an actor that stands for some actor of the machine
draft_in : (n : ℕ) (r : ActorRun) (delta_call : DeltaCall) (fresh : Option Taken) → r.running ≡ Some (Delta delta_call fresh) → IsSomeRun n r → HasDraft (Some (Delta delta_call fresh)) r.taken
draft_in n r delta_call fresh is (shape, version, a, long, wide, run) = subst (λ running. HasDraft running r.taken) is run.draft

pub has_place : (n : ℕ) (r : ActorRun) (delta_call now : DeltaCall) (said : DeltaCallStep) → Lists delta_call now said → vec_capacity now.counts ≡ vec_capacity delta_call.counts
    → ∥ IsSomeRun n r ∥₁ → (fresh : Option Taken) → r.running ≡ Some (Delta delta_call fresh) → HasDraftRoom said (Some (Delta now fresh)) r.taken
has_place n r delta_call now said lists room some_run (Some t) is = (
  ∥∥₁_elim some_run (hlevel props) (λ its. (draft_in n r delta_call (Some t) is its).0),
  fits delta_call now said t (∥∥₁_elim some_run (hlevel props) (λ its. (draft_in n r delta_call (Some t) is its).1)) lists room,
)
has_place n r delta_call now said lists room some_run None is = (
  ∥∥₁_elim some_run (hlevel props) (λ its. (draft_in n r delta_call None is its).0),
  λ last there. fits delta_call now said last (∥∥₁_elim some_run (hlevel props) (λ its. (draft_in n r delta_call None is its).1 last there)) lists room,
)

-- so its call is a delta
pub placed : (said : DeltaCallStep) (running : Option Running) (taken : Vec Taken Global) → HasDraftRoom said running taken
    → (delta_call : DeltaCall) × (fresh : Option Taken) × (running ≡ Some (Delta delta_call fresh))
placed said (Some (Delta delta_call fresh)) taken place = (delta_call, fresh, refl)
placed said (Some SetCorrupt) taken place = absurd place
placed said (Some (Hist hist)) taken place = absurd place
placed said (Some (Add add)) taken place = absurd place
placed said (Some (Snapshot snapshot_call)) taken place = absurd place
placed said (Some (Batch batch)) taken place = absurd place
placed said None taken place = absurd place

-- and once that is shown, there is room in the last one
pub last_fits : (said : DeltaCallStep) (delta_call : DeltaCall) (fresh : Option Taken) (taken : Vec Taken Global) (shown : List Taken)
    → HasDraftRoom said (Some (Delta delta_call fresh)) taken → shown ≡ taken.items ++ option_to_list fresh → (0 < length shown) × ((last : Taken) → IsLast shown last → HasRoomForStep said last)
last_fits said delta_call (Some t) taken shown (near, fit) is = (
  (let long = ap length is ∙ length_push taken.items t in omega (arith, long)),
  λ last there. subst (HasRoomForStep said) (last_alone taken.items t last (subst (λ l. IsLast l last) is there)) fit,
)
last_fits said delta_call None taken shown (some_there, fit) is =
    let same : shown ≡ taken.items = is ∙ append-nil taken.items in (
      (let long = ap length same in let ok = taken.ok in omega (arith, long, ok, some_there)),
      λ last there. fit last (subst (λ l. IsLast l last) same there),
    )

-- ---- what is returned

abbrev pub taken_by : DeltaCall → Option Running → DeltaCall
taken_by d (Some (Delta delta_call fresh)) = delta_call
taken_by d running = d

-- what ended before it
ended_before : (list : List Taken) (delta_call : DeltaCall) (fresh : Option Taken) (before : List Taken) (last : Taken) → list ++ option_to_list fresh ≡ before ++ last ∷ []
    → before ≡ ended_deltas (Some (Delta delta_call fresh)) list
ended_before list delta_call (Some t) before last same = sym (same_from_push list before t last same).0
ended_before list delta_call None before last same =
    let here : before ++ last ∷ [] ≡ list = sym (sym (append-nil list) ∙ same) in
    let count : length (before ++ last ∷ []) - 1 ≡ length before = (let one = length_push before last in omega (arith, one)) in
    sym (ap (λ (l : List Taken). take (length l - 1) l) (sym here)
    ∙ (ap (λ n. take n (before ++ last ∷ [])) count ∙ (take-append-le (length before) before (last ∷ []) (omega arith) ∙ take_all (length before) before (omega arith))))

module _ (old : ActorRun) (delta_call now : DeltaCall) (fresh : Option Taken) (is : old.running ≡ Some (Delta delta_call fresh)) (same : now.histogram ≡ delta_call.histogram)
    (words new_words : List ℕ) (all : length old.entries.items ≡ old.ended) (unbegun : old.begun ≡ old.ended)
    (drafts : (before : List Taken) (last : Taken) → old.taken.items ++ option_to_list fresh ≡ before ++ last ∷ [] → IsDeltaDraft delta_call last) where
  -- it continues
  goes_answered : (new : ActorRun) (last : Taken) (before : List Taken) → new ≡ record old { taken = new.taken; running = Some (Delta now None) }
      → new.taken.items ≡ before ++ last ∷ [] → before ≡ ended_deltas (Some (Delta delta_call fresh)) old.taken.items → last.sum ≡ pos 0
      → (last.counts.items ≡ delta_call.counts.items) ⊎ ((one : ℤ × ℕ) × (last.counts.items ≡ insert_by_key one delta_call.counts.items)) → Answers old words new new_words stepped.More
  goes_answered new last before new_is taken ended sum units = (
    (
      ap (λ (r : ActorRun). r.known.items) new_is,
      (λ asked is_asked. absurd (subst asks_not (sym is ∙ is_asked) tt)),
      (λ add is_add. absurd (subst adds_not (sym is ∙ is_add) tt)),
      (λ snapshot_call is_snapshot_call. absurd (subst looks_not (sym is ∙ is_snapshot_call) tt)),
      (λ other its is_other. (now, ap (λ (r : ActorRun). r.running) new_is, same ∙ ap (λ (x : DeltaCall). x.histogram) (ap (taken_by delta_call) (sym is ∙ is_other)))),
      (λ batch is_batch. absurd (subst batches_not (sym is ∙ is_batch) tt)),
      (λ sets. absurd (subst sets_not (sym is ∙ sets) tt)),
    ),
    (ap ended_by new_is, ap begun_by new_is ∙ begun_there old all unbegun, ap pending_by new_is),
    subst (λ running. TakenGoes running old.taken.items new.taken.items stepped.More) (sym is)
        (last, taken ∙ ap (λ l. l ++ last ∷ []) ended, (sum, units)),
  )

  pub delta_answers : (said : DeltaCallStep) (new : ActorRun) (result : Stepped) → Lists delta_call now said
      → IsDeltaAnnounced now fresh (record old { running = Some (Delta now fresh) }) said new result → Answers old words new new_words result
  delta_answers More new result lists ((before, last, then_is, shown, taken, becomes), new_is, result_is) =
      let draft = drafts before last shown in
      subst (Answers old words new new_words) (sym result_is) (goes_answered new then_is before new_is taken (ended_before old.taken.items delta_call fresh before last shown)
      (ap (λ (t : Taken). t.sum) becomes ∙ draft.2)
      (inl (ap (λ (t : Taken). t.counts.items) becomes ∙ draft.0)))
  delta_answers (Took key units) new result lists ((before, last, then_is, shown, taken, becomes), new_is, result_is) =
      let draft = drafts before last shown in
      subst (Answers old words new new_words) (sym result_is) (goes_answered new then_is before new_is taken (ended_before old.taken.items delta_call fresh before last shown)
      (ap (λ (t : Taken). t.sum) becomes.0 ∙ draft.2)
      (inr ((key, units), becomes.1 ∙ ap (insert_by_key (key, units)) draft.0)))
  delta_answers (Done sum) new result lists ((before, last, then_is, shown, taken, becomes), new_is, result_is) =
      let draft = drafts before last shown in
      subst (Answers old words new new_words) (sym result_is) (
        ((delta_call, fresh, is), ap (λ (r : ActorRun). r.running) new_is, ap (λ (r : ActorRun). r.known.items) new_is),
        (ap ended_by new_is, ap begun_by new_is ∙ (ap (λ n. take n old.entries.items) unbegun ∙ sym (ap ended_by new_is))),
        subst (λ running. TakenGoes running old.taken.items new.taken.items (stepped.Done (answer.Delta (record { counts = now.counts; sum = sum })))) (sym is) (
          then_is,
          taken ∙ ap (λ l. l ++ then_is ∷ []) (ended_before old.taken.items delta_call fresh before last shown),
          (ap (λ (t : Taken). t.counts.items) becomes ∙ (draft.0 ∙ sym lists), ap (λ (t : Taken). t.sum) becomes),
        ),
      )

-- ---- it begins

no_keys : IsStrictlySortedBy int_cmp []
unfolding IsStrictlySortedBy
no_keys = tt

no_units : AreUnits []
no_units = record { ascending = no_keys; some = λ k d below. absurd (omega (arith, below)) }

-- so it is before its first event
opens_first : (shape : Dimensions) (known : Known) (delta_call : DeltaCall) (stage : DeltaStage) → OpensWith shape known delta_call stage → IsFirstStage stage
opens_first _ _ _ stage (inl opens) = inl opens.0
opens_first _ _ _ stage (inr opens) = inr opens.0

-- an actor that rests begins it, which is not an event
module _ (shape : Dimensions) (version : ℕ) (known : KnownHist) (old new : ActorRun) (starts : BeginsDelta shape version known old new) (i : ℕ)
    (at : get_elem? old.known.items i ≡ some known) (rests : old.running ≡ None) where
  module _ (a : Actor) (run : IsActorRunOf shape version old a) (lawful : IsShape shape) (alone : known_at a.answers.names known.reference ≡ Some (known_of known)) where
    stood : IsFree a × CountsNoEntries (pending_by old) a
    stood = subst (λ running. StandsIn shape old.known.items (pending_by old) running a) rests run.stands

    its_known : IsKnown shape known
    its_known = all_at (IsKnown shape) old.known.items i known run.lawful at

    abbrev delta_call : DeltaCall
    delta_call = starts.delta_call

    knows : Contains a.answers.names (known_of known)
    knows = subst (λ (l : List Known). Contains l (known_of known)) run.names (contains_map known_of old.known.items known (contains_at old.known.items i known at))

    -- of a histogram with buckets it is before the single word, of a sparse one at the record
    stands_first : (stage : DeltaStage) → OpensWith shape (known_of known) delta_call stage → StandsAtStage shape (known_of known) a.deltas.taken delta_call a stage
    stands_first stage (inl (is, has)) = subst (StandsAtStage shape (known_of known) a.deltas.taken delta_call a) (sym is) (stood.1.takes, refl, starts.started.none, has)
    stands_first stage (inr (is, sparse, room)) = subst (StandsAtStage shape (known_of known) a.deltas.taken delta_call a) (sym is) (
      inl (refl, (stood.1.takes, refl, starts.started.none)),
      (
        record { sparse = sparse; apart = free_apart a.hand.place stood.0; met = met_split a.seen.chain known.reference (run.met (known_of known) knows) },
        λ b. subst (λ (l : List (ℤ × ℕ)). ListsValues (λ value sample. TookSample b sample) (λ sample units. 1 ≤ units) known.reference [] l b.seen)
            (sym starts.started.none) (lists_nothing (λ value sample. TookSample b sample) (λ sample units. 1 ≤ units) known.reference b.seen),
      ),
      room,
    )

    begins_taking : IsDeltaCall shape (known_of known) a.deltas.taken delta_call a
    begins_taking = record {
      segment = ap (λ s. s.shape) run.segment;
      version = ap (λ s. s.version) run.segment ∙ sym starts.started.versioned;
      lawful_shape = lawful;
      recorder = run.records;
      counts_nothing = stood.1.runs;
      turns = free_turns a.hand.place stood.0;
      reference = sym starts.started.reference;
      within = subst (λ n. n + 15 ≤ shape.size) (sym starts.started.reference) its_known.within;
      lawful = its_known.lawful;
      ranges = starts.started.ranges;
      knows = knows;
      alone = alone;
      units = subst AreUnits (sym starts.started.none) no_units;
      stands = stands_first delta_call.stage starts.started.opens;
    }

    quiet : CountsNoEntries (pending_by old) (apart_from_delta a)
    quiet = let q = stood.1 in record { none = q.none; runs = q.runs; holds = q.holds; share = q.share; takes = refl }

    pub begins_with : IsActorRunOf shape version new a
    begins_with = subst (λ (r : ActorRun). IsActorRunOf shape version r a) (sym starts.is)
        (runs_on shape version roomy a (as_it_stood shape version old roomy a rests (refl, refl, refl, starts.taken) run) a (Some (Delta delta_call (Some starts.fresh))) (alike a)
        (quiet, (known_of known, a.deltas.taken, begins_taking, (opens_first shape (known_of known) delta_call delta_call.stage starts.started.opens, starts.named)))
        tt (starts.room, starts.draft))
      where
        roomy : ActorRun
        roomy = record old { taken = new.taken }

-- on a `WorldState`
module _ (old new : WorldState) (actor : ℕ) (name : List ℕ) (place : ℕ) (r now : ActorRun) (its : IsPlaced old actor name place r) (turned : IsTurned old new actor now)
    (starts : BeginsDelta old.shape old.version its.known r now) (pooled : new.units ≡ old.units) where
  pub delta_begins : (start : Start) (state : State) → IsReachedAs start old state → BeginsFrom start state actor new
  delta_begins = call_begins old new actor name place r now its turned pooled (begins_with old.shape old.version its.known r now starts place its.there its.resting.rests)

  pub delta_begun : DeltaBegins actor name old new Going
  delta_begun = call_begun old new actor name place r now its turned pooled TakesOf (ap (λ (x : ActorRun). x.known.items) starts.is) starts.taken
      (subst (TakesOf (its.known).reference) (sym (ap (λ (x : ActorRun). x.running) starts.is)) starts.started.reference)
