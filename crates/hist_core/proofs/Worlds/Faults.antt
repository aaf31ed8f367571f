-- The faults of a world's calls, and the calls that are running.
use Rattle.segment_invariant.proofs.Prelude.Std.{◌≡◌, ◌≤◌, arith, zero, suc, List, [], ◌∷◌, ◌||◌, Bool, true, false, true≢false, refl, sym, subst, ℕ, ap, ◌∙◌, Option, Some, None, not, nat_le, vec_len, Ok, if◌then◌else◌, some, none, some-injective, some-ne-none, get_elem?, bytes_eq, bytes_eq-Decides}
use Rattle.segment_invariant.proofs.Prelude.Machine.{first_fault}
use Rattle.std.specs.Prelude.{IsSome, is_some, MatchOption, Result, Err, IfErr, IsErr, IsOk, is_ok}
use Rattle.std.proofs.lemmas.Bool.{lt-leb}
use Rattle.hist_core.specs.declared.fault.WorldFault.{WorldFault}
use Rattle.hist_core.specs.declared.fault.WorldFault.TheVariants.{NoActor, Busy, Unknown}
use Rattle.hist_core.specs.declared.actor_run.Running.{Running}
use Rattle.hist_core.specs.declared.actor_run.ActorRun.{ActorRun}
use Rattle.hist_core.specs.declared.world_state.WorldState.{WorldState}
use Rattle.hist_core.specs.WorldState.{IsBusy, IsResting}
use Rattle.hist_core.specs.World.{runs, rests, lacks, lacks_name, name_checks, of_actor}
use Rattle.hist_core.proofs.HistCall.Asking.{place_below}
use Rattle.hist_core.specs.ActorRun.{IsKnownAt, NoneHasName}
use Rattle.hist_core.specs.declared.hist.KnownHist.{KnownHist}
use Rattle.std.specs.List.{list_any}
use mathlib.Core.Option as maybe

-- the first or the second of two checks fails, or none does
module _ (a b : Bool) (first second : WorldFault) (fine : Type 0) (faulty : WorldFault → Type 0) where
  pub first_fails : a ≡ true → faulty first → MatchOption (if a then Some first else (if b then Some second else None)) fine faulty
  first_fails fails holds = rw fails holds

  pub second_fails : a ≡ false → b ≡ true → faulty second → MatchOption (if a then Some first else (if b then Some second else None)) fine faulty
  second_fails passes fails holds = rw (passes, fails) holds

  pub none_fails : a ≡ false → b ≡ false → fine → MatchOption (if a then Some first else (if b then Some second else None)) fine faulty
  none_fails passes last holds = rw (passes, last) holds

-- ---- a name that an actor knows, or not

any_at : (list : List KnownHist) (i : ℕ) (known : KnownHist) (name : List ℕ) → get_elem? list i ≡ some known → known.name.items ≡ name → lacks_name list (some name) ≡ false
any_at [] i known name at named = absurd (some-ne-none known (sym at))
any_at (first ∷ rest) zero known name at named =
    ap (λ b. not (b || list_any (λ k. bytes_eq k.name.items name) rest))
    ((bytes_eq-Decides first.name.items name).1 (ap (λ (k : KnownHist). k.name.items) (some-injective first known at) ∙ named))
any_at (first ∷ rest) (suc i) known name at named = either (bytes_eq first.name.items name) (any_at rest i known name at named)
  where
    either : (b : Bool) → not (list_any (λ k. bytes_eq k.name.items name) rest) ≡ false → not (b || list_any (λ k. bytes_eq k.name.items name) rest) ≡ false
    either true later = refl
    either false later = later

no_such : (list : List KnownHist) (name : List ℕ) → NoneHasName list name → lacks_name list (some name) ≡ true
no_such [] name lacking = refl
no_such (first ∷ rest) name lacking =
    either (bytes_eq first.name.items name) (λ same. lacking 0 first refl ((bytes_eq-Decides first.name.items name).0 same)) (no_such rest name (λ i known at. lacking (suc i) known at))
  where
    either : (b : Bool) → (b ≡ true → ⊥) → not (list_any (λ k. bytes_eq k.name.items name) rest) ≡ true → not (b || list_any (λ k. bytes_eq k.name.items name) rest) ≡ true
    either true other later = absurd (other refl)
    either false other later = later

-- an actor that rests knows the histogram of a name, or not
module _ (world_state : WorldState) (i : ℕ) (name : List ℕ) (r : ActorRun) (resting : IsResting world_state i r) where
  abbrev checks : Bool → Option WorldFault
  checks last = if nat_le (vec_len world_state.actor_runs) i then Some NoActor else (if runs (get_elem? world_state.actor_runs.items i) then Some Busy else (if last then Some Unknown else None))

  third : (last : Bool) → lacks_name r.known.items (some name) ≡ last → first_fault (name_checks world_state i (some name)) ≡ (if last then Some Unknown else None)
  third last is = ap (λ (o : maybe.Option ActorRun). checks (lacks o (some name))) resting.at ∙ ap checks is
      ∙ rw (lt-leb (vec_len world_state.actor_runs) i resting.near, ap runs resting.at ∙ ap is_some resting.rests) refl

  pub knows_it : (place : ℕ) → IsKnownAt r.known.items place name → first_fault (name_checks world_state i (some name)) ≡ None
  knows_it place (known, at, named) = third false (any_at r.known.items place known name at named)

  pub lacks_it : NoneHasName r.known.items name → first_fault (name_checks world_state i (some name)) ≡ Some Unknown
  lacks_it lacking = third true (no_such r.known.items name lacking)

-- ---- a result

-- a fault that it can be alone, it is
pub err_is : {A E : Type 0} (result : Result A E) (e : E) → IsErr result → IfErr result (λ f. f ≡ e) → result ≡ Err e
err_is (Ok x) e is same = absurd (true≢false (sym is))
err_is (Err f) e is same = ap Err same

module _ {A : Type 0} (first : Option WorldFault) (result : Result A WorldFault) where
  -- it returns the fault of the first check that holds
  pub tells_fault : (fault : WorldFault) → first ≡ Some fault → result ≡ Err fault → MatchOption first (IsOk result) (λ why. result ≡ Err why)
  tells_fault fault is told = subst (λ o. MatchOption o (IsOk result) (λ why. result ≡ Err why)) (sym is) told

  -- or is fine
  pub tells_none : first ≡ None → IsOk result → MatchOption first (IsOk result) (λ why. result ≡ Err why)
  tells_none is fine = subst (λ o. MatchOption o (IsOk result) (λ why. result ≡ Err why)) (sym is) fine

-- the fault that it returns is that of the first check that holds
pub the_fault : {A : Type 0} (first : Option WorldFault) (result : Result A WorldFault) (fault : WorldFault) → result ≡ Err fault
    → MatchOption first (IsOk result) (λ why. result ≡ Err why) → first ≡ Some fault
the_fault None result fault is fine = absurd (true≢false (sym fine ∙ ap is_ok is))
the_fault (Some why) result fault is told = cc

-- what runs nothing
pub none_runs : (running : Option Running) → is_some running ≡ false → running ≡ None
none_runs (Some running) is = absurd (true≢false is)
none_runs None is = refl

-- if one of two checks holds, the first that holds is still the first with another check after them
pub first_still : (a b c : Bool) (fault : WorldFault) → (if a then Some NoActor else (if b then Some Busy else None)) ≡ Some fault
    → (if a then Some NoActor else (if b then Some Busy else (if c then Some Unknown else None))) ≡ Some fault
first_still true b c fault is = is
first_still false true c fault is = is
first_still false false c fault is = absurd (cc is)

module _ (world_state : WorldState) (i : ℕ) (r : ActorRun) (at : get_elem? world_state.actor_runs.items i ≡ some r) where
  -- whether it runs none
  pub rests_as : (b : Bool) → is_some r.running ≡ not b → rests (get_elem? world_state.actor_runs.items i) ≡ b
  rests_as b is = ap rests at ∙ ap not is ∙ twice b
    where
      twice : (c : Bool) → not (not c) ≡ c
      twice true = refl
      twice false = refl

  pub is_busy : is_some r.running ≡ true → IsBusy world_state i
  is_busy runs = λ actor_run is. subst (λ (x : ActorRun). IsSome x.running) (some-injective r actor_run (sym at ∙ is)) runs

-- an actor that is not there shows nothing
pub shows_nothing : {X : Type 0} (shown : ActorRun → List X) (world_state : WorldState) (i : ℕ) → vec_len world_state.actor_runs ≤ i
    → [] ≡ of_actor shown (get_elem? world_state.actor_runs.items i)
shows_nothing shown world_state i beyond = by (get_elem? world_state.actor_runs.items i) refl
  where
    by : (found : maybe.Option ActorRun) → get_elem? world_state.actor_runs.items i ≡ found → [] ≡ of_actor shown found
    by none at = refl
    by (some r) at = absurd (let below = place_below world_state.actor_runs.items i r at in let long = world_state.actor_runs.ok.0 in omega (arith, below, beyond, long))
