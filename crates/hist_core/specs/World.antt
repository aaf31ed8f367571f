-- What a world shows, and why it does not make a move.
use Rattle.std.specs.List.{list_any}
use Rattle.std.specs.Str.{bytes_eq}
use Rattle.hist_core.specs.declared.hist.KnownHist.{KnownHist}
use Rattle.std.specs.Prelude.{◌≡◌, Bool, false, not, ◌&&◌, ◌||◌, ◌==◌, nat_lt, nat_le, ℕ, List, [], ◌∷◌, vec_len, is_some, slice_set, Result, Ok, Err, IfErr, IfOk, OnErr, OnOk, MatchOption, ⊤}
use mathlib.Core.Option.{Option, some, none}
use lib.ListN.{get_elem?}
use Rattle.segment_image.specs.Checks.{first_fault}
use Rattle.segment_image.specs.Shape.{is_page, is_size}
use Rattle.segment_machine.specs.State.{State}
use Rattle.hist_core.specs.declared.entry.Entry.{Entry}
use Rattle.hist_core.specs.declared.entry.Taken.{Taken}
use Rattle.hist_core.specs.declared.fault.WorldFault.{WorldFault}
use Rattle.hist_core.specs.declared.fault.WorldFault.TheVariants.{BadShape, NoActor, Busy, Idle, Unknown, NoMemory, Adopt}
use Rattle.image_adoption.specs.Checking.{IsFaultOf}
use Rattle.segment_calls.specs.declared.adopt_fault.AdoptFault.TheVariants as adopt
use Rattle.hist_core.specs.declared.actor_run.ActorRun.{ActorRun}
use Rattle.hist_core.specs.declared.world_state.WorldState.{WorldState}
use Rattle.hist_core.specs.ActorRun.{ended_by, begun_by}
use Rattle.hist_core.specs.Start.{Start}
use Rattle.hist_core.specs.WorldState.{IsAsBefore, IsReachedAs, BeginsFrom, HoldsNoPointer, OthersStay, HistBegins, AddBegins, DeltaBegins, SnapshotBegins, BatchBegins, SetCorruptBegins}
use Rattle.hist_core.specs.declared.call.Begun.{Begun}
use Rattle.segment_calls.specs.declared.call.Call.{Call}
use Rattle.segment_calls.specs.declared.call.Call.TheVariants.{Hist, Add, Delta, Snapshot, Batch, SetCorrupt}

-- ---- what it shows of an actor, if that is there

-- a list that is shown of an actor; none is shown if there is no such actor
abbrev pub of_actor : {X : Type 0} → (ActorRun → List X) → Option ActorRun → List X
of_actor shown none = []
of_actor shown (some actor_run) = shown actor_run

-- the entries of the ended calls of an actor
abbrev pub ended_of : WorldState → ℕ → List Entry
ended_of world_state actor = of_actor ended_by (get_elem? world_state.actor_runs.items actor)

-- the entries of an actor that have begun: of its ended calls, and of the running one from its first event on
abbrev pub begun_of : WorldState → ℕ → List Entry
begun_of world_state actor = of_actor begun_by (get_elem? world_state.actor_runs.items actor)

-- what the deltas of an actor took
abbrev pub taken_of : WorldState → ℕ → List Taken
taken_of world_state actor = of_actor (λ actor_run. actor_run.taken.items) (get_elem? world_state.actor_runs.items actor)

-- ---- what can be wrong

-- what can be wrong with a new world: its page, its size, the number of its actors, its version
abbrev pub world_checks : ℕ → ℕ → ℕ → ℕ → List (Bool × WorldFault)
world_checks size page actors version =
    (not (is_page page), BadShape)
    ∷ (not (is_size size page), BadShape)
    ∷ ((actors == 0) || nat_lt 64 actors, BadShape)
    ∷ (not (version == 1) && not (version == 2), BadShape)
    ∷ []

-- what can be wrong with a world that continues from an image, before the image is checked: the number of its actors
abbrev pub actor_checks : ℕ → List (Bool × WorldFault)
actor_checks actors = ((actors == 0) || nat_lt 64 actors, BadShape) ∷ []

-- Why an image is not continued: the first fault of it that holds, or there was no memory.
abbrev pub IsAdoptFault : List ℕ → WorldFault → Type 0
IsAdoptFault words NoMemory = ⊤
IsAdoptFault words (Adopt adopt.NoMemory) = ⊥
IsAdoptFault words (Adopt fault) = IsFaultOf words 0 fault
IsAdoptFault words fault = ⊥

-- an actor that is there runs a call
abbrev pub runs : Option ActorRun → Bool
runs none = false
runs (some actor_run) = is_some actor_run.running

-- an actor that is there runs no call
abbrev pub rests : Option ActorRun → Bool
rests none = false
rests (some actor_run) = not (is_some actor_run.running)

-- the name of the histogram that a call is of, if its actor has to know that
abbrev pub named_by : Call → Option (List ℕ)
named_by (Add name value count) = some name.items
named_by (Delta name) = some name.items
named_by (Snapshot name) = some name.items
named_by (Batch name items sum) = some name.items
named_by (Hist name spec) = none
named_by SetCorrupt = none

-- none of these known histograms has that name; false if no name is given
abbrev pub lacks_name : List KnownHist → Option (List ℕ) → Bool
lacks_name list none = false
lacks_name list (some name) = not (list_any (λ known. bytes_eq known.name.items name) list)

-- an actor that is there knows no histogram of that name; false if there is no such actor, or if no name is given
abbrev pub lacks : Option ActorRun → Option (List ℕ) → Bool
lacks none name = false
lacks (some actor_run) name = lacks_name actor_run.known.items name

-- what can be wrong with the begin of any call: there is no such actor, or a call of it is running
abbrev pub rest_checks : WorldState → ℕ → List (Bool × WorldFault)
rest_checks world_state actor = (nat_le (vec_len world_state.actor_runs) actor, NoActor) ∷ (runs (get_elem? world_state.actor_runs.items actor), Busy) ∷ []

-- what can be wrong with the begin of a call of the histogram of a name, or of none: there is no such actor, a call of it is running, or it
-- does not know that histogram
abbrev pub name_checks : WorldState → ℕ → Option (List ℕ) → List (Bool × WorldFault)
name_checks world_state actor name =
    (nat_le (vec_len world_state.actor_runs) actor, NoActor)
    ∷ (runs (get_elem? world_state.actor_runs.items actor), Busy)
    ∷ (lacks (get_elem? world_state.actor_runs.items actor) name, Unknown)
    ∷ []

-- what can be wrong with the begin of a call
abbrev pub begin_checks : WorldState → ℕ → Call → List (Bool × WorldFault)
begin_checks world_state actor call = name_checks world_state actor (named_by call)

-- what can be wrong with a step: there is no such actor, or it runs no call
abbrev pub step_checks : WorldState → ℕ → List (Bool × WorldFault)
step_checks world_state actor = (nat_le (vec_len world_state.actor_runs) actor, NoActor) ∷ (rests (get_elem? world_state.actor_runs.items actor), Idle) ∷ []

-- ---- the begin of a call

-- a call whose begin takes memory, which can run out
abbrev pub TakesMemory : Call → Type 0
TakesMemory (Hist name spec) = ⊤
TakesMemory (Add name value count) = ⊤
TakesMemory (Delta name) = ⊤
TakesMemory (Snapshot name) = ⊤
TakesMemory (Batch name items sum) = ⊤
TakesMemory call = ⊥

-- what the begin of a call says: it runs, or it returns at once
abbrev pub BeginSays : ℕ → Call → WorldState → WorldState → Begun → Type 0
BeginSays actor (Hist name spec) old new said = HistBegins actor name.items spec old new (Ok said)
BeginSays actor (Add name value count) old new said = AddBegins actor name.items value count old new said
BeginSays actor (Delta name) old new said = DeltaBegins actor name.items old new said
BeginSays actor (Snapshot name) old new said = SnapshotBegins actor name.items old new said
BeginSays actor (Batch name items sum) old new said = BatchBegins actor name.items items.items sum old new said
BeginSays actor SetCorrupt old new said = SetCorruptBegins actor new said

-- What the begin of a call of the histogram of a name, or of none, leads to. Its fault is that of the first check, or there was no memory
-- if it takes some; then all is unchanged. It takes its units from the pool, and changes no word and no other actor. Its actor held no free
-- pointer. If it succeeds, `says` holds of what it says.
pub record BeginsCall (actor : ℕ) (name : Option (List ℕ)) (takes : Type 0) (says : Begun → Type 0) (old : WorldState) (result : Result Begun WorldFault)
    (new : WorldState) : Type 0 where
  pub faults : MatchOption (first_fault (name_checks old actor name)) (IfErr result (λ fault. (fault ≡ NoMemory) × takes)) (λ fault. result ≡ Err fault)
  pub fault : OnErr result (IsAsBefore old new)
  pub begins : (start : Start) (state : State) → IsReachedAs start old state → BeginsFrom start state actor new
  pub others : OthersStay actor old new
  pub loads : OnOk result (HoldsNoPointer actor old)
  pub answer : IfOk result says

-- ---- a step

-- at most one word has changed
abbrev pub ChangesOneWord : List ℕ → List ℕ → Type 0
ChangesOneWord old new = (at word : ℕ) × (new ≡ slice_set old at word)
