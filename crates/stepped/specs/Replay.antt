-- A schedule as it is replayed: the moves that its records make, and what is shown of them.
use Rattle.std.specs.Prelude.{◌≡◌, ◌≢◌, ◌⊎◌, ◌<◌, ◌≤◌, ◌+◌, ℕ, zero, suc, List, [], ◌∷◌, ◌++◌, ◌==◌, if◌then◌else◌, map, length, slice_index, slice_set, Option, Some, None}
use Rattle.hist_core.specs.declared.world_state.WorldState.{WorldState}
use Rattle.hist_core.specs.declared.call.Answer.{Answer}
use Rattle.segment_calls.specs.declared.call.Call.{Call}
use Rattle.hist_core.specs.declared.call.Begun.{Begun}
use Rattle.hist_core.specs.declared.call.Begun.TheVariants.{Going, Ended}
use Rattle.hist_core.specs.declared.call.Move.{Move}
use Rattle.hist_core.specs.declared.call.Move.TheVariants.{Begin, Step}
use Rattle.hist_core.specs.declared.call.Stepped.{Stepped}
use Rattle.hist_core.specs.declared.call.Stepped.TheVariants.{More, Done}
use Rattle.hist_core.specs.declared.fault.WorldFault.{WorldFault}
use Rattle.hist_core.specs.Moves.{FaultsAt, IsBegun, IsStepped}
use Rattle.hist_core.specs.Exchanging.{next_attempt}
use Rattle.hist_core.specs.Loading.{next_load}
use Rattle.alloc_core.specs.declared.attempt.Attempt.{Attempt}
use Rattle.segment_image.specs.Words.{word_at}
use Rattle.schedule.specs.declared.order.Order.{Order}
use Rattle.schedule.specs.declared.order.OrderKind.{OrderKind}
use Rattle.schedule.specs.declared.order.OrderKind.TheVariants as kind
use Rattle.stepped.specs.declared.fault.ReplayFault.{ReplayFault}
use Rattle.stepped.specs.declared.fault.ReplayFault.TheVariants.{Write}
use Rattle.stepped.specs.declared.lines.Change.{Change}
use Rattle.stepped.specs.declared.lines.Effect.{Effect}
use Rattle.stepped.specs.declared.lines.Load.{Load}
use Rattle.stepped.specs.declared.lines.Miss.{Miss}
use Rattle.stepped.specs.declared.lines.LinePlace.{LinePlace}
use Rattle.stepped.specs.Fault.{fault_of_world}
use Rattle.stepped.specs.Lines.{Deed, effect_of, load_of}
use Rattle.stepped.specs.Lines.Deed.{Begins, AtOnce, Steps, Ends, Looks}

-- ---- moves

-- one word has changed, and no other
pub record IsChange (old new : List ℕ) (change : Change) : Type 0 where
  pub near : change.at < length old
  pub was : slice_index old change.at ≡ change.old
  pub is : new ≡ slice_set old change.at change.new
  pub other : change.old ≢ change.new

-- what changed of words: one of them, or none
abbrev pub HasChanged : List ℕ → List ℕ → Option Change → Type 0
HasChanged old new None = new ≡ old
HasChanged old new (Some change) = IsChange old new change

-- a word that differs
pub record IsDifference (old new : List ℕ) (change : Change) : Type 0 where
  pub near : change.at < length old
  pub was : slice_index old change.at ≡ change.old
  pub is : slice_index new change.at ≡ change.new
  pub other : change.old ≢ change.new

-- what an exchange of a word misses, if it finds these words: the word is not what it expects
abbrev pub miss_in : List ℕ → Option Attempt → Option Miss
miss_in words None = None
miss_in words (Some attempt) =
    if word_at words attempt.at == attempt.wanted then None
    else Some (record { at = attempt.at; wanted = attempt.wanted; found = word_at words attempt.at })

-- what an actor misses by its next event, in a world
abbrev pub next_miss : WorldState → ℕ → Option Miss
next_miss world_state actor = miss_in world_state.words.items (next_attempt world_state actor)

-- what a load of a word finds in these words
abbrev pub load_in : List ℕ → Option ℕ → Option Load
load_in words None = None
load_in words (Some at) = Some (load_of words at)

-- what an actor finds by its next event, in a world, if that is a load
abbrev pub next_found : WorldState → ℕ → Option Load
next_found world_state actor = load_in world_state.words.items (next_load world_state actor)

-- what is done at a begin: the call begins, or it has ended with its answer, if it needs no event
abbrev pub begin_deeds : Call → Begun → List Deed
begin_deeds call Going = Begins call ∷ []
begin_deeds call (Ended answer) = AtOnce call answer ∷ []

-- what is done at an event: it happens, and after it comes the answer of a call that it ended
abbrev pub step_deeds : List ℕ → Effect → Stepped → List Deed
step_deeds words effect More = Steps words effect ∷ []
step_deeds words effect (Done answer) = Steps words effect ∷ Ends answer ∷ []

-- a move leads from a world to another, and is shown so
abbrev pub ShowsMove : Move → WorldState → WorldState → List Deed → Type 0
ShowsMove (Begin actor call) old new deeds = (said : Begun) × IsBegun actor call old new said × (deeds ≡ begin_deeds call said)
ShowsMove (Step actor) old new deeds =
    (said : Stepped) × IsStepped actor old new said
    × ((change : Option Change) × HasChanged old.words.items new.words.items change × (deeds ≡ step_deeds new.words.items (effect_of change (next_miss old actor) (next_found old actor)) said))

-- so do the events of an actor's call, one after the other
abbrev pub GoesBy : ℕ → ℕ → WorldState → WorldState → List Deed → Type 0
GoesBy actor zero old new deeds = (new ≡ old) × (deeds ≡ [])
GoesBy actor (suc events) old new deeds =
    (mid : WorldState) × (before last : List Deed) × GoesBy actor events old mid before × ShowsMove (Step actor) mid new last × (deeds ≡ before ++ last)

-- ---- records

-- the last that is shown is an answer
abbrev pub EndsCall : List Deed → Type 0
EndsCall deeds = (before : List Deed) × (answer : Answer) × (deeds ≡ before ++ Ends answer ∷ [])

-- A call performs events. They are as many as the record says, fewer only if the call ends or if no event is left.
pub record RunsEvents (actor times left : ℕ) (old new : WorldState) (then_left : ℕ) (deeds : List Deed) : Type 0 where
  pub events : ℕ
  pub goes : GoesBy actor events old new deeds
  pub spent : left ≡ events + then_left
  pub few : events ≤ times
  pub whole : (events ≡ times) ⊎ (then_left ≡ 0) ⊎ EndsCall deeds

-- what a record leads to, how many events it leaves, and what is shown of it
abbrev pub DoesOrder : ℕ → OrderKind → ℕ → WorldState → WorldState → ℕ → List Deed → Type 0
DoesOrder actor (kind.Begin call) left old new then_left deeds = ShowsMove (Begin actor call) old new deeds × (then_left ≡ left)
DoesOrder actor (kind.Step times) left old new then_left deeds = RunsEvents actor times left old new then_left deeds
DoesOrder actor (kind.Look at) left old new then_left deeds = (new ≡ old) × (then_left ≡ left) × (deeds ≡ Looks old.words.items at ∷ [])

-- what a record does, at its place
abbrev pub placed : ℕ → ℕ → List Deed → List (LinePlace × Deed)
placed number actor deeds = map (λ deed. (record { number = number; actor = actor }, deed)) deeds

-- What records from a number on lead to, one after the other, how many events they leave, and what is shown, each at its place. If no
-- event is left, nothing more is done.
abbrev pub Replays : ℕ → List Order → ℕ → WorldState → WorldState → ℕ → List (LinePlace × Deed) → Type 0
Replays number [] left old new then_left done = (new ≡ old) × (then_left ≡ left) × (done ≡ [])
Replays number (order ∷ rest) zero old new then_left done = (new ≡ old) × (then_left ≡ 0) × (done ≡ [])
Replays number (order ∷ rest) (suc left) old new then_left done =
    (mid : WorldState) × (left_then : ℕ) × (deeds : List Deed) × (later : List (LinePlace × Deed)) × DoesOrder order.actor order.kind (suc left) old mid left_then deeds
    × Replays (number + 1) rest left_then mid new then_left later × (done ≡ placed number order.actor deeds ++ later)

-- ---- faults

-- What a record does before the world has a fault at it, and the fault: none before a call begins; else fewer events than it says. A look
-- has none.
abbrev pub FailsAt : ℕ → OrderKind → WorldState → WorldFault → List Deed → Type 0
FailsAt actor (kind.Begin call) old fault deeds = FaultsAt (Begin actor call) old fault × (deeds ≡ [])
FailsAt actor (kind.Step times) old fault deeds =
    (events : ℕ) × (at : WorldState) × (events < times) × GoesBy actor events old at deeds × FaultsAt (Step actor) at fault
FailsAt actor (kind.Look at) old fault deeds = ⊥

-- the first fault of the world, at a record from number 2 on, and what was done before it
pub record StopsAtOrder (orders : List Order) (left : ℕ) (old : WorldState) (number : ℕ) (fault : WorldFault) (shown : List (LinePlace × Deed)) : Type 0 where
  pub before : List Order
  pub order : Order
  pub rest : List Order
  pub are : orders ≡ before ++ order ∷ rest
  pub number_is : number ≡ length before + 2
  pub mid : WorldState
  pub left_then : ℕ
  pub some : 0 < left_then
  pub done : List (LinePlace × Deed)
  pub replays : Replays 2 before left old mid left_then done
  pub deeds : List Deed
  pub fails : FailsAt order.actor order.kind mid fault deeds
  pub shown_is : shown ≡ done ++ placed number order.actor deeds

-- why a replay ends with a fault: a write failed, or the world has a fault; then what was done before it is shown
abbrev pub StopsWith : List Order → ℕ → WorldState → ReplayFault → (List (LinePlace × Deed) → Type 0) → Type 0
StopsWith orders left old fault IsShown =
    (fault ≡ Write)
    ⊎ ((number : ℕ) × (why : WorldFault) × (shown : List (LinePlace × Deed)) × StopsAtOrder orders left old number why shown × (fault ≡ fault_of_world number why) × IsShown shown)
