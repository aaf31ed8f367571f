-- The moves of a schedule, one after the other.
use Rattle.std.specs.Prelude.{◌≡◌, ◌⊎◌, ℕ, List, [], ◌∷◌, ◌++◌, Some, None, MatchOption}
use Rattle.segment_image.specs.Checks.{first_fault}
use Rattle.segment_machine.specs.State.{State}
use Rattle.hist_core.specs.declared.world_state.WorldState.{WorldState}
use Rattle.hist_core.specs.declared.call.Begun.{Begun}
use Rattle.segment_calls.specs.declared.call.Call.{Call}
use Rattle.hist_core.specs.declared.call.Move.{Move}
use Rattle.hist_core.specs.declared.call.Move.TheVariants.{Begin, Step}
use Rattle.hist_core.specs.declared.call.Stepped.{Stepped}
use Rattle.hist_core.specs.declared.fault.WorldFault.{WorldFault}
use Rattle.hist_core.specs.declared.fault.WorldFault.TheVariants.{NoMemory}
use Rattle.hist_core.specs.Start.{Start}
use Rattle.hist_core.specs.WorldState.{BeginsFrom, IsAdoptedWorldState, IsNewWorldState, IsReachedAs, OthersStay, Says, StepsTo}
use Rattle.hist_core.specs.World.{actor_checks, world_checks, IsAdoptFault, begin_checks, step_checks, BeginSays, TakesMemory}

-- an actor begins a call, which says this: nothing is wrong with it, and all other actors stay
pub record IsBegun (actor : ℕ) (call : Call) (old new : WorldState) (said : Begun) : Type 0 where
  pub lawful : first_fault (begin_checks old actor call) ≡ None
  pub others : OthersStay actor old new
  pub says : BeginSays actor call old new said
  pub leads : (start : Start) (state : State) → IsReachedAs start old state → BeginsFrom start state actor new

-- an actor performs the next event of its call, and the call says this: nothing is wrong with it, and all other actors stay
pub record IsStepped (actor : ℕ) (old new : WorldState) (said : Stepped) : Type 0 where
  pub lawful : first_fault (step_checks old actor) ≡ None
  pub others : OthersStay actor old new
  pub says : Says actor old new said
  pub leads : (start : Start) (state : State) → IsReachedAs start old state → StepsTo old actor start state new said

-- a move leads from a world to another
abbrev pub Makes : Move → WorldState → WorldState → Type 0
Makes (Begin actor call) old new = (said : Begun) × IsBegun actor call old new said
Makes (Step actor) old new = (said : Stepped) × IsStepped actor old new said

-- moves lead from a world to another, in order
abbrev pub MakesAll : List Move → WorldState → WorldState → Type 0
MakesAll [] old new = new ≡ old
MakesAll (move ∷ rest) old new = (mid : WorldState) × Makes move old mid × MakesAll rest mid new

-- a world has this fault at a move: the first that holds; or there was no memory for a call
abbrev pub FaultsAt : Move → WorldState → WorldFault → Type 0
FaultsAt (Begin actor call) world_state fault =
    MatchOption (first_fault (begin_checks world_state actor call)) ((fault ≡ NoMemory) × TakesMemory call) (λ first. fault ≡ first)
FaultsAt (Step actor) world_state fault = first_fault (step_checks world_state actor) ≡ Some fault

-- the moves before one lead to a world that has this fault at it
pub record StopsAtMove (moves : List Move) (old : WorldState) (fault : WorldFault) : Type 0 where
  pub before : List Move
  pub move : Move
  pub rest : List Move
  pub are : moves ≡ before ++ move ∷ rest
  pub world_state : WorldState
  pub leads : MakesAll before old world_state
  pub faults : FaultsAt move world_state fault

-- the moves lead from a new world to a last one
abbrev pub LeadsTo : (size page id actors version : ℕ) → List Move → WorldState → Type 0
LeadsTo size page id actors version moves last =
    (first_fault (world_checks size page actors version) ≡ None)
    × ((first : WorldState) × IsNewWorldState (record { size = size; page = page }) version id actors first × MakesAll moves first last)

-- The first fault: that of the new world, or that there was no memory for it; or that of a move, if the moves before it have none.
abbrev pub MovesStopWith : (size page id actors version : ℕ) → List Move → WorldFault → Type 0
MovesStopWith size page id actors version moves fault = MatchOption (first_fault (world_checks size page actors version))
    ((fault ≡ NoMemory) ⊎ ((first : WorldState) × IsNewWorldState (record { size = size; page = page }) version id actors first × StopsAtMove moves first fault))
    (λ why. fault ≡ why)

-- ---- continued from an image

-- the moves lead from a world that continues from an image to a last one
abbrev pub LeadsOn : (words : List ℕ) (actors : ℕ) → List Move → WorldState → Type 0
LeadsOn words actors moves last =
    (first_fault (actor_checks actors) ≡ None) × ((first : WorldState) × IsAdoptedWorldState words actors first × MakesAll moves first last)

-- The first fault: that of the actors, of the image, or that there was no memory; or that of a move, if the moves before it have none.
abbrev pub StopsOn : (words : List ℕ) (actors : ℕ) → List Move → WorldFault → Type 0
StopsOn words actors moves fault = MatchOption (first_fault (actor_checks actors))
    (IsAdoptFault words fault ⊎ ((first : WorldState) × IsAdoptedWorldState words actors first × StopsAtMove moves first fault))
    (λ why. fault ≡ why)
