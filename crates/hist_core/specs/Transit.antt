-- Units that are on their way out of a single word.
use Rattle.std.specs.Prelude.{◌≡◌, ℕ, ◌+◌, Option, Some}
use mathlib.Core.Option.{some}
use lib.ListN.{get_elem?}
use Rattle.segment_machine.specs.declared.actor.Actor.{Actor}
use Rattle.segment_machine.specs.declared.place.Look.{Look}
use Rattle.segment_machine.specs.declared.place.Place.TheVariants.{Moving}
use Rattle.segment_machine.specs.State.{State}
use Rattle.hist_core.specs.declared.actor_run.ActorRun.{ActorRun}
use Rattle.hist_core.specs.declared.actor_run.Running.{Running}
use Rattle.hist_core.specs.declared.actor_run.Running.TheVariants.{Add, Batch}
use Rattle.hist_core.specs.declared.world_state.WorldState.{WorldState}
use Rattle.hist_core.specs.Start.{Start}
use Rattle.hist_core.specs.WorldState.{IsReachedAs}

-- a running call counts in the histogram of a record
abbrev pub CountsInRecord : ℕ → Option Running → Type 0
CountsInRecord histogram (Some (Add add)) = add.histogram ≡ histogram
CountsInRecord histogram (Some (Batch batch)) = batch.histogram ≡ histogram
CountsInRecord histogram running = ⊥

-- An actor that has disabled a single word, and has its units to move, runs a call that counts in that same histogram.
abbrev pub MoveTheirOwn : WorldState → Type 0
MoveTheirOwn world_state = (start : Start) (state : State) → IsReachedAs start world_state state → (actor : ℕ) (actor_run : ActorRun) (recorder : Actor)
    → get_elem? world_state.actor_runs.items actor ≡ some actor_run → get_elem? state.actors (actor + 1) ≡ some recorder
    → (look : Look) (bucket units : ℕ) → recorder.hand.place ≡ Moving look bucket units → CountsInRecord look.histogram actor_run.running
