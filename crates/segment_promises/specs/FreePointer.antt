-- How far the free pointer has risen.
use Rattle.std.specs.Prelude.{◌≡◌, ℕ, ◌+◌, ◌-◌, List, sum_by}
use Rattle.segment_image.specs.declared.layout.TheConstants.{FREE_WORD}
use Rattle.segment_image.specs.Shape.{Dimensions}
use Rattle.segment_image.specs.Words.{word_at}
use Rattle.segment_machine.specs.declared.actor.Actor.{Actor}
use Rattle.segment_machine.specs.Reached.{IsReached}
use Rattle.segment_machine.specs.State.{State}
use Rattle.segment_invariant.specs.Body.{Anatomy}
use Rattle.segment_invariant.specs.Invariant.{Invariant}

-- the words by which an actor has raised the free pointer, in all its rises
abbrev pub raised_by : Actor → ℕ
raised_by a = sum_by (λ rise. rise.to - rise.from) a.done.raised

-- the same of all actors
abbrev pub all_raised : List Actor → ℕ
all_raised actors = sum_by raised_by actors

-- the free pointer of a state is where it was in the state from which that is reached, and higher by what actors have raised it since
abbrev pub FreePointerIsRaised : Type 0
FreePointerIsRaised = (shape : Dimensions) (opened : Anatomy) (start state : State) → Invariant shape opened start
    → IsReached opened.version start state
    → word_at state.words FREE_WORD + all_raised start.actors ≡ word_at start.words FREE_WORD + all_raised state.actors
