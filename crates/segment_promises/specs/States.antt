-- The states that are reached: from a kept state each is kept, and what is published continues; those of a new segment are consistent.
use Rattle.std.specs.Prelude.{ℕ}
use Rattle.segment_image.specs.Shape.{Dimensions}
use Rattle.segment_machine.specs.State.{State}
use Rattle.segment_machine.specs.Reached.{IsReached, IsState}
use Rattle.segment_invariant.specs.Body.{Anatomy, blank}
use Rattle.segment_invariant.specs.Invariant.{Invariant}
use Rattle.segment_invariant.specs.Rises.{Rises, SumsRise}
use Rattle.segment_invariant.specs.Consistent.{IsConsistent, new_opening}

-- every state that is reached from a kept one is kept, in whatever order actors step
abbrev pub ReachedStatesFollow : Type 0
ReachedStatesFollow = (shape : Dimensions) (opened : Anatomy) (start state : State) → Invariant shape opened start
    → IsReached opened.version start state → Invariant shape opened state

-- what is published in a kept state continues in every state that is reached from it: fixed words stay, counters rise, single words lead
-- on, the list becomes longer at its end, flags and the free pointer rise; a sum changes by no more than what was spent on it since
abbrev pub StatesRise : Type 0
StatesRise = (shape : Dimensions) (opened : Anatomy) (start state : State) → (kept : Invariant shape opened start)
    → IsReached opened.version start state → (next : Invariant shape opened state) × Rises kept.anatomy next.anatomy
    × SumsRise kept.anatomy.pieces next.anatomy.pieces start.actors state.actors

-- every state that is reached from a new segment of version 1 or 2 is kept
abbrev pub StatesAreKept : Type 0
StatesAreKept = (shape : Dimensions) (version id cursors : ℕ) (state : State) → IsState shape version id cursors state
    → Invariant shape (blank version id shape.size) state

-- every state that is reached from a new segment of version 1 or 2 is consistent, in all eight parts
abbrev pub StatesAreConsistent : Type 0
StatesAreConsistent = (shape : Dimensions) (version id cursors : ℕ) (state : State) → IsState shape version id cursors state
    → IsConsistent (new_opening shape version id) state
