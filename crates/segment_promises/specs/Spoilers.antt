-- A recorder that has set the corrupt flag claims no more blocks.
use Rattle.std.specs.Prelude.{◌≡◌, ◌≢◌, ℕ, true, false}
use mathlib.Core.Option.{some}
use lib.ListN.{get_elem?}
use Rattle.segment_image.specs.Shape.{Dimensions}
use Rattle.segment_machine.specs.declared.actor.Actor.{Actor}
use Rattle.segment_machine.specs.declared.place.Place.TheVariants.{Idle, Spent}
use Rattle.segment_machine.specs.Actor.{is_opener}
use Rattle.segment_machine.specs.Reached.{IsReached}
use Rattle.segment_machine.specs.State.{State}
use Rattle.segment_invariant.specs.Body.{Anatomy}
use Rattle.segment_invariant.specs.Invariant.{Invariant}

-- Once a recorder has set the corrupt flag, and is at the place where that leaves it, its calls claim no block until it is joined, in
-- whatever order actors step.
abbrev pub SpoilersClaimNothing : Type 0
SpoilersClaimNothing = (shape : Dimensions) (opened : Anatomy) (start state : State) (who : ℕ) (a b : Actor) → Invariant shape opened start
    → get_elem? start.actors who ≡ some a → is_opener a.role ≡ false → a.done.spoiled ≡ true → a.hand.place ≡ Idle
    → IsReached opened.version start state → get_elem? state.actors who ≡ some b → b.hand.place ≢ Spent → b.done.claimed ≡ a.done.claimed
