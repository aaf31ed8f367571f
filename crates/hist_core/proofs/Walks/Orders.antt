-- In a state that is reached nothing that an actor visited is out of order: no block is there twice, and each sample comes after the record
-- of its histogram.
use Rattle.segment_invariant.proofs.Prelude.Std.{◌≡◌, ℕ, some, get_elem?}
use Rattle.segment_invariant.proofs.Prelude.Machine.{Dimensions, Actor, State}
use Rattle.segment_invariant.proofs.Prelude.Invariant.{Anatomy, Invariant}
use Rattle.segment_promises.proofs.Calls.Orders.{no_repeats, stand_behind}
use Rattle.hist_core.specs.StepsBy.{WalksInOrder}

pub walks_in_order : (shape : Dimensions) (opened : Anatomy) (state : State) → Invariant shape opened state → (id : ℕ) (a : Actor)
    → get_elem? state.actors id ≡ some a → WalksInOrder a
walks_in_order shape opened state kept id a mine lives =
    record { once = no_repeats shape opened state kept id a mine lives; behind = stand_behind shape opened state kept id a mine lives }
