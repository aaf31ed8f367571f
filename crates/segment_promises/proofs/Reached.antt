-- Every state that is reached from a kept one is kept, and what is published continues; one that is reached from a new segment is
-- consistent.
use Rattle.std.proofs.Common.{subst}
use Rattle.segment_machine.specs.State.{State}
use Rattle.segment_machine.specs.Reached.{new_state, IsReached, started, stepped, announced, offered, split, lent, returned, purse_filled, purse_poured, joined_in}
use Rattle.segment_invariant.specs.Body.{blank}
use Rattle.segment_invariant.specs.Consistent.{Opening, IsConsistent}
use Rattle.segment_invariant.specs.Keeps.{KeptOn}
use Rattle.segment_invariant.proofs.Frames.Rises.{kept_again, kept_itself}
use Rattle.segment_invariant.proofs.Openings.Segments.{opening_is_kept, new_is_opening}
use Rattle.segment_invariant.proofs.Consistency.Whole.{is_consistent}
use Rattle.segment_invariant.proofs.Notes.Announcements.{announcements_keep}
use Rattle.segment_invariant.proofs.Recorders.Splits.{splits_keep}
use Rattle.segment_invariant.proofs.Recorders.Joins.{joins_keep}
use Rattle.segment_invariant.proofs.Recorders.Lends.{offers_keep, lends_keep, returns_keep, pours_keep}
use Rattle.segment_invariant.proofs.Recorders.Purses.{fills_keep}
use Rattle.segment_promises.specs.States.{StatesRise, ReachedStatesFollow, StatesAreKept, StatesAreConsistent}
use Rattle.segment_promises.proofs.Steps.{steps_rise}

pub states_rise : StatesRise
states_rise shape opened start state kept reached = go state reached
  where
    -- a state that is kept after one that is reached is kept from the start on
    on : {old new : State} (before : KeptOn shape opened kept old) → KeptOn shape opened before.0 new → KeptOn shape opened kept new
    on before next = kept_again shape opened start kept before next

    go : (state : State) → IsReached opened.version start state → KeptOn shape opened kept state
    go state started = kept_itself shape opened start kept
    go state (stepped old new id event before step) = let was = go old before in on was (steps_rise shape opened old new id event step was.0).0
    go state (announced old new id before told) = let was = go old before in on was (announcements_keep shape opened old new id was.0 told)
    go state (offered old new id units before made) = let was = go old before in on was (offers_keep shape opened old new id units was.0 made)
    go state (split old new id before made) = let was = go old before in on was (splits_keep shape opened old new id was.0 made)
    go state (lent old new id other units before made) = let was = go old before in on was (lends_keep shape opened old new id other units was.0 made)
    go state (returned old new id other units before made) = let was = go old before in on was (returns_keep shape opened old new id other units was.0 made)
    go state (purse_filled old new id before made) = let was = go old before in on was (fills_keep shape opened old new id was.0 made)
    go state (purse_poured old new id other before made) = let was = go old before in on was (pours_keep shape opened old new id other was.0 made)
    go state (joined_in old new id other before made) = let was = go old before in on was (joins_keep shape opened old new id other was.0 made)

pub reached_states_follow : ReachedStatesFollow
reached_states_follow shape opened start state kept reached = (states_rise shape opened start state kept reached).0

pub states_are_kept : StatesAreKept
states_are_kept shape version id cursors state (lawful, versions, few, reached) =
    reached_states_follow shape (blank version id shape.size) (new_state shape version id cursors) state (opening_is_kept shape version id cursors lawful versions) reached

pub states_are_consistent : StatesAreConsistent
states_are_consistent shape version id cursors state reached =
    let new = new_is_opening shape version id reached.0 reached.1 in
    subst (λ (opening : Opening). IsConsistent opening state) new.1
    (is_consistent shape (blank version id shape.size) state new.0 (states_are_kept shape version id cursors state reached))
