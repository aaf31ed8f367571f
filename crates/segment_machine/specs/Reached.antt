-- The states that are reached: a new segment, and from there steps, announcements, recorders that are made and joined, and units that
-- are lent, at once or in a purse, and given back, in any order.
use Rattle.std.specs.Prelude.{◌≡◌, ◌≢◌, ◌⊎◌, ℕ, ◌≤◌, List, [], ◌∷◌, ◌++◌, slice_set, replicate, false}
use mathlib.Core.Option.{some}
use lib.ListN.{get_elem?}
use Rattle.segment_image.specs.declared.layout.TheConstants.{QUEUE}
use Rattle.segment_image.specs.Shape.{Dimensions}
use Rattle.alloc_core.specs.Layout.{IsShape, render, fresh}
use Rattle.segment_machine.specs.declared.actor.Actor.{Actor}
use Rattle.segment_machine.specs.Event.{Event}
use Rattle.segment_machine.specs.Note.{Note, Notes}
use Rattle.segment_machine.specs.State.{State, IsStep}
use Rattle.segment_machine.specs.Seats.{opener_of, MayOffer, offering, MaySplit, parent, newcomer, MayLend, MayReturn, giver, getter, purse, MayFill, lender, MayPour, MayJoin, joined, spent}
use Rattle.segment_machine.specs.Actor.{is_opener, offered_of, outstanding_of}

-- ---- the states that are reached

-- a new segment with `cursors` shared cursors, and its opener
abbrev pub new_state : Dimensions → ℕ → ℕ → ℕ → State
new_state shape version id cursors = record {
  words = render shape (fresh shape version id);
  cursors = replicate cursors QUEUE;
  actors = opener_of shape version cursors ∷ [];
}

-- An announcement, which is a step of its own and changes no word: a recorder makes notes.
abbrev pub IsAnnounced : State → ℕ → State → Type 0
IsAnnounced old id new =
    (a b : Actor) × (notes : List Note) × (get_elem? old.actors id ≡ some a) × (is_opener a.role ≡ false) × Notes a notes b
    × (new ≡ record old { actors = slice_set old.actors id b })

-- an opener says how many units it hands out next, which changes no word either
abbrev pub IsOffered : State → ℕ → ℕ → State → Type 0
IsOffered old id units new =
    (a : Actor) × (get_elem? old.actors id ≡ some a) × MayOffer a units
    × (new ≡ record old { actors = slice_set old.actors id (offering a units) })

-- an opener makes a recorder
abbrev pub IsSplit : State → ℕ → State → Type 0
IsSplit old id new =
    (a : Actor) × (get_elem? old.actors id ≡ some a) × MaySplit a
    × (new ≡ record old { actors = slice_set old.actors id (parent a) ++ newcomer a ∷ [] })

-- an opener joins a recorder
abbrev pub IsJoin : State → ℕ → ℕ → State → Type 0
IsJoin old id other new =
    (a b : Actor) × (id ≢ other) × (get_elem? old.actors id ≡ some a) × (get_elem? old.actors other ≡ some b) × MayJoin a b
    × (new ≡ record old { actors = slice_set (slice_set old.actors id (joined a b)) other spent })

-- an opener lends units to a recorder
abbrev pub IsLent : State → ℕ → ℕ → ℕ → State → Type 0
IsLent old id other units new =
    (a b : Actor) × (id ≢ other) × (get_elem? old.actors id ≡ some a) × (get_elem? old.actors other ≡ some b) × MayLend a b units
    × (new ≡ record old { actors = slice_set (slice_set old.actors id (giver a units)) other (getter b units) })

-- a recorder gives units back to its opener
abbrev pub IsReturned : State → ℕ → ℕ → ℕ → State → Type 0
IsReturned old id other units new =
    (a b : Actor) × (id ≢ other) × (get_elem? old.actors id ≡ some a) × (get_elem? old.actors other ≡ some b) × MayReturn a b units
    × (new ≡ record old { actors = slice_set (slice_set old.actors id (getter a units)) other (giver b units) })

-- an opener fills a purse, which is added after all actors
abbrev pub IsFilled : State → ℕ → State → Type 0
IsFilled old id new =
    (a : Actor) × (get_elem? old.actors id ≡ some a) × MayFill a
    × (new ≡ record old { actors = slice_set old.actors id (lender a) ++ purse (offered_of a.role) ∷ [] })

-- a purse is poured out to a recorder
abbrev pub IsPoured : State → ℕ → ℕ → State → Type 0
IsPoured old id other new =
    (b c : Actor) × (id ≢ other) × (get_elem? old.actors id ≡ some b) × (get_elem? old.actors other ≡ some c) × MayPour b c
    × (new ≡ record old { actors = slice_set (slice_set old.actors id (getter b c.units.share)) other spent })

-- one state leads to another by steps, announcements, offers, recorders that are made and joined, and units that are lent and given back,
-- in any order
pub data IsReached (version : ℕ) (start : State) : State → Type 0 where
  started : IsReached version start start
  stepped : (old new : State) (id : ℕ) (event : Event) → IsReached version start old → IsStep version old id event new → IsReached version start new
  announced : (old new : State) (id : ℕ) → IsReached version start old → IsAnnounced old id new → IsReached version start new
  offered : (old new : State) (id units : ℕ) → IsReached version start old → IsOffered old id units new → IsReached version start new
  split : (old new : State) (id : ℕ) → IsReached version start old → IsSplit old id new → IsReached version start new
  lent : (old new : State) (id other units : ℕ) → IsReached version start old → IsLent old id other units new → IsReached version start new
  returned : (old new : State) (id other units : ℕ) → IsReached version start old → IsReturned old id other units new → IsReached version start new
  purse_filled : (old new : State) (id : ℕ) → IsReached version start old → IsFilled old id new → IsReached version start new
  purse_poured : (old new : State) (id other : ℕ) → IsReached version start old → IsPoured old id other new → IsReached version start new
  joined_in : (old new : State) (id other : ℕ) → IsReached version start old → IsJoin old id other new → IsReached version start new

-- a state of a new segment of version 1 or 2
abbrev pub IsState : Dimensions → ℕ → ℕ → ℕ → State → Type 0
IsState shape version id cursors state =
    IsShape shape × ((version ≡ 1) ⊎ (version ≡ 2)) × (cursors ≤ 8) × IsReached version (new_state shape version id cursors) state

-- ---- after the joins

-- the opener has joined all recorders that it has made
abbrev pub IsJoined : State → Actor → Type 0
IsJoined state a = (get_elem? state.actors 0 ≡ some a) × (outstanding_of a.role ≡ 0)
