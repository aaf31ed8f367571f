-- The events on the shared cursors, which go by their numbers.
-- All about an event is here in one place: what it acts on, when it is ready, what becomes of its actor, and what this learns.
use Rattle.std.specs.Prelude.{◌≡◌, ◌≢◌, Bool, true, false, ℕ, ◌+◌, ◌*◌, ◌<◌, ◌≤◌, [], ◌∷◌, ◌++◌, ◌==◌, slice_index, slice_set}
use Rattle.segment_image.specs.declared.layout.TheConstants.{BLOCK_LEAST, HEADER_WORDS}
use Rattle.segment_machine.specs.declared.place.Place.TheVariants.{CursorLoaded, BehindCursor, Idle}
use Rattle.segment_machine.specs.declared.actor.Actor.{Actor}
use Rattle.alloc_core.specs.Event as atomic
use Rattle.segment_machine.specs.Operation.{Operation, single}
use Rattle.segment_machine.specs.Calls.{MayTurn, sight, IsReference}

-- the events on a shared cursor
pub data CursorEvent : Type 0 where
  load_cursor : (cursor : ℕ) → CursorEvent
  move_cursor : (cursor old new : ℕ) → CursorEvent

-- ---- what they act on

abbrev pub operation : ℕ → ℕ → CursorEvent → Operation
operation size version (load_cursor cursor) = single (atomic.load (size + cursor))
operation size version (move_cursor cursor old new) = single (atomic.exchange (size + cursor) old new)

-- ---- when they are ready

abbrev pub Ready : Actor → CursorEvent → Type 0
Ready a (load_cursor cursor) = MayTurn a × (cursor < a.segment.cursors)
Ready a (move_cursor cursor old new) = a.hand.place ≡ BehindCursor cursor old new

-- ---- what becomes of the actor

-- after an exchange of a shared cursor
abbrev pub after_cursor : Bool → Actor → ℕ → ℕ → ℕ → Actor
after_cursor true a cursor new found = record a {
  hand = record a.hand { place = Idle };
  done = record a.done { given = a.done.given ++ record { cursor = cursor; reference = new } ∷ [] };
  seen = record a.seen { cursors = a.seen.cursors ++ sight cursor new };
}
after_cursor false a cursor new found = record a {
  hand = record a.hand { place = Idle };
  done = record a.done { lost = slice_set a.done.lost cursor (slice_index a.done.lost cursor + 1) };
  seen = record a.seen { cursors = a.seen.cursors ++ sight cursor found };
}

-- the actor after an event that found this number
abbrev pub next : Actor → CursorEvent → ℕ → Actor
next a (load_cursor cursor) found =
    record a { hand = record a.hand { place = CursorLoaded cursor found }; seen = record a.seen { cursors = a.seen.cursors ++ sight cursor found } }
next a (move_cursor cursor old new) found = after_cursor (found == old) a cursor new found

-- ---- what it learns

-- the number of exchanges that come too late is bounded: the segment has room for a record of five words for each
abbrev pub Learned : Actor → CursorEvent → ℕ → Type 0
Learned a (load_cursor cursor) found = IsReference a found
Learned a (move_cursor cursor old new) found = IsReference a found × (found ≢ old → BLOCK_LEAST * (slice_index a.done.lost cursor + 1) + HEADER_WORDS ≤ a.segment.shape.size)
