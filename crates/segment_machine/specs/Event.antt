-- The atomic events. Each family has a file: what its events act on, when they are ready, what becomes of the actor, and what it learns.
use Rattle.std.specs.Prelude.{ℕ, List, slice_set}
use Rattle.segment_image.specs.Words.{word_at}
use Rattle.segment_machine.specs.declared.actor.Actor.{Actor}
use Rattle.segment_machine.specs.Operation.{Operation, spot_of, change_of}
use Rattle.segment_machine.specs.Allocating.{AllocatingEvent}
use Rattle.segment_machine.specs.Publishing.{PublishingEvent}
use Rattle.segment_machine.specs.Walking.{WalkingEvent}
use Rattle.segment_machine.specs.Counting.{CountingEvent}
use Rattle.segment_machine.specs.Packing.{PackingEvent}
use Rattle.segment_machine.specs.Taking.{TakingEvent}
use Rattle.segment_machine.specs.Cursors.{CursorEvent}
use Rattle.segment_machine.specs.Allocating as allocating
use Rattle.segment_machine.specs.Publishing as publishing
use Rattle.segment_machine.specs.Walking as walking
use Rattle.segment_machine.specs.Counting as counting
use Rattle.segment_machine.specs.Packing as packing
use Rattle.segment_machine.specs.Taking as taking
use Rattle.segment_machine.specs.Cursors as cursors

-- an event, by its family
pub data Event : Type 0 where
  allocating_event : AllocatingEvent → Event
  publishing_event : PublishingEvent → Event
  walking_event : WalkingEvent → Event
  counting_event : CountingEvent → Event
  packing_event : PackingEvent → Event
  taking_event : TakingEvent → Event
  cursor_event : CursorEvent → Event

-- what an event does, in a segment of `size` words and of this version. The words are those of the segment, then those of the shared
-- cursors
abbrev pub operation : ℕ → ℕ → Event → Operation
operation size version (allocating_event event) = allocating.operation size version event
operation size version (publishing_event event) = publishing.operation size version event
operation size version (walking_event event) = walking.operation size version event
operation size version (counting_event event) = counting.operation size version event
operation size version (packing_event event) = packing.operation size version event
operation size version (taking_event event) = taking.operation size version event
operation size version (cursor_event event) = cursors.operation size version event

-- the word that an event acts on
abbrev pub spot : ℕ → Event → ℕ
spot size event = spot_of (operation size 1 event)

-- what an event makes of the word that it found
abbrev pub change : ℕ → Event → ℕ → ℕ
change version event found = change_of (operation 0 version event) found

-- the words after an event: one changes at most
abbrev pub after : ℕ → ℕ → Event → List ℕ → List ℕ
after size version event words = slice_set words (spot size event) (change version event (word_at words (spot size event)))

-- when an actor may do it. Most loads may come in any order, but what it stores depends on what it has loaded and stored before: so the
-- events of each call that change a word come in the order that the format gives them
abbrev pub Ready : Actor → Event → Type 0
Ready a (allocating_event event) = allocating.Ready a event
Ready a (publishing_event event) = publishing.Ready a event
Ready a (walking_event event) = walking.Ready a event
Ready a (counting_event event) = counting.Ready a event
Ready a (packing_event event) = packing.Ready a event
Ready a (taking_event event) = taking.Ready a event
Ready a (cursor_event event) = cursors.Ready a event

-- what becomes of the actor, by the number that the event found. At a store that number is not used
abbrev pub next : Actor → Event → ℕ → Actor
next a (allocating_event event) found = allocating.next a event found
next a (publishing_event event) found = publishing.next a event found
next a (walking_event event) found = walking.next a event found
next a (counting_event event) found = counting.next a event found
next a (packing_event event) found = packing.next a event found
next a (taking_event event) found = taking.next a event found
next a (cursor_event event) found = cursors.next a event found

-- what the actor learns of that number: what the rest of its call needs to know
abbrev pub Learned : Actor → Event → ℕ → Type 0
Learned a (allocating_event event) found = allocating.Learned a event found
Learned a (publishing_event event) found = publishing.Learned a event found
Learned a (walking_event event) found = walking.Learned a event found
Learned a (counting_event event) found = counting.Learned a event found
Learned a (packing_event event) found = packing.Learned a event found
Learned a (taking_event event) found = taking.Learned a event found
Learned a (cursor_event event) found = cursors.Learned a event found
