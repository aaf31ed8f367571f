-- What is to be shown of the invariant: it holds of a new segment, each event keeps it, so do openers that make and join recorders, what is
-- published continues, and consistency follows from it.
use Rattle.std.specs.Prelude.{◌≡◌, ◌⊎◌, ℕ, zero, suc, take, drop, length, slice_set, false}
use mathlib.Core.Option.{some}
use lib.ListN.{get_elem?}
use Rattle.segment_image.specs.declared.layout.TheConstants.{VERSION_WORD}
use Rattle.segment_image.specs.Shape.{Dimensions}
use Rattle.segment_image.specs.Words.{word_at}
use Rattle.alloc_core.specs.Layout.{IsShape, render}
use Rattle.segment_machine.specs.declared.actor.Actor.{Actor}
use Rattle.segment_machine.specs.Event.{Event, allocating_event, publishing_event, walking_event, counting_event, packing_event, taking_event, cursor_event, spot, after, next, Ready, Learned}
use Rattle.segment_machine.specs.Allocating.{AllocatingEvent}
use Rattle.segment_machine.specs.Publishing.{PublishingEvent}
use Rattle.segment_machine.specs.Walking.{WalkingEvent}
use Rattle.segment_machine.specs.Counting.{CountingEvent}
use Rattle.segment_machine.specs.Packing.{PackingEvent}
use Rattle.segment_machine.specs.Taking.{TakingEvent}
use Rattle.segment_machine.specs.Cursors.{CursorEvent}
use Rattle.segment_machine.specs.State.{State, memory}
use Rattle.segment_invariant.specs.Consistent.{ListIsChain, FlagsAreSet, UnitsAreKept, RecordsHold, TotalsAreCounted, MarksAreTaken, SumsAreAmounts, TransitIsLocal, IsConsistent, Opening, new_opening}
use Rattle.segment_machine.specs.Reached.{new_state, IsAnnounced, IsOffered, IsSplit, IsJoin, IsLent, IsReturned, IsFilled, IsPoured}
use Rattle.segment_invariant.specs.Body.{Anatomy, blank, layout_of, order_of, claims_of}
use Rattle.segment_invariant.specs.Invariant.{Invariant}
use Rattle.segment_invariant.specs.Rises.{Rises, SumsRise}
use Rattle.segment_machine.specs.Note.{Note, MayNote, noted}
use Rattle.segment_machine.specs.Actor.{is_opener}

-- ---- at the opening

-- a new segment with its opener is kept
abbrev pub OpeningIsKept : Type 0
OpeningIsKept = (shape : Dimensions) (version id cursors : ℕ) → IsShape shape → (version ≡ 1) ⊎ (version ≡ 2)
    → Invariant shape (blank version id shape.size) (new_state shape version id cursors)

-- from one state the first actor has made this many recorders, one after the other, each with the units that were offered before
abbrev pub HasMadeRecorders : ℕ → State → State → Type 0
HasMadeRecorders zero old new = old ≡ new
HasMadeRecorders (suc n) old new = (mid said : State) × (units : ℕ) × HasMadeRecorders n old mid × IsOffered mid 0 units said × IsSplit said 0 new

-- a new segment is kept with any number of recorders
abbrev pub OpeningsAreKept : Type 0
OpeningsAreKept = (shape : Dimensions) (version id cursors recorders : ℕ) (state : State) → IsShape shape → (version ≡ 1) ⊎ (version ≡ 2)
    → HasMadeRecorders recorders (new_state shape version id cursors) state → Invariant shape (blank version id shape.size) state

-- a state is kept, and what was published in an earlier state that was kept continues there; its sums change by no more than what was spent
abbrev pub KeptOn : (shape : Dimensions) (opened : Anatomy) {before : State} → Invariant shape opened before → State → Type 0
KeptOn shape opened {before} kept state = (next : Invariant shape opened state) × Rises kept.anatomy next.anatomy
    × SumsRise kept.anatomy.pieces next.anatomy.pieces before.actors state.actors

-- ---- at events

-- what an event finds
abbrev pub found_at : State → Event → ℕ
found_at state event = word_at (memory state) (spot (length state.words) event)

-- the state after an event of an actor
abbrev pub happened : ℕ → State → ℕ → Actor → Event → State
happened version state id a event =
    let size = length state.words in
    let words = after size version event (memory state) in
    record { words = take size words; cursors = drop size words; actors = slice_set state.actors id (next a event (found_at state event)) }

-- an event that a recorder may do keeps the invariant, what is published continues, and its actor learns about the number that it found
abbrev pub EventKeeps : Event → Type 0
EventKeeps event = (shape : Dimensions) (opened : Anatomy) (state : State) (id : ℕ) (a : Actor) (kept : Invariant shape opened state)
    → get_elem? state.actors id ≡ some a → is_opener a.role ≡ false → Ready a event
    → KeptOn shape opened kept (happened opened.version state id a event) × Learned a event (found_at state event)

-- the events that allocate a block and set flags
abbrev pub AllocatingKeeps : Type 0
AllocatingKeeps = (event : AllocatingEvent) → EventKeeps (allocating_event event)

-- the events that put a record on the list
abbrev pub PublishingKeeps : Type 0
PublishingKeeps = (event : PublishingEvent) → EventKeeps (publishing_event event)

-- the events that walk along it
abbrev pub WalkingKeeps : Type 0
WalkingKeeps = (event : WalkingEvent) → EventKeeps (walking_event event)

-- the events that count an entry: its units, its amount and its redundant count
abbrev pub CountingKeeps : Type 0
CountingKeeps = (event : CountingEvent) → EventKeeps (counting_event event)

-- the events that pack units into a single word, mount counts and move units there
abbrev pub PackingKeeps : Type 0
PackingKeeps = (event : PackingEvent) → EventKeeps (packing_event event)

-- the events of deltas and snapshots: what they load, the marks that they raise, the sum mark that they swap
abbrev pub TakingKeeps : Type 0
TakingKeeps = (event : TakingEvent) → EventKeeps (taking_event event)

-- the events of shared cursors
abbrev pub CursorsKeep : Type 0
CursorsKeep = (event : CursorEvent) → EventKeeps (cursor_event event)

-- each event does, of any family
abbrev pub EventsKeep : Type 0
EventsKeep = (event : Event) → EventKeeps event

-- ---- at notes

-- a note that a recorder may make keeps the invariant, and what is published continues
abbrev pub NoteKeeps : Note → Type 0
NoteKeeps note = (shape : Dimensions) (opened : Anatomy) (state : State) (id : ℕ) (a : Actor) (kept : Invariant shape opened state)
    → get_elem? state.actors id ≡ some a → is_opener a.role ≡ false → MayNote a note
    → KeptOn shape opened kept (record state { actors = slice_set state.actors id (noted a note) })

-- each note does
abbrev pub NotesKeep : Type 0
NotesKeep = (note : Note) → NoteKeeps note

-- so does an announcement, of any number of notes
abbrev pub AnnouncementsKeep : Type 0
AnnouncementsKeep = (shape : Dimensions) (opened : Anatomy) (old new : State) (id : ℕ) (kept : Invariant shape opened old) → IsAnnounced old id new
    → KeptOn shape opened kept new

-- ---- at seats

-- an opener that offers units keeps the invariant, and what is published continues
abbrev pub OffersKeep : Type 0
OffersKeep = (shape : Dimensions) (opened : Anatomy) (old new : State) (id units : ℕ) (kept : Invariant shape opened old) → IsOffered old id units new → KeptOn shape opened kept new

-- so does one that makes a recorder
abbrev pub SplitsKeep : Type 0
SplitsKeep = (shape : Dimensions) (opened : Anatomy) (old new : State) (id : ℕ) (kept : Invariant shape opened old) → IsSplit old id new → KeptOn shape opened kept new

-- so does one that joins a recorder
abbrev pub JoinsKeep : Type 0
JoinsKeep = (shape : Dimensions) (opened : Anatomy) (old new : State) (id other : ℕ) (kept : Invariant shape opened old) → IsJoin old id other new → KeptOn shape opened kept new

-- so does one that lends units to a recorder
abbrev pub LendsKeep : Type 0
LendsKeep = (shape : Dimensions) (opened : Anatomy) (old new : State) (id other units : ℕ) (kept : Invariant shape opened old) → IsLent old id other units new
    → KeptOn shape opened kept new

-- so does a recorder that gives units back
abbrev pub ReturnsKeep : Type 0
ReturnsKeep = (shape : Dimensions) (opened : Anatomy) (old new : State) (id other units : ℕ) (kept : Invariant shape opened old) → IsReturned old id other units new
    → KeptOn shape opened kept new

-- so does an opener that fills a purse
abbrev pub FillsKeep : Type 0
FillsKeep = (shape : Dimensions) (opened : Anatomy) (old new : State) (id : ℕ) (kept : Invariant shape opened old) → IsFilled old id new → KeptOn shape opened kept new

-- so does a recorder to which a purse is poured out
abbrev pub PoursKeep : Type 0
PoursKeep = (shape : Dimensions) (opened : Anatomy) (old new : State) (id other : ℕ) (kept : Invariant shape opened old) → IsPoured old id other new
    → KeptOn shape opened kept new

-- ---- what it has in it

-- an anatomy is an opening: there is a state that is kept with just this anatomy
abbrev pub IsOpening : Dimensions → Anatomy → Type 0
IsOpening shape opened = (start : State) × (kept : Invariant shape opened start) × (kept.anatomy ≡ opened)

-- the words of such an anatomy, and its claimed blocks
abbrev pub opening_of : Dimensions → Anatomy → Opening
opening_of shape opened = record { words = render shape (layout_of opened); claims = claims_of opened.pieces }

-- the blocks of a new segment are an opening, and its words are the opening of a new segment
abbrev pub NewIsOpening : Type 0
NewIsOpening = (shape : Dimensions) (version id : ℕ) → IsShape shape → (version ≡ 1) ⊎ (version ≡ 2)
    → IsOpening shape (blank version id shape.size) × (opening_of shape (blank version id shape.size) ≡ new_opening shape version id)

-- the list of a kept state is the chain, which begins with the records of the opening
abbrev pub KeptIsChain : Type 0
KeptIsChain = (shape : Dimensions) (opened : Anatomy) (state : State) → IsOpening shape opened → (kept : Invariant shape opened state)
    → ListIsChain (opening_of shape opened).words (opening_of shape opened).claims state.words state.cursors state.actors (order_of kept.anatomy)

-- its flags are set exactly if they were set at the opening, or somebody has set them
abbrev pub KeptFlagsAreSet : Type 0
KeptFlagsAreSet = (shape : Dimensions) (opened : Anatomy) (state : State) → Invariant shape opened state
    → FlagsAreSet (opening_of shape opened).words state.words state.actors

-- its units are kept
abbrev pub KeptUnitsAreKept : Type 0
KeptUnitsAreKept = (shape : Dimensions) (opened : Anatomy) (state : State) → (kept : Invariant shape opened state)
    → UnitsAreKept state.words state.actors (order_of kept.anatomy)

-- its units in transit are local
abbrev pub KeptTransitIsLocal : Type 0
KeptTransitIsLocal = (shape : Dimensions) (opened : Anatomy) (state : State) → Invariant shape opened state
    → TransitIsLocal (word_at (opening_of shape opened).words VERSION_WORD) state.words state.actors

-- its marks are what was taken
abbrev pub KeptMarksAreTaken : Type 0
KeptMarksAreTaken = (shape : Dimensions) (opened : Anatomy) (state : State) → (kept : Invariant shape opened state)
    → MarksAreTaken (word_at (opening_of shape opened).words VERSION_WORD) state.words state.actors (order_of kept.anatomy)

-- its sums are the amounts
abbrev pub KeptSumsAreAmounts : Type 0
KeptSumsAreAmounts = (shape : Dimensions) (opened : Anatomy) (state : State) → IsOpening shape opened → (kept : Invariant shape opened state)
    → SumsAreAmounts (opening_of shape opened).words state.words state.actors (order_of kept.anatomy)

-- its records hold what they were given
abbrev pub KeptRecordsHold : Type 0
KeptRecordsHold = (shape : Dimensions) (opened : Anatomy) (state : State) → IsOpening shape opened → (kept : Invariant shape opened state)
    → RecordsHold (opening_of shape opened).words (opening_of shape opened).claims state.words state.actors (order_of kept.anatomy)

-- its totals are what was counted
abbrev pub KeptTotalsAreCounted : Type 0
KeptTotalsAreCounted = (shape : Dimensions) (opened : Anatomy) (state : State) → (kept : Invariant shape opened state)
    → TotalsAreCounted (word_at (opening_of shape opened).words VERSION_WORD) state.words state.actors (order_of kept.anatomy)

-- a kept state is consistent, in all its parts, whatever its segment was opened with
abbrev pub KeptIsConsistent : Type 0
KeptIsConsistent = (shape : Dimensions) (opened : Anatomy) (state : State) → IsOpening shape opened → Invariant shape opened state
    → IsConsistent (opening_of shape opened) state
