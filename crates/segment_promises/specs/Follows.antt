-- What follows at once for code that steps a segment: with one event a call over plain words, or by threads over a table of shared words.
use Rattle.std.specs.Prelude.{◌≡◌, ℕ, ◌+◌, List, [], ◌∷◌, false}
use mathlib.Core.Option.{some}
use lib.ListN.{get_elem?}
use Rattle.atomic_table.specs.Table as table
use Rattle.segment_image.specs.Shape.{Dimensions}
use Rattle.segment_machine.specs.declared.actor.Actor.{Actor}
use Rattle.segment_machine.specs.Event.{Event, spot, change, next, Ready, Learned}
use Rattle.segment_machine.specs.Note.{Note, Notes, noted}
use Rattle.segment_machine.specs.Seats.{MayOffer, offering, MaySplit, parent, newcomer, getter, purse, MayFill, lender, MayPour, MayJoin, joined, spent}
use Rattle.segment_machine.specs.State.{State, memory, IsStep}
use Rattle.segment_machine.specs.Reached.{IsReached}
use Rattle.segment_invariant.specs.Body.{Anatomy}
use Rattle.segment_invariant.specs.Invariant.{Invariant}
use Rattle.segment_invariant.specs.Keeps.{found_at}
use Rattle.segment_machine.specs.Actor.{is_opener, offered_of}

-- ---- a step

-- a step keeps what holds, and its actor learns of the number that was found
abbrev pub StepsFollow : Type 0
StepsFollow = (shape : Dimensions) (opened : Anatomy) (old new : State) (id : ℕ) (event : Event)
    → (step : IsStep opened.version old id event new)
    → Invariant shape opened old → Invariant shape opened new × Learned step.at event (found_at old event)

-- ---- a table's words and views

-- A segment as a table's words: one that never changes, those of the segment and those of the shared cursors; its views are the actors. Its
-- state is one to which the segment came from the state in which it was opened, in whatever order actors stepped.
pub record Running (S : Type 0) (shape : Dimensions) (opened : Anatomy) (start : State) (s : table.State S Actor) : Type 0 where
  pub anchor : ℕ
  pub segment : State
  pub words : s.words ≡ anchor ∷ memory segment
  pub views : s.views ≡ segment.actors
  pub reached : IsReached opened.version start segment
  pub kept : Invariant shape opened segment

-- a table is opened with a word of its own, then the words of a kept segment, and with the view of the segment's one actor: a new segment's
-- opener, or that of an adopted image
abbrev pub TablesOpen : Type 0 → Type 0
TablesOpen S = (shape : Dimensions) (opened : Anatomy) (start : State) (opener : Actor) (anchor : ℕ) (xs : List S) → Invariant shape opened start
    → start.actors ≡ opener ∷ [] → Running S shape opened start (table.opening (anchor ∷ memory start) xs opener)

-- when a table is closed, its words are those of a kept segment, which came there from the state in which it was opened, and whose opener
-- has the view of the first seat
abbrev pub TablesClose : Type 0 → Type 0
TablesClose S = (shape : Dimensions) (opened : Anatomy) (start : State) (words : List ℕ) (xs : List S) (opener : Actor)
    → table.Final (table.Seen (Running S shape opened start) 0 opener) words xs
    → (anchor : ℕ) × (state : State) × (words ≡ anchor ∷ memory state) × IsReached opened.version start state × Invariant shape opened state
    × (get_elem? state.actors 0 ≡ some opener)

-- ---- a table's step

-- what notes make of an actor, one after the other
abbrev pub noted_by : Actor → List Note → Actor
noted_by a [] = a
noted_by a (note ∷ rest) = noted_by (noted a note) rest

-- What a step makes of its seat: the actor makes notes, does the event, which finds `found`, and makes notes that may depend on that
-- number; and what the actor learns. The slots that the seat has taken stay with it.
abbrev pub GhostNoted : {S : Type 0} → List Note → Event → (ℕ → List Note) → table.Me S Actor → ℕ → table.Me S Actor → Type 0
GhostNoted before event behind me found me' =
    (me'.0 ≡ noted_by (next (noted_by me.0 before) event found) (behind found)) × (me'.1 ≡ me.1)
    × Learned (noted_by me.0 before) event found

-- an actor may make some notes, one after the other
abbrev pub MayNoteAll : Actor → List Note → Type 0
MayNoteAll a notes = Notes a notes (noted_by a notes)

-- A table whose slots have values of a type may do a step on a segment that is an event of a recorder, with notes before and after it: the
-- step's word is the event's, counted after the one that never changes, and what becomes of it is what the event makes of it. What was
-- learned of the number that was found may be used to make the notes after it.
abbrev pub TablesFollow : Type 0 → Type 0
TablesFollow S = (shape : Dimensions) (opened : Anatomy) (start : State) (before : List Note) (event : Event) (behind : ℕ → List Note) (slots id : ℕ)
    (me : table.Me S Actor) (word : ℕ)
    → word ≡ spot shape.size event + 1 → is_opener me.0.role ≡ false → MayNoteAll me.0 before → Ready (noted_by me.0 before) event
    → ((found : ℕ) → Learned (noted_by me.0 before) event found → MayNoteAll (next (noted_by me.0 before) event found) (behind found))
    → table.Allows (Running S shape opened start) slots id me word (change opened.version event) (GhostNoted before event behind me)

-- an announcement: notes at a step on the word that never changes
abbrev pub TablesAnnounce : Type 0 → Type 0
TablesAnnounce S = (shape : Dimensions) (opened : Anatomy) (start : State) (notes : List Note) (slots id : ℕ) (me : table.Me S Actor) (becomes : ℕ → ℕ)
    → ((n : ℕ) → becomes n ≡ n) → is_opener me.0.role ≡ false → MayNoteAll me.0 notes
    → table.Allows (Running S shape opened start) slots id me 0 becomes (λ found me'. (me'.0 ≡ noted_by me.0 notes) × (me'.1 ≡ me.1))

-- an offer: by a step on the word that never changes an opener says how many units it hands out next
abbrev pub TablesOffer : Type 0 → Type 0
TablesOffer S = (shape : Dimensions) (opened : Anatomy) (start : State) (units slots id : ℕ) (me : table.Me S Actor) (becomes : ℕ → ℕ)
    → ((n : ℕ) → becomes n ≡ n) → MayOffer me.0 units
    → table.Allows (Running S shape opened start) slots id me 0 becomes (λ found me'. (me'.0 ≡ offering me.0 units) × (me'.1 ≡ me.1))

-- ---- a table's seats

-- an opener's seat may be split in two if the opener may make a recorder
abbrev pub TablesSplit : Type 0 → Type 0
TablesSplit S = (shape : Dimensions) (opened : Anatomy) (start : State) (id : ℕ) (a : Actor) → MaySplit a
    → table.Splits (Running S shape opened start) id a (parent a) (newcomer a)

-- an opener's seat may take in a recorder's if the opener may join that recorder
abbrev pub TablesJoin : Type 0 → Type 0
TablesJoin S = (shape : Dimensions) (opened : Anatomy) (start : State) (id other : ℕ) (a b : Actor) → MayJoin a b
    → table.Joins (Running S shape opened start) id a other b (joined a b) spent

-- an opener's seat may be split in two if the opener may fill a purse
abbrev pub TablesFill : Type 0 → Type 0
TablesFill S = (shape : Dimensions) (opened : Anatomy) (start : State) (id : ℕ) (a : Actor) → MayFill a
    → table.Splits (Running S shape opened start) id a (lender a) (purse (offered_of a.role))

-- a recorder's seat may take in that of a purse that may be poured out to it
abbrev pub TablesPour : Type 0 → Type 0
TablesPour S = (shape : Dimensions) (opened : Anatomy) (start : State) (id other : ℕ) (b c : Actor) → MayPour b c
    → table.Joins (Running S shape opened start) id b other c (getter b c.units.share) spent
