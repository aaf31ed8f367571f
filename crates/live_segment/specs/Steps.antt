-- What steps report to their caller.
pub mod Answering
pub mod GhostNotes
pub mod Listing
pub mod Taking
pub mod Prelude
use Rattle.std.specs.Prelude.{◌≡◌, Bool, true, false, nat_lt, ◌==◌, ℕ, ◌+◌, ◌≤◌, List, [], ◌∷◌}
use mathlib.Core.Option.{some}
use Rattle.atomic_table.specs.Table.{Me, Step}
use Rattle.atomic_table.specs.declared.shared.Seat.{Seat}
use Rattle.segment_calls.specs.declared.refusal.Refusal.{Refusal}
use Rattle.segment_calls.specs.declared.refusal.Refusal.TheVariants.{NoUnits, TooMany}
use Rattle.segment_machine.specs.declared.actor.Actor.{Actor}
use Rattle.segment_machine.specs.declared.place.Place.TheVariants.{Idle}
use Rattle.segment_machine.specs.Actor.{is_bound, is_opener, outstanding_of}
use Rattle.segment_machine.specs.Allocating.{exchange_free}
use Rattle.segment_machine.specs.Event.{Event, allocating_event, spot, next, Learned}
use Rattle.segment_machine.specs.Seats.{offering}
use Rattle.segment_promises.specs.Onward.{is_holding}
use Rattle.segment_promises.specs.Follows.{GhostNoted}
use Rattle.live_segment.specs.declared.rule.Announcement.{Announcement}
use Rattle.live_segment.specs.declared.rule.Announcement.TheVariants.{Units, Wanted}

-- a seat's view, and the slots that it has taken, which are none
abbrev pub Sat : Type 0
Sat = Me Announcement Actor

-- a seat of a segment's table
abbrev pub Pass : Type 0
Pass = Seat Announcement Actor

-- it is the same seat
abbrev pub IsSame : Pass → Pass → Type 0
IsSame old new = (new.table_id ≡ old.table_id) × (new.id ≡ old.id) × (new.me.1 ≡ old.me.1)

-- ---- events

-- an event has happened, and its actor has learned of the number that was found
abbrev pub Does : Event → Sat → ℕ → Sat → Type 0
Does event me found me' = GhostNoted [] event (λ found. []) me found me'

-- the same for an event at the place that the step's word gives
abbrev pub DoesAt : (ℕ → Event) → ℕ → Sat → ℕ → Sat → Type 0
DoesAt event word me found me' = (at : ℕ) → word ≡ spot me.0.segment.shape.size (event at) + 1 → Does (event at) me found me'

-- the free pointer is exchanged, for a block that needs as many words as announced
abbrev pub Raises : Step Announcement → Sat → ℕ → Sat → Type 0
Raises st me found me' = (words : ℕ) → st.said ≡ some (Wanted words) → Does (allocating_event (exchange_free st.first st.second words)) me found me'

-- what becomes of a seat at an event, by the number that was found
pub record Stepped (old : Pass) (event : Event) (found : ℕ) (new : Pass) : Type 0 where
  pub same : IsSame old new
  pub view : new.me.0 ≡ next old.me.0 event found
  pub learned : Learned old.me.0 event found

-- ---- seats

-- an opener has announced how many units its next recorder is to have
abbrev pub Offers : Step Announcement → Sat → ℕ → Sat → Type 0
Offers st me found me' = (units : ℕ) → st.said ≡ some (Units units) → (me'.0 ≡ offering me.0 units) × (me'.1 ≡ me.1)

-- an actor has no more units than a segment has
abbrev pub Bounds : Step Announcement → Sat → ℕ → Sat → Type 0
Bounds st me found me' = (me'.0 ≡ me.0) × (me'.1 ≡ me.1) × (me.0.units.share ≤ 4294967295)

-- why there is no recorder with this many units, in order
abbrev pub recorder_checks : Actor → ℕ → List (Bool × Refusal)
recorder_checks opener units = (nat_lt opener.units.share units, NoUnits) ∷ (outstanding_of opener.role == 256, TooMany) ∷ []

-- A recorder is in no call. It holds no free pointer, no single word and no counts of a histogram: a call uses only those that it has
-- loaded itself.
pub record IsAtRest (a : Actor) : Type 0 where
  pub recorder : is_opener a.role ≡ false
  pub free : is_bound a.hand.place ≡ false
  pub apart : is_holding a.hand.place ≡ false
  pub holds : a.units.held ≡ []
  pub runs : a.entries.running ≡ []
  pub takes : a.deltas.taking ≡ false
  pub owes : a.answers.owed ≡ []

-- an opener that may join a recorder, which is in no call
abbrev pub Joinable : Actor → Actor → Type 0
Joinable opener recorder = (opener.hand.place ≡ Idle) × (is_opener opener.role ≡ true) × IsAtRest recorder
