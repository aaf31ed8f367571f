-- What a call on a shared cursor changes in a recorder: it was given a record, or found the end of the list at the cursor.
use Rattle.std.specs.Prelude.{◌≡◌, false, ℕ, ◌+◌, ◌<◌, ◌≤◌, List, [], ◌∷◌, ◌++◌, length, Option, Some, None, slice_index, slice_set}
use Rattle.std.specs.List.{All, Contains}
use Rattle.segment_image.specs.declared.layout.TheConstants.{BLOCK_LEAST, BLOCK_NEXT, HEADER_WORDS, QUEUE}
use lib.ListN.{get_elem?}
use mathlib.Core.Option.{some}
use Rattle.list_core.specs.Chain.{AreNeighbours}
use Rattle.list_core.specs.Walk.{IsPrefix, stands_behind}
use Rattle.segment_machine.specs.declared.actor.Actor.{Actor}
use Rattle.segment_machine.specs.declared.actor.Given.{Given}
use Rattle.segment_machine.specs.declared.place.Place.TheVariants.{Idle, CursorLoaded, BehindCursor}
use Rattle.segment_machine.specs.declared.seen.Sighting.{Sighting}
use Rattle.segment_machine.specs.Actor.{is_bound}
use Rattle.segment_machine.specs.Calls.{sight}
use Rattle.segment_machine.specs.Cursors.{load_cursor, move_cursor}
use Rattle.segment_machine.specs.Event.{cursor_event}
use Rattle.segment_machine.specs.Walking.{extended, records_met, IsNextOf}
use Rattle.segment_promises.specs.Onward.{Grows}
use Rattle.live_segment.specs.List.Ends.{FoundEndAt}
use Rattle.live_segment.specs.Steps.{DoesAt, Sat}

-- ---- its steps

-- a shared cursor is loaded, by a recorder that counts for each of them how often it came too late
abbrev pub LoadsCursor : ℕ → Sat → ℕ → Sat → Type 0
LoadsCursor word me found me' =
    DoesAt (λ cursor. cursor_event (load_cursor cursor)) word me found me' × (length me.0.done.lost ≡ me.0.segment.cursors)

-- What shared cursors gave a recorder: what one cursor gave is on a chain, in the order in which it was given. The chain begins with all
-- that the recorder has seen of the list, and has each record that it made, was given, or saw as the tail or at a shared cursor.
pub record GaveInOrder (chain : List ℕ) (a : Actor) : Type 0 where
  pub seen : IsPrefix a.seen.chain chain
  pub met : All (Contains chain) (records_met a)
  pub rises : (i j k l : ℕ) (x y : Given) → i < j → get_elem? a.done.given i ≡ some x → get_elem? a.done.given j ≡ some y → x.cursor ≡ y.cursor
      → get_elem? chain k ≡ some x.reference → get_elem? chain l ≡ some y.reference → k < l

-- A shared cursor is moved, or its exchange comes too late: the record that it was to be moved to is the next one on the list.
abbrev pub CursorMovesOn : ℕ → ℕ → Actor → Type 0
CursorMovesOn old new a = (chain : List ℕ) × AreNeighbours chain old new × GaveInOrder chain a

-- a step moves a shared cursor, and what it gave is in order
abbrev pub MovesCursor : ℕ → ℕ → ℕ → Sat → ℕ → Sat → Type 0
MovesCursor word old new me found me' =
    DoesAt (λ cursor. cursor_event (move_cursor cursor old new)) word me found me'
    × ((cursor : ℕ) → me.0.hand.place ≡ BehindCursor cursor old new → CursorMovesOn old new me'.0)

-- ---- what came before

-- Exchanges of a shared cursor came too late, or none did. At them the cursor was seen, and the nexts of the blocks where it was; all else
-- is unchanged.
pub record IsLate (cursor : ℕ) (old new : Actor) : Type 0 where
  pub same : new ≡ record old {
    hand = record old.hand { place = new.hand.place };
    done = record old.done { lost = new.done.lost };
    seen = record old.seen { chain = new.seen.chain; cursors = new.seen.cursors };
  }
  pub free : is_bound new.hand.place ≡ false
  pub lost : new.done.lost ≡ slice_set old.done.lost cursor (slice_index new.done.lost cursor)
  pub more : slice_index old.done.lost cursor ≤ slice_index new.done.lost cursor
  pub chain : Grows old.seen.chain new.seen.chain
  pub sights : List Sighting
  pub cursors : new.seen.cursors ≡ old.seen.cursors ++ sights
  pub of : All (λ s. s.at ≡ cursor) sights

-- ---- what it found then

-- it has loaded a shared cursor, which is at a block
abbrev pub at_cursor : Actor → ℕ → ℕ → Actor
at_cursor a cursor at = record a {
  hand = record a.hand { place = CursorLoaded cursor at };
  seen = record a.seen { cursors = a.seen.cursors ++ sight cursor at };
}

-- it was given the record after that block, and the cursor is there now
abbrev pub given_behind : Actor → ℕ → ℕ → ℕ → Actor
given_behind a cursor at reference = record a {
  hand = record a.hand { place = Idle };
  done = record a.done { given = a.done.given ++ record { cursor = cursor; reference = reference } ∷ [] };
  seen = record a.seen {
    chain = extended a.seen.chain at reference;
    cursors = (a.seen.cursors ++ sight cursor at) ++ sight cursor reference;
  };
}

-- it has loaded the next of that block, and found the end of the list there
abbrev pub ended_at : Actor → ℕ → ℕ → Actor
ended_at a cursor at = record a {
  hand = record a.hand { place = Idle };
  seen = record a.seen { cursors = a.seen.cursors ++ sight cursor at; ends = a.seen.ends ++ (at + BLOCK_NEXT) ∷ [] };
}

-- The cursor gave the record that came next on the list after the place where it was when the exchange succeeded. It is a record within the
-- segment. All that cursors gave the recorder is on that list, in order.
pub record IsGivenNext (cursor : ℕ) (old : Actor) (reference : ℕ) (new : Actor) : Type 0 where
  pub late : Actor
  pub before : IsLate cursor old late
  pub at : ℕ
  pub next : IsNextOf (at_cursor late cursor at) at reference
  pub behind : HEADER_WORDS ≤ reference
  pub within : reference + BLOCK_LEAST ≤ old.segment.shape.size
  pub view : new ≡ given_behind late cursor at reference
  pub chain : List ℕ
  pub neighbours : AreNeighbours chain at reference
  pub ordered : GaveInOrder chain new

-- The list ended where the cursor was, when the call loaded the next there. A chain that ends there has all that the recorder has seen of
-- the list, and each record that it made, was given, or saw as the tail or at a shared cursor.
pub record IsAtEnd (cursor : ℕ) (old new : Actor) : Type 0 where
  pub late : Actor
  pub before : IsLate cursor old late
  pub at : ℕ
  pub next : IsNextOf (at_cursor late cursor at) at QUEUE
  pub view : new ≡ ended_at late cursor at
  pub found : FoundEndAt at old.seen new.seen
  pub chain : List ℕ
  pub seen : IsPrefix new.seen.chain chain
  pub ends : stands_behind chain ≡ at
  pub met : All (Contains chain) (records_met new)

-- what a call on a shared cursor returns: a record, or none at the end
abbrev pub AnswersNext : ℕ → Actor → Option ℕ → Actor → Type 0
AnswersNext cursor old (Some reference) new = IsGivenNext cursor old reference new
AnswersNext cursor old None new = IsAtEnd cursor old new

-- what a recorder was given by such a call
abbrev pub gift : ℕ → Option ℕ → List Given
gift cursor (Some reference) = record { cursor = cursor; reference = reference } ∷ []
gift cursor None = []
