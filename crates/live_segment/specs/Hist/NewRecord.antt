-- What becomes of a recorder that makes the record of a histogram, and puts it on the list.
use Rattle.std.specs.Prelude.{◌≡◌, false, ℕ, ◌+◌, ◌≤◌, List, [], ◌∷◌, ◌++◌, length, Result, Ok, Err, Some, None}
use Rattle.segment_image.specs.declared.layout.TheConstants.{BLOCK_HEADER, TYPE_HISTOGRAM}
use Rattle.segment_machine.specs.declared.actor.Actor.{Actor}
use Rattle.segment_machine.specs.declared.actor.Made.TheVariants.{Histogram}
use Rattle.segment_machine.specs.declared.actor.Own.{Own}
use Rattle.segment_machine.specs.Calls.{MayTurn, change_last}
use Rattle.segment_machine.specs.Publishing.{own_at}
use Rattle.segment_calls.specs.declared.asked.Asked.{Asked}
use Rattle.segment_calls.specs.declared.refusal.Refusal.{Refusal}
use Rattle.live_segment.specs.declared.rule.Announcement.{Announcement}
use Rattle.live_segment.specs.Alloc.Allocation.{Allocates}
use Rattle.live_segment.specs.Alloc.Claims.{MakesOne}
use Rattle.live_segment.specs.Steps.Listing.{asked_for}
use Rattle.segment_promises.specs.Onward.{Grows, is_holding}
use Rattle.live_segment.specs.Hist.Search.{asked_at}

-- ---- its payload

-- the block that it claimed last begins at a word, is to be a histogram's record, and has room for this many words after its header;
-- nothing is stored there yet, and what it is to hold is not noted yet
pub record HasBlock (at words : ℕ) (a : Actor) : Type 0 where
  pub free : MayTurn a
  pub front : List Own
  pub own : Own
  pub is_last : a.hand.own ≡ front ++ own ∷ []
  pub begins : own.at ≡ at
  pub next : own.next ≡ 0
  pub empty : own.payload ≡ []
  pub unasked : own.made ≡ None
  pub tagged : own.tag ≡ TYPE_HISTOGRAM
  pub room : BLOCK_HEADER + words ≤ own.size

-- a block with another payload
abbrev pub filled_with : List ℕ → Own → Own
filled_with payload own = record own { payload = payload }

-- its own block at a word has this payload, and nothing else of it has changed
abbrev pub StandsFilled : ℕ → List ℕ → Actor → Type 0
StandsFilled at payload a = (own : Own) × (own_at a.hand.own at ≡ Some own) × (own.next ≡ 0) × (own.made ≡ None) × (own.payload ≡ payload)
    × (own.tag ≡ TYPE_HISTOGRAM)

-- the block that was last has this payload; all else is unchanged
pub record HasFilled (at : ℕ) (payload : List ℕ) (old new : Actor) : Type 0 where
  pub view : new ≡ record old { hand = record old.hand { own = change_last (filled_with payload) old.hand.own } }
  pub found : StandsFilled at payload new

-- ---- the record

-- what is announced is what is asked for
abbrev pub SaysAsked : Asked → Announcement → Type 0
SaysAsked asked said = asked_for said ≡ Some (Histogram asked.name.items asked.spec)

-- It has claimed a block and published it as the record of what is asked for, and owes the answer. It has seen only tails of the list.
pub record HasMade (asked : Asked) (old new : Actor) : Type 0 where
  pub at : ℕ
  pub view : new ≡ record old {
    hand = new.hand;
    done = record old.done {
      claimed = new.done.claimed;
      raised = new.done.raised;
      published = old.done.published ++ record { reference = at; made = Histogram asked.name.items asked.spec } ∷ [];
      beaten = new.done.beaten;
    };
    seen = record old.seen { free = new.seen.free; tails = new.seen.tails };
    answers = record old.answers { owed = old.answers.owed ++ asked_at asked at ∷ [] };
  }
  pub free : MayTurn new
  pub apart : is_holding new.hand.place ≡ false
  pub unspoiled : old.done.spoiled ≡ false
  pub claimed : Grows old.done.claimed new.done.claimed
  pub makes : MakesOne old.segment.shape (Histogram asked.name.items asked.spec) (BLOCK_HEADER + length asked.payload.items) old.done new.done
  pub later : old.seen.free ≤ new.seen.free
  pub tails : Grows old.seen.tails new.seen.tails

-- it has made one, or no block could be claimed for it
abbrev pub MakesRecord : Asked → Actor → Result Unit Refusal → Actor → Type 0
MakesRecord asked old (Ok _) new = HasMade asked old new
MakesRecord asked old (Err why) new = Allocates (BLOCK_HEADER + length asked.payload.items) TYPE_HISTOGRAM old (Err why) new
