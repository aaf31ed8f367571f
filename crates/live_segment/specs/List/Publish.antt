-- What it takes to put a block of its own on the list, and what that changes in a recorder.
use Rattle.std.specs.Prelude.{◌≡◌, ◌≤◌, ℕ, List, [], ◌∷◌, ◌++◌, Some, None}
use Rattle.segment_machine.specs.declared.actor.Actor.{Actor}
use Rattle.segment_machine.specs.declared.actor.Known.{Known}
use Rattle.segment_machine.specs.declared.actor.Made.{Made}
use Rattle.segment_machine.specs.declared.actor.Made.TheVariants.{Histogram, Sample}
use Rattle.segment_machine.specs.declared.actor.Own.{Own}
use Rattle.segment_machine.specs.declared.place.Place.TheVariants.{Idle}
use Rattle.segment_machine.specs.Calls.{without}
use Rattle.segment_machine.specs.Made.{IsPayload}
use Rattle.segment_machine.specs.Publishing.{own_at, MayPublish}
use Rattle.live_segment.specs.declared.rule.Announcement.{Announcement}
use Rattle.live_segment.specs.Steps.Listing.{asked_for}
use Rattle.segment_promises.specs.Onward.{Grows}

-- Its block at a word has all that it needs to be published as this: the words of its payload, and a valid type and size. Its next is not
-- stored yet, and what it is to hold is not noted yet.
pub record IsFilledAs (a : Actor) (at : ℕ) (made : Made) : Type 0 where
  pub own : Own
  pub stands : own_at a.hand.own at ≡ Some own
  pub next : own.next ≡ 0
  pub asked : own.made ≡ None
  pub payload : IsPayload made own.payload
  pub may : MayPublish a own made

-- a block is filled as the record that is announced
abbrev pub IsFilledFor : Actor → ℕ → Announcement → Type 0
IsFilledFor a at saying = (made : Made) × (asked_for saying ≡ Some made) × IsFilledAs a at made

-- what is owed for a record that is published: a `hist` owes its answer
abbrev pub owed_as : ℕ → Made → List Known
owed_as at (Histogram name spec) = record { name = name; spec = spec; reference = at } ∷ []
owed_as at (Sample histogram value) = []

-- A record is published at a word: it is on the list, and no longer one of its own blocks. Other records may have been linked first, and
-- tails were seen; all else is unchanged.
pub record HasPublished (at : ℕ) (made : Made) (old new : Actor) : Type 0 where
  pub view : new ≡ record old {
    hand = record { place = Idle; own = without at old.hand.own };
    done = record old.done { published = old.done.published ++ record { reference = at; made = made } ∷ []; beaten = new.done.beaten };
    seen = record old.seen { tails = new.seen.tails };
    answers = record old.answers { owed = old.answers.owed ++ owed_as at made };
  }
  pub tails : Grows old.seen.tails new.seen.tails
  pub beaten : old.done.beaten ≤ new.done.beaten

-- it is published as the record that is announced
abbrev pub HasPublishedFor : ℕ → Announcement → Actor → Actor → Type 0
HasPublishedFor at saying old new = (made : Made) → asked_for saying ≡ Some made → HasPublished at made old new
