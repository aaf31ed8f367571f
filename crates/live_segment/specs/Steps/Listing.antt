-- What the steps that walk along the list, fill a block and publish it report to their caller.
use Rattle.std.specs.Prelude.{◌≡◌, ℕ, ◌+◌, List, [], ◌∷◌, Option, Some, None}
use mathlib.Core.Option.{some}
use mathlib.Core.Option as core
use Rattle.segment_image.specs.declared.layout.TheConstants.{BLOCK_HEADER, BLOCK_NEXT}
use Rattle.segment_machine.specs.declared.actor.Actor.{Actor}
use Rattle.segment_machine.specs.declared.actor.Made.{Made}
use Rattle.segment_machine.specs.declared.actor.Made.TheVariants as made
use Rattle.segment_machine.specs.declared.actor.Own.{Own}
use Rattle.segment_machine.specs.Allocating.{store_payload}
use Rattle.segment_machine.specs.Event.{Ready, allocating_event, publishing_event, walking_event}
use Rattle.segment_machine.specs.Note.{Note, asks}
use Rattle.segment_machine.specs.Publishing.{link, own_at}
use Rattle.segment_machine.specs.Walking.{load_published}
use Rattle.segment_machine.specs.Actor.{AreOwnBlocksApart}
use Rattle.live_segment.specs.declared.rule.Announcement.{Announcement}
use Rattle.live_segment.specs.declared.rule.Announcement.TheVariants.{Answer, Histogram, Sample, Units, Wanted}
use Rattle.live_segment.specs.Steps.{Does, Pass, Sat}
use Rattle.live_segment.specs.Steps.GhostNotes.{TellsOf, MayDoOf, NotedOf}

-- ---- one of several words

-- A word of a published record is loaded. If the step's word belongs to two records that may be looked at there, this holds for both.
abbrev pub LoadsPublished : ℕ → Sat → ℕ → Sat → Type 0
LoadsPublished word me found me' =
    (at index : ℕ) → word ≡ at + index + 1 → Ready me.0 (walking_event (load_published at index))
    → Does (walking_event (load_published at index)) me found me'

-- A word is stored in the payload of a block of its own, the block in which the step's word lies. No two of its own blocks begin at one
-- word.
abbrev pub StoresPayload : ℕ → ℕ → Sat → ℕ → Sat → Type 0
StoresPayload word value me found me' =
    (at index : ℕ) → word ≡ at + BLOCK_HEADER + index + 1 → Ready me.0 (allocating_event (store_payload at index value))
    → Does (allocating_event (store_payload at index value)) me found me' × AreOwnBlocksApart me.0

-- ---- what a record is to hold

-- what a record is to hold, by an announcement
abbrev pub asked_for : Announcement → Option Made
asked_for (Histogram asked) = Some (made.Histogram asked.name.items asked.spec)
asked_for (Sample histogram value) = Some (made.Sample histogram value)
asked_for (Units units) = None
asked_for (Wanted words) = None
asked_for (Answer histogram snapshot) = None

-- a block is asked to hold something once
abbrev pub asking_notes : Option Own → ℕ → Made → List Note
asking_notes None at made = []
asking_notes (Some own) at made = asking_unless own.made
  where
    asking_unless : Option Made → List Note
    asking_unless None = asks at made ∷ []
    asking_unless (Some before) = []

-- what is noted before a link: what its block is to hold, unless that is noted already
abbrev pub link_notes : Actor → ℕ → Made → List Note
link_notes a at made = asking_notes (own_at a.hand.own at) at made

-- where a link is, and what its record is to hold
pub record InLink : Type 0 where
  pub tail : ℕ
  pub made : Made

-- the block at a word is linked, as the record that is announced
abbrev pub Links : ℕ → ℕ → core.Option Announcement → Sat → ℕ → Sat → Type 0
Links word at said me =
    TellsOf InLink (λ x. (word ≡ x.tail + BLOCK_NEXT + 1) × ((saying : Announcement) × (said ≡ some saying) × (asked_for saying ≡ Some x.made)))
    (λ x. link_notes me.0 at x.made) (λ x. publishing_event (link x.tail at)) [] me

-- it may try to link a record at the tail
abbrev pub MayLink : Pass → ℕ → ℕ → Announcement → Type 0
MayLink seat tail at saying =
    MayDoOf Made (λ made. asked_for saying ≡ Some made) (λ made. link_notes seat.me.0 at made) (λ made. publishing_event (link tail at)) [] seat

-- it has tried to link a record at the tail
abbrev pub HasLinked : Pass → ℕ → ℕ → Announcement → ℕ → Pass → Type 0
HasLinked seat tail at saying found after =
    NotedOf Made (λ made. asked_for saying ≡ Some made) (λ made. link_notes seat.me.0 at made) (λ made. publishing_event (link tail at)) [] seat
    found after
