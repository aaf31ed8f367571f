-- What the steps report to their caller that announce what a `hist` returned.
use Rattle.std.specs.Prelude.{◌≡◌, false, ℕ, map, Some}
use Rattle.std.specs.List.{All}
use mathlib.Core.Option.{some}
use Rattle.atomic_table.specs.Table.{Step}
use Rattle.segment_machine.specs.declared.actor.Actor.{Actor}
use Rattle.segment_machine.specs.declared.actor.Known.{Known}
use Rattle.segment_machine.specs.declared.actor.Made.TheVariants.{Histogram}
use Rattle.segment_machine.specs.Actor.{is_opener}
use Rattle.segment_machine.specs.Calls.{MayTurn}
use Rattle.segment_machine.specs.Note.{declines, knows, noted, MayNote}
use Rattle.segment_promises.specs.Follows.{noted_by}
use Rattle.live_segment.specs.declared.rule.Announcement.{Announcement}
use Rattle.live_segment.specs.Steps.Listing.{asked_for}
use Rattle.live_segment.specs.Steps.{IsSame, Pass, Sat}

-- what is announced of the record at a word
abbrev pub IsSaid : ℕ → Announcement → Known → Type 0
IsSaid reference said known = (asked_for said ≡ Some (Histogram known.name known.spec)) × (known.reference ≡ reference)

-- all histograms that it knows by that record have one name
abbrev pub HaveOneName : Known → Actor → Type 0
HaveOneName mine a = All (λ (known : Known). known.reference ≡ mine.reference → known.name ≡ mine.name) a.answers.names

-- a `hist` returns what is announced of the record at a word
abbrev pub NotesKnown : Step Announcement → Sat → ℕ → Sat → Type 0
NotesKnown st me found me' =
    (said : Announcement) (known : Known) → st.said ≡ some said → IsSaid st.first said known
    → (me'.0 ≡ noted me.0 (knows known)) × (me'.1 ≡ me.1) × HaveOneName known me.0

-- a recorder's seat may announce that
pub record MayKnow (reference : ℕ) (said : Announcement) (seat : Pass) : Type 0 where
  pub recorder : is_opener seat.me.0.role ≡ false
  pub free : MayTurn seat.me.0
  pub known : Known
  pub says : IsSaid reference said known
  pub may : MayNote seat.me.0 (knows known)

-- it has announced that
abbrev pub HasKnown : ℕ → Announcement → Pass → Pass → Type 0
HasKnown reference said old new =
    (known : Known) → IsSaid reference said known → IsSame old new × (new.me.0 ≡ noted old.me.0 (knows known)) × HaveOneName known old.me.0

-- the answers that it owes become refusals
abbrev pub Declines : Sat → ℕ → Sat → Type 0
Declines me found me' = (me'.0 ≡ noted_by me.0 (map declines me.0.answers.owed)) × (me'.1 ≡ me.1)
