-- What the steps of deltas and snapshots report to their caller: that a call begins at its first load, and that a delta ends at its last event.
use Rattle.std.specs.Prelude.{◌≡◌, false, ℕ, ◌+◌, [], ◌∷◌}
use mathlib.Core.Option.{some}
use Rattle.std.specs.Int.{cast_signed, w64}
use Rattle.segment_image.specs.declared.layout.TheConstants.{HISTOGRAM_SUM_MARK}
use Rattle.segment_machine.specs.declared.actor.Actor.{Actor}
use Rattle.atomic_table.specs.Table.{Step}
use Rattle.segment_calls.specs.declared.answer.Snapshot.{Snapshot}
use Rattle.segment_machine.specs.declared.actor.Answered.{Answered}
use Rattle.segment_machine.specs.declared.actor.Known.{Known}
use Rattle.segment_machine.specs.Actor.{is_opener}
use Rattle.segment_machine.specs.Event.{Event, taking_event}
use Rattle.segment_machine.specs.Taking.{swap_sum_mark}
use Rattle.segment_machine.specs.Note.{takes, has_taken, looks, answers, noted, moment_of, MayNote}
use Rattle.live_segment.specs.declared.rule.Announcement.{Announcement}
use Rattle.live_segment.specs.declared.rule.Announcement.TheVariants.{Answer}
use Rattle.live_segment.specs.Steps.{IsSame, Pass, Sat}
use Rattle.live_segment.specs.Steps.GhostNotes.{KnowsAlone, TellsOf, MayDoOf, NotedOf}

-- ---- a delta begins

-- it is of this histogram
abbrev pub IsDeltaOf : Actor → ℕ → Known → Type 0
IsDeltaOf a histogram known = (known.reference ≡ histogram) × KnowsAlone a known

-- an event on the word at this offset in a histogram's record is the first of a delta of the histogram
abbrev pub IsFirstOfDelta : ℕ → (ℕ → Event) → ℕ → Sat → ℕ → Sat → Type 0
IsFirstOfDelta offset event word me =
    TellsOf Known (λ known. (word ≡ known.reference + offset + 1) × KnowsAlone me.0 known) (λ known. takes known.name ∷ []) (λ known. event known.reference) [] me

-- it may begin a delta of a histogram by this event
abbrev pub MayBeginDelta : Pass → ℕ → (ℕ → Event) → Type 0
MayBeginDelta seat histogram event =
    MayDoOf Known (IsDeltaOf seat.me.0 histogram) (λ known. takes known.name ∷ []) (λ known. event known.reference) [] seat

-- it has begun a delta of a histogram by this event
abbrev pub HasBegunDelta : Pass → ℕ → (ℕ → Event) → ℕ → Pass → Type 0
HasBegunDelta seat histogram event found after =
    NotedOf Known (IsDeltaOf seat.me.0 histogram) (λ known. takes known.name ∷ []) (λ known. event known.reference) [] seat found after

-- ---- a snapshot begins

-- the same for a snapshot, which notes only as it returns of which histogram it is
abbrev pub IsFirstOfSnapshot : ℕ → (ℕ → Event) → ℕ → Sat → ℕ → Sat → Type 0
IsFirstOfSnapshot offset event word me =
    TellsOf ℕ (λ histogram. word ≡ histogram + offset + 1) (λ histogram. looks ∷ []) event [] me

-- ---- a delta ends

-- the sum is swapped into the sum mark, and the delta ends
abbrev pub EndsDelta : ℕ → ℕ → Sat → ℕ → Sat → Type 0
EndsDelta word number me found me' =
    TellsOf ℕ (λ histogram. word ≡ histogram + HISTOGRAM_SUM_MARK + 1) (λ histogram. [])
    (λ histogram. taking_event (swap_sum_mark histogram (cast_signed w64 number))) (has_taken ∷ []) me found me'

-- ---- a snapshot ends

-- what a snapshot of a histogram saw, as its recorder keeps it
abbrev pub answered_as : Actor → Known → Snapshot → Answered
answered_as a known snapshot =
    record { name = known.name; counts = snapshot.counts.items; sum = snapshot.sum; redundant = snapshot.redundant; moment = moment_of a }

-- it is announced as the answer
abbrev pub NotesAnswer : Step Announcement → Sat → ℕ → Sat → Type 0
NotesAnswer st me found me' =
    (known : Known) (snapshot : Snapshot) → st.said ≡ some (Answer known.reference snapshot) → KnowsAlone me.0 known
    → (me'.0 ≡ noted me.0 (answers (answered_as me.0 known snapshot))) × (me'.1 ≡ me.1)

-- a recorder's seat may announce that
pub record MayAnswer (seat : Pass) (said : Announcement) : Type 0 where
  pub recorder : is_opener seat.me.0.role ≡ false
  pub known : Known
  pub snapshot : Snapshot
  pub says : said ≡ Answer known.reference snapshot
  pub alone : KnowsAlone seat.me.0 known
  pub may : MayNote seat.me.0 (answers (answered_as seat.me.0 known snapshot))

-- it has announced that
abbrev pub HasAnswered : Pass → Announcement → Pass → Type 0
HasAnswered seat said after =
    (known : Known) (snapshot : Snapshot) → said ≡ Answer known.reference snapshot → KnowsAlone seat.me.0 known
    → IsSame seat after × (after.me.0 ≡ noted seat.me.0 (answers (answered_as seat.me.0 known snapshot)))
