-- What counting steps note with their events: that an entry begins, that its amount is known, and that the call ends.
use Rattle.std.specs.Prelude.{◌≡◌, false, ℕ, ◌+◌, ◌-◌, ◌/◌, ℤ, pos, unsigned_abs, List, [], ◌∷◌, if◌then◌else◌, Some, FitsSigned}
use Rattle.std.specs.List.{list_all}
use Rattle.std.specs.Int.{cast_unsigned, w64}
use Rattle.segment_image.specs.declared.layout.TheConstants.{BLOCK_HEADER, HISTOGRAM_REDUNDANT, HISTOGRAM_SINGLE, HISTOGRAM_SUM, SAMPLE_COUNT}
use Rattle.segment_machine.specs.declared.entry.EntryProgress.{EntryProgress}
use Rattle.segment_machine.specs.declared.entry.Entry.{Entry}
use Rattle.segment_machine.specs.declared.actor.Actor.{Actor}
use Rattle.segment_machine.specs.declared.actor.Known.{Known}
use Rattle.segment_machine.specs.declared.place.Look.{Look}
use Rattle.segment_machine.specs.declared.place.Place.TheVariants.{Looking, Moving}
use Rattle.segment_machine.specs.Actor.{bucket_key, cost_total, is_opener, known_at}
use Rattle.segment_machine.specs.Entry.{has_ended, sum_entry}
use Rattle.segment_machine.specs.Event.{Event, Learned, next, Ready, counting_event, packing_event}
use Rattle.segment_machine.specs.Counting.{add_count, add_sum, add_redundant}
use Rattle.segment_machine.specs.Packing.{pack, add_moved}
use Rattle.segment_machine.specs.Form.{IsPacking}
use Rattle.segment_machine.specs.Made.{SawSample}
use Rattle.segment_machine.specs.Note.{Note, begins, goes_on, amounts, ends}
use Rattle.segment_promises.specs.Follows.{MayNoteAll, noted_by, GhostNoted}
use Rattle.live_segment.specs.Steps.{Does, IsSame, Pass, Sat}

-- ---- which entry begins

-- units of a bucket of a histogram, and of a value of a sparse one, before their amount is known
abbrev pub bucket_entry : Known → ℕ → ℕ → Entry
bucket_entry known bucket units = record { name = known.name; key = bucket_key (Some known) bucket; units = units; amount = pos 0 }

abbrev pub value_entry : Known → ℤ → ℕ → Entry
value_entry known value units = record { name = known.name; key = value; units = units; amount = pos 0 }

-- A call begins with an entry, or continues with it if all of its entries have ended, and holds what it costs. An entry that has begun and
-- waits to be counted is not noted again.
abbrev pub opening_notes : List EntryProgress → Entry → ℕ → List Note
opening_notes [] entry cost = begins entry.name cost (entry ∷ []) ∷ []
opening_notes (c ∷ rest) entry cost = if list_all has_ended (c ∷ rest) then goes_on entry cost ∷ [] else []

-- what a sum costs beyond what its call holds: a unit for each 2^31 of its size
abbrev pub sum_cost : Actor → ℤ → ℕ
sum_cost a sum = (unsigned_abs sum + 2147483647) / 2147483648 - cost_total a.units.held

-- ---- accounts of a step: what it counts or adds, of a histogram that its actor knows

-- units of a bucket, in the single word
pub record InWord : Type 0 where
  pub known : Known
  pub bucket : ℕ
  pub units : ℕ

-- units of a bucket, in the counts at a word
pub record InCounts : Type 0 where
  pub known : Known
  pub counts : ℕ
  pub bucket : ℕ
  pub units : ℕ

-- units of a value, in a sample
pub record InSample : Type 0 where
  pub known : Known
  pub sample : ℕ
  pub value : ℤ
  pub units : ℕ

-- an amount, in the sum
pub record InSum : Type 0 where
  pub known : Known
  pub amount : ℤ

-- the actor knows this histogram, which alone has its reference there
abbrev pub KnowsAlone : Actor → Known → Type 0
KnowsAlone a known = known_at a.answers.names known.reference ≡ Some known

-- an exchange of the single word packs these units
abbrev pub IsPacked : Actor → ℕ → ℕ → ℕ → InWord → Type 0
IsPacked a histogram old new x = (x.known.reference ≡ histogram) × KnowsAlone a x.known × IsPacking x.bucket x.units old new

-- an addition to a word of the counts that its actor looks at adds these units
abbrev pub IsAddedTo : Actor → ℕ → ℕ → InCounts → Type 0
IsAddedTo a at units x =
    ((look : Look) × (a.hand.place ≡ Looking look) × (x.counts ≡ look.counts) × (x.known.reference ≡ look.histogram)) × KnowsAlone a x.known
    × (x.counts + BLOCK_HEADER + x.bucket ≡ at) × (x.units ≡ units)

-- an addition to a sample's count adds these units
abbrev pub IsAddedToSample : Actor → ℕ → ℕ → InSample → Type 0
IsAddedToSample a sample units x =
    (x.sample ≡ sample) × KnowsAlone a x.known × SawSample a.seen x.known.reference x.value x.sample × (x.units ≡ units)

-- an addition to a sum adds this amount
abbrev pub IsAddedToSum : Actor → ℕ → ℕ → InSum → Type 0
IsAddedToSum a histogram word x = (x.known.reference ≡ histogram) × KnowsAlone a x.known × (cast_unsigned w64 x.amount ≡ word) × FitsSigned w64 x.amount

-- an addition to a sum adds an amount that is passed to its step as it is
abbrev pub IsAmountAdded : Actor → ℕ → ℤ → InSum → Type 0
IsAmountAdded a histogram amount x = (x.known.reference ≡ histogram) × KnowsAlone a x.known × (x.amount ≡ amount)

-- ---- what steps report

-- the notes with which an entry begins if its call holds the entry's units for it; those for units of a bucket, for units of a value, and
-- for a sum
abbrev pub entry_notes : Actor → Entry → List Note
entry_notes a entry = opening_notes a.entries.running entry entry.units

abbrev pub bucket_notes : Actor → Known → ℕ → ℕ → List Note
bucket_notes a known bucket units = entry_notes a (bucket_entry known bucket units)

abbrev pub value_notes : Actor → Known → ℤ → ℕ → List Note
value_notes a known value units = entry_notes a (value_entry known value units)

abbrev pub sum_notes : Actor → Known → ℤ → List Note
sum_notes a known sum = opening_notes a.entries.running (sum_entry known.name sum) (sum_cost a sum)

-- notes, an event and notes again, as given by any account that fits the step
abbrev pub TellsOf : (X : Type 0) → (X → Type 0) → (X → List Note) → (X → Event) → List Note → Sat → ℕ → Sat → Type 0
TellsOf X Fits before event behind me found me' = (x : X) → Fits x → GhostNoted (before x) (event x) (λ found. behind) me found me'

-- units are packed
abbrev pub Packs : ℕ → ℕ → ℕ → Sat → ℕ → Sat → Type 0
Packs word old new me =
    TellsOf InWord (λ x. (word ≡ x.known.reference + HISTOGRAM_SINGLE + 1) × IsPacked me.0 x.known.reference old new x)
    (λ x. bucket_notes me.0 x.known x.bucket x.units) (λ x. packing_event (pack x.known.reference old new)) [] me

-- they are added to a count of their bucket
abbrev pub AddsToCount : ℕ → ℕ → Sat → ℕ → Sat → Type 0
AddsToCount word units me =
    TellsOf InCounts (λ x. (word ≡ x.counts + BLOCK_HEADER + x.bucket + 1) × IsAddedTo me.0 (x.counts + BLOCK_HEADER + x.bucket) units x)
    (λ x. bucket_notes me.0 x.known x.bucket x.units) (λ x. counting_event (add_count (x.counts + BLOCK_HEADER + x.bucket) units)) [] me

-- they are added to the count of a sample
abbrev pub AddsToSample : ℕ → ℕ → Sat → ℕ → Sat → Type 0
AddsToSample word units me =
    TellsOf InSample (λ x. (word ≡ x.sample + SAMPLE_COUNT + 1) × IsAddedToSample me.0 x.sample units x)
    (λ x. value_notes me.0 x.known x.value x.units) (λ x. counting_event (add_count (x.sample + SAMPLE_COUNT) units)) [] me

-- the amount of a sample becomes known, and is added
abbrev pub AddsAmount : ℕ → ℕ → Sat → ℕ → Sat → Type 0
AddsAmount word number me =
    TellsOf InSum (λ x. (word ≡ x.known.reference + HISTOGRAM_SUM + 1) × IsAddedToSum me.0 x.known.reference number x)
    (λ x. amounts x.amount ∷ []) (λ x. counting_event (add_sum x.known.reference x.amount)) [] me

-- the sum of a batch is added, and the batch ends
abbrev pub AddsSum : ℕ → ℕ → Sat → ℕ → Sat → Type 0
AddsSum word number me =
    TellsOf InSum (λ x. (word ≡ x.known.reference + HISTOGRAM_SUM + 1) × IsAddedToSum me.0 x.known.reference number x)
    (λ x. sum_notes me.0 x.known x.amount) (λ x. counting_event (add_sum x.known.reference x.amount)) (ends ∷ []) me

-- units are added to the redundant count, and the call ends
abbrev pub AddsLast : ℕ → ℕ → Sat → ℕ → Sat → Type 0
AddsLast word units me =
    TellsOf ℕ (λ histogram. word ≡ histogram + HISTOGRAM_REDUNDANT + 1) (λ histogram. []) (λ histogram. counting_event (add_redundant histogram units))
    (ends ∷ []) me

-- units of a bucket that were in transit are added to its count
abbrev pub AddsMoved : ℕ → Sat → ℕ → Sat → Type 0
AddsMoved units me found me' =
    (look : Look) (bucket moving : ℕ) → me.0.hand.place ≡ Moving look bucket moving → Does (packing_event (add_moved look.counts bucket units)) me found me'

-- ---- what becomes of a seat

-- a recorder's seat may do an event with notes before it and after it
pub record MayDo (seat : Pass) (before : List Note) (event : Event) (behind : List Note) : Type 0 where
  pub recorder : is_opener seat.me.0.role ≡ false
  pub may : MayNoteAll seat.me.0 before
  pub ready : Ready (noted_by seat.me.0 before) event
  pub goes : (found : ℕ) → Learned (noted_by seat.me.0 before) event found → MayNoteAll (next (noted_by seat.me.0 before) event found) behind

-- what the seat is after that, by the number that was found
pub record Noted (old : Pass) (before : List Note) (event : Event) (behind : List Note) (found : ℕ) (new : Pass) : Type 0 where
  pub same : IsSame old new
  pub view : new.me.0 ≡ noted_by (next (noted_by old.me.0 before) event found) behind
  pub learned : Learned (noted_by old.me.0 before) event found

-- by one account of a step that fits, the seat may do that
abbrev pub MayDoOf : (X : Type 0) → (X → Type 0) → (X → List Note) → (X → Event) → List Note → Pass → Type 0
MayDoOf X Fits before event behind seat = (x : X) × Fits x × MayDo seat (before x) (event x) behind

-- by any account of a step that fits, the seat has done that
abbrev pub NotedOf : (X : Type 0) → (X → Type 0) → (X → List Note) → (X → Event) → List Note → Pass → ℕ → Pass → Type 0
NotedOf X Fits before event behind old found new = (x : X) → Fits x → Noted old (before x) (event x) behind found new

-- it may try to pack units
abbrev pub MayPack : Pass → ℕ → ℕ → ℕ → Type 0
MayPack seat histogram old new =
    MayDoOf InWord (IsPacked seat.me.0 histogram old new) (λ x. bucket_notes seat.me.0 x.known x.bucket x.units)
    (λ x. packing_event (pack x.known.reference old new)) [] seat

-- it has tried to pack units
abbrev pub HasPacked : Pass → ℕ → ℕ → ℕ → ℕ → Pass → Type 0
HasPacked seat histogram old new found after =
    NotedOf InWord (IsPacked seat.me.0 histogram old new) (λ x. bucket_notes seat.me.0 x.known x.bucket x.units)
    (λ x. packing_event (pack x.known.reference old new)) [] seat found after

-- it may add units to a count of a bucket
abbrev pub MayAddTo : Pass → ℕ → ℕ → Type 0
MayAddTo seat at units =
    MayDoOf InCounts (IsAddedTo seat.me.0 at units) (λ x. bucket_notes seat.me.0 x.known x.bucket x.units)
    (λ x. counting_event (add_count (x.counts + BLOCK_HEADER + x.bucket) units)) [] seat

-- it has added units to a count of a bucket
abbrev pub HasAddedTo : Pass → ℕ → ℕ → ℕ → Pass → Type 0
HasAddedTo seat at units found after =
    NotedOf InCounts (IsAddedTo seat.me.0 at units) (λ x. bucket_notes seat.me.0 x.known x.bucket x.units)
    (λ x. counting_event (add_count (x.counts + BLOCK_HEADER + x.bucket) units)) [] seat found after

-- it may add units to the count of a sample
abbrev pub MaySample : Pass → ℕ → ℕ → Type 0
MaySample seat sample units =
    MayDoOf InSample (IsAddedToSample seat.me.0 sample units) (λ x. value_notes seat.me.0 x.known x.value x.units)
    (λ x. counting_event (add_count (x.sample + SAMPLE_COUNT) units)) [] seat

-- it has added units to the count of a sample
abbrev pub HasSampled : Pass → ℕ → ℕ → ℕ → Pass → Type 0
HasSampled seat sample units found after =
    NotedOf InSample (IsAddedToSample seat.me.0 sample units) (λ x. value_notes seat.me.0 x.known x.value x.units)
    (λ x. counting_event (add_count (x.sample + SAMPLE_COUNT) units)) [] seat found after

-- it may add the amount of a sample to the sum
abbrev pub MayAmount : Pass → ℕ → ℤ → Type 0
MayAmount seat histogram amount =
    MayDoOf InSum (IsAmountAdded seat.me.0 histogram amount) (λ x. amounts x.amount ∷ []) (λ x. counting_event (add_sum x.known.reference x.amount)) [] seat

-- it has added the amount of a sample to the sum
abbrev pub HasAmount : Pass → ℕ → ℤ → ℕ → Pass → Type 0
HasAmount seat histogram amount found after =
    NotedOf InSum (IsAmountAdded seat.me.0 histogram amount) (λ x. amounts x.amount ∷ []) (λ x. counting_event (add_sum x.known.reference x.amount)) [] seat found after

-- it may add the sum of a batch to the sum, and ends its entry
abbrev pub MaySum : Pass → ℕ → ℤ → Type 0
MaySum seat histogram sum =
    MayDoOf InSum (IsAmountAdded seat.me.0 histogram sum) (λ x. sum_notes seat.me.0 x.known x.amount)
    (λ x. counting_event (add_sum x.known.reference x.amount)) (ends ∷ []) seat

-- it has added the sum of a batch to the sum, and ended its entry
abbrev pub HasSum : Pass → ℕ → ℤ → ℕ → Pass → Type 0
HasSum seat histogram sum found after =
    NotedOf InSum (IsAmountAdded seat.me.0 histogram sum) (λ x. sum_notes seat.me.0 x.known x.amount)
    (λ x. counting_event (add_sum x.known.reference x.amount)) (ends ∷ []) seat found after
