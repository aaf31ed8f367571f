-- A new record: its words are claimed, its payload is stored there, and it is put on the list.
use Rattle.std.specs.Prelude.{◌≡◌, ◌≢◌, ℕ, ◌+◌, ◌-◌, ◌<◌, ◌≤◌, nat_lt, Bool, true, false, List, [], ◌∷◌, ◌++◌, length, replicate, take, slice_index, is_some, ⊤, Some, if◌then◌else◌}
use Rattle.segment_image.specs.declared.layout.TheConstants.{BLOCK_HEADER, HEADER_WORDS, TYPE_HISTOGRAM, TYPE_SAMPLE}
use Rattle.segment_image.specs.Shape.{Dimensions}
use Rattle.alloc_core.specs.Layout.{IsShape}
use Rattle.alloc_core.specs.Alloc as alloc
use Rattle.alloc_core.specs.declared.alloc.AllocStep.{AllocStep}
use Rattle.alloc_core.specs.declared.alloc.AllocStep.TheVariants as said
use Rattle.segment_calls.specs.declared.refusal.Refusal.{Refusal}
use Rattle.segment_calls.specs.declared.refusal.Refusal.TheVariants as why
use Rattle.list_core.specs.declared.publish.PubStep.{PubStep}
use Rattle.list_core.specs.declared.publish.PubStep.TheVariants as put
use Rattle.list_core.specs.Publish as publish
use Rattle.segment_machine.specs.declared.actor.Actor.{Actor}
use Rattle.segment_machine.specs.declared.actor.Made.{Made}
use Rattle.segment_machine.specs.declared.actor.Made.TheVariants.{Histogram, Sample}
use Rattle.segment_machine.specs.declared.actor.Own.{Own}
use Rattle.segment_machine.specs.declared.place.Place.TheVariants.{FreeLoaded}
use Rattle.segment_machine.specs.Made.{IsPayload}
use Rattle.segment_machine.specs.Publishing.{own_at, MayPublish}
use Rattle.segment_machine.specs.Stages.{FollowsAllocation, PublishesAt}
use Rattle.hist_core.specs.declared.new_record.NewRecord.{NewRecord}
use Rattle.hist_core.specs.declared.new_record.NewRecordStep.{NewRecordStep}
use Rattle.hist_core.specs.declared.new_record.NewRecordStep.TheVariants.{More, Done, Refused}
use Rattle.hist_core.specs.declared.new_record.NewRecordStage.{NewRecordStage}
use Rattle.hist_core.specs.declared.new_record.NewRecordStage.TheVariants.{Allocating, Filling, Publishing}
use Rattle.hist_core.specs.StepsBy.{SharedEffect, links, raises, DoesOnly, FrameOfStep, SeesNoMore, StepsBy, IsFree}

-- ---- what it makes

-- the type of a record
abbrev pub tag_of : Made → ℕ
tag_of (Histogram name spec) = TYPE_HISTOGRAM
tag_of (Sample histogram value) = TYPE_SAMPLE

-- A record that is wanted: what it is to hold, how many words it has after its header, and the first of these, which are stored unless they
-- are 0.
pub record Wanted : Type 0 where
  pub made : Made
  pub room : ℕ
  pub payload : List ℕ

-- An actor may make it: its first word is not 0, and it fits in a page. Any front of it that leaves out only zeros says what the record is
-- to hold, and a block of its own that has the room may be published so.
pub record MayMake (shape : Dimensions) (wanted : Wanted) (a : Actor) : Type 0 where
  pub some : 0 < length wanted.payload
  pub first : slice_index wanted.payload 0 ≢ 0
  pub enough : length wanted.payload ≤ wanted.room
  pub one_page : BLOCK_HEADER + wanted.room ≤ shape.page
  pub holds : (front : List ℕ) (k : ℕ) → front ++ replicate k 0 ≡ wanted.payload → IsPayload wanted.made front
  pub may : (own : Own) → own.tag ≡ tag_of wanted.made → BLOCK_HEADER + wanted.room ≤ own.size → MayPublish a own wanted.made

-- ---- what it stores

-- the front of a payload, up to its last word that was stored, once the words before an index are stored: those that are 0 are not
pub record IsFilledTo (payload : List ℕ) (index : ℕ) (front : List ℕ) : Type 0 where
  pub short : length front ≤ index
  pub words : front ++ replicate (index - length front) 0 ≡ take index payload

-- the next word to be stored, from an index on: the first that is not 0, or the end
pub record IsNextFilled (payload : List ℕ) (from next : ℕ) : Type 0 where
  pub behind : from ≤ next
  pub before : next ≤ length payload
  pub zeros : (i : ℕ) → from ≤ i → i < next → slice_index payload i ≡ 0
  pub stored : next < length payload → slice_index payload next ≢ 0

-- its own block at a word, which is to be the record
abbrev pub HasRecordBlock : Wanted → ℕ → Actor → Own → Type 0
HasRecordBlock wanted at a own =
    (own_at a.hand.own at ≡ Some own) × (own.next ≡ 0) × (own.made ≡ Some wanted.made) × (own.tag ≡ tag_of wanted.made)
    × (BLOCK_HEADER + wanted.room ≤ own.size)

-- ---- where it is

-- where its actor is
abbrev pub StandsAtStage : Dimensions → Wanted → Actor → NewRecordStage → Type 0
StandsAtStage shape wanted a (Allocating allocation) =
    FollowsAllocation a allocation × (is_some (alloc.next_event allocation) ≡ true) × (allocation.tag ≡ tag_of wanted.made)
    × (allocation.size ≡ BLOCK_HEADER + wanted.room)
StandsAtStage shape wanted a (Filling at index) =
    IsFree a × (index < length wanted.payload) × (slice_index wanted.payload index ≢ 0)
    × ((HEADER_WORDS ≤ at) × (at + (BLOCK_HEADER + wanted.room) ≤ shape.size))
    × ((own : Own) × HasRecordBlock wanted at a own × IsFilledTo wanted.payload index own.payload)
StandsAtStage shape wanted a (Publishing publishing) =
    PublishesAt a publishing.reference wanted.made publishing.stage × (is_some (publish.next_event publishing) ≡ true)
    × publish.IsReach shape.size publishing

-- It makes a record that its actor may make.
pub record IsNewRecord (shape : Dimensions) (wanted : Wanted) (m : NewRecord) (a : Actor) : Type 0 where
  pub segment : a.segment.shape ≡ shape
  pub lawful_shape : IsShape shape
  pub draft : MayMake shape wanted a
  pub stands : StandsAtStage shape wanted a m.stage

-- Why a block of this many words is refused, by the last event of the call: the actor held a free pointer from which the words pass the end
-- of the segment, and has set the full flag for that; or it has loaded flags with the corrupt one. The event has claimed and published
-- nothing.
abbrev pub IsCause : Refusal → ℕ → Actor → Actor → Type 0
IsCause why.Full words a b =
    (free : ℕ) × (a.hand.place ≡ FreeLoaded free) × (a.segment.shape.size < free + words)
    × (b.done ≡ record a.done { filled = true; lacked = a.done.lacked ++ free ∷ [] })
IsCause why.Corrupt words a b = (b.done ≡ a.done) × (b.seen.corrupt ≡ true) × (b.seen.warned ≡ a.seen.warned + 1)
IsCause cause words a b = ⊥

-- it is refused since the segment is full
abbrev pub is_full : Refusal → Bool
is_full why.Full = true
is_full cause = false

-- what it may do: it links the record, and raises the free pointer for its block
abbrev pub serves_wanted : Wanted → SharedEffect → Type 0
serves_wanted wanted (links made) = made ≡ wanted.made
serves_wanted wanted (raises words) = words ≡ BLOCK_HEADER + wanted.room

-- what a step says: it continues; the record is on the list; or it is refused. Its actor may turn to another call then
abbrev pub NewRecordGives : Dimensions → Wanted → NewRecord → NewRecordStep → Actor → Actor → Type 0
NewRecordGives shape wanted new More a b = FrameOfStep a b × DoesOnly false false (serves_wanted wanted) a b × SeesNoMore a b × IsNewRecord shape wanted new b
NewRecordGives shape wanted new Done a b = FrameOfStep a b × DoesOnly false false (serves_wanted wanted) a b × IsFree b
NewRecordGives shape wanted new (Refused cause) a b =
    FrameOfStep a b × DoesOnly false (is_full cause) (serves_wanted wanted) a b × SeesNoMore a b × IsFree b × IsCause cause (BLOCK_HEADER + wanted.room) a b

-- what a step makes of the words, and of any actor that makes the record
abbrev pub NewRecordSteps : List ℕ → NewRecord → List ℕ → NewRecord → List ℕ → NewRecordStep → Type 0
NewRecordSteps payload old words new new_words said = (shape : Dimensions) (version : ℕ) (wanted : Wanted) (a : Actor) → length words ≡ shape.size
    → wanted.payload ≡ payload → IsNewRecord shape wanted old a → StepsBy shape.size version a words new_words (NewRecordGives shape wanted new said a)

-- a record that some actor makes, in a segment of `n` words
abbrev pub IsSomeNewRecord : ℕ → List ℕ → NewRecord → Type 0
IsSomeNewRecord n payload m = (shape : Dimensions) × (wanted : Wanted) × (a : Actor) × (n ≡ shape.size) × (wanted.payload ≡ payload) × IsNewRecord shape wanted m a

-- ---- what it does next

-- it begins to claim its words
abbrev pub IsStarted : Dimensions → ℕ → ℕ → NewRecord → Type 0
IsStarted shape room tag new = new.stage ≡ Allocating (alloc.first_of shape room tag)

-- it is allocating
abbrev pub IsAllocating : NewRecordStage → Type 0
IsAllocating (Allocating allocation) = ⊤
IsAllocating _ = ⊥

-- what a step of its allocation leads to: it continues, or stores the payload in its block, or is refused
abbrev pub IsAllocated : NewRecord → AllocStep → NewRecord → NewRecordStep → Type 0
IsAllocated old said.More new result = (new ≡ old) × (result ≡ More)
IsAllocated old (said.Done at) new result = (new ≡ record { stage = Filling at 0 }) × (result ≡ More)
IsAllocated old said.Full new result = result ≡ Refused why.Full
IsAllocated old said.Corrupt new result = result ≡ Refused why.Corrupt

-- it is publishing
abbrev pub IsPublishing : NewRecordStage → Type 0
IsPublishing (Publishing publishing) = ⊤
IsPublishing _ = ⊥

-- what a step of its publish leads to
abbrev pub IsPublished : PubStep → NewRecordStep → Type 0
IsPublished put.More result = result ≡ More
IsPublished put.Done result = result ≡ Done
IsPublished put.Stray result = result ≡ More

-- the words of the payload before an index are stored: it stores the next that is not 0, or publishes the record
abbrev pub IsPayloadFilled : List ℕ → ℕ → ℕ → NewRecord → Type 0
IsPayloadFilled payload at from new = (next : ℕ) × IsNextFilled payload from next
    × (new.stage ≡ (if nat_lt next (length payload) then Filling at next else Publishing (publish.started at)))
