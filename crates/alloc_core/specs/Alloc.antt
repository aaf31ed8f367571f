-- An allocation: what it does next, what becomes of it, and what holds of its block.
use Rattle.std.specs.Prelude.{◌≡◌, ℕ, ◌+◌, ◌-◌, ◌%◌, ◌<◌, ◌≤◌, ◌==◌, ◌≢◌, ◌⊎◌, false, List, bit_and, if◌then◌else◌, Option, Some, None, Result, Ok, Err, max, nat_lt, ⊤}
use Rattle.alloc_core.specs.declared.alloc.TooLarge.{TooLarge}
use Rattle.segment_image.specs.Shape.{Dimensions}
use Rattle.segment_image.specs.Words.{word_at}
use Rattle.segment_image.specs.declared.layout.TheConstants.{HEADER_WORDS, FLAGS_WORD, FREE_WORD, FLAG_CORRUPT, FLAG_FULL, BLOCK_HEADER, BLOCK_LEAST, CLAIMED_COOKIE, WASTED_COOKIE}
use Rattle.alloc_core.specs.declared.planned.Planned.{Planned}
use Rattle.alloc_core.specs.declared.planned.Planned.TheVariants as plan
use Rattle.alloc_core.specs.declared.alloc.Purpose.{Purpose}
use Rattle.alloc_core.specs.declared.alloc.Purpose.TheVariants as purpose
use Rattle.alloc_core.specs.declared.alloc.AllocStage.{AllocStage}
use Rattle.alloc_core.specs.declared.alloc.AllocStage.TheVariants.{LoadFlags, LoadFree, ExchangeFree, StoreSize, StoreCookie, StoreType, SetFull, Claimed, Full, Corrupt}
use Rattle.alloc_core.specs.declared.alloc.AllocStep.{AllocStep}
use Rattle.alloc_core.specs.declared.alloc.AllocStep.TheVariants as said
use Rattle.alloc_core.specs.Layout.{IsShape}
use Rattle.alloc_core.specs.Planned.{planned, is_pointer}
use Rattle.alloc_core.specs.Event.{Access, load_flags, load_free, exchange_free, store_size, store_cookie, store_type, set_flag, spot, after}

-- a plain record of an allocation: the segment's shape, how many words it needs, the type of its block, the free pointer that
-- it loaded last (0 before that), and what it does next
pub record Allocation : Type 0 where
  pub shape : Dimensions
  pub size : ℕ
  pub tag : ℕ
  pub seen : ℕ
  pub stage : AllocStage

-- the cookie of a claimed block, and that of a wasted rest of a page
abbrev pub cookie_of : Purpose → ℕ
cookie_of purpose.Claim = CLAIMED_COOKIE
cookie_of purpose.Waste = WASTED_COOKIE

-- the next event at a stage, if the allocation has not ended
abbrev pub event_at : Allocation → AllocStage → Option Access
event_at allocation LoadFlags = Some load_flags
event_at allocation LoadFree = Some load_free
event_at allocation (ExchangeFree next purpose) = Some (exchange_free allocation.seen next)
event_at allocation (StoreSize at size purpose) = Some (store_size at size)
event_at allocation (StoreCookie at size purpose) = Some (store_cookie at (cookie_of purpose))
event_at allocation (StoreType at size) = Some (store_type at allocation.tag)
event_at allocation SetFull = Some (set_flag FLAG_FULL)
event_at allocation (Claimed at size) = None
event_at allocation Full = None
event_at allocation Corrupt = None

-- the next event of an allocation, or none if it has ended
abbrev pub next_event : Allocation → Option Access
next_event allocation = event_at allocation allocation.stage

-- the stage that a plan leads to
abbrev pub stage_of_plan : ℕ → Planned → AllocStage
stage_of_plan free (plan.Claim size next) = ExchangeFree next purpose.Claim
stage_of_plan free (plan.Waste room) = ExchangeFree (free + room) purpose.Waste
stage_of_plan free plan.Full = SetFull

-- the stage after a cookie: a wasted rest leads to a new try
abbrev pub stage_of_cookie : ℕ → ℕ → Purpose → AllocStage
stage_of_cookie at size purpose.Claim = StoreType at size
stage_of_cookie at size purpose.Waste = LoadFlags

-- the stage after an event that found a number
abbrev pub stage_after : Allocation → ℕ → AllocStage → AllocStage
stage_after allocation found LoadFlags = if bit_and found FLAG_CORRUPT == 0 then LoadFree else Corrupt
stage_after allocation found LoadFree =
    if is_pointer allocation.shape found then stage_of_plan found (planned found allocation.size allocation.shape) else Corrupt
stage_after allocation found (ExchangeFree next purpose) =
    if found == allocation.seen then StoreSize found (next - found) purpose else LoadFlags
stage_after allocation found (StoreSize at size purpose) = StoreCookie at size purpose
stage_after allocation found (StoreCookie at size purpose) = stage_of_cookie at size purpose
stage_after allocation found (StoreType at size) = Claimed at size
stage_after allocation found SetFull = Full
stage_after allocation found (Claimed at size) = Claimed at size
stage_after allocation found Full = Full
stage_after allocation found Corrupt = Corrupt

-- the free pointer that was loaded last
abbrev pub seen_after : Allocation → ℕ → AllocStage → ℕ
seen_after allocation found LoadFree = found
seen_after allocation found _ = allocation.seen

-- an allocation after its next event, which found a number
abbrev pub moved : Allocation → ℕ → Allocation
moved allocation found =
    record allocation { seen = seen_after allocation found allocation.stage; stage = stage_after allocation found allocation.stage }

-- what a step that leads to a stage returns
abbrev pub answer : AllocStage → AllocStep
answer (Claimed at size) = said.Done at
answer Full = said.Full
answer Corrupt = said.Corrupt
answer _ = said.More

-- why a step finds a segment corrupt: it loaded the corrupt flag, or a free pointer that no segment has
abbrev pub IsCorruptBy : Allocation → List ℕ → Type 0
IsCorruptBy old words =
    ((old.stage ≡ LoadFlags) × (bit_and (word_at words FLAGS_WORD) FLAG_CORRUPT ≢ 0)) ⊎ ((old.stage ≡ LoadFree) × (is_pointer old.shape (word_at words FREE_WORD) ≡ false))

-- one step: the next event happens, the allocation becomes what that makes of it, and the answer is that of its new stage
pub record IsStep (old : Allocation) (words : List ℕ) (new : Allocation) (new_words : List ℕ) (step : AllocStep) : Type 0 where
  pub event : Access
  pub next : next_event old ≡ Some event
  pub words_are : new_words ≡ after event words
  pub new_is : new ≡ moved old (word_at words (spot event))
  pub answers : step ≡ answer new.stage

-- the free pointer may go from one number to another: over a block of five words or more in one page, after which the page has
-- no words left, or room for five
pub record IsRise (shape : Dimensions) (old new : ℕ) : Type 0 where
  pub five : old + BLOCK_LEAST ≤ new
  pub within : new ≤ shape.size
  pub one_page : old % shape.page + (new - old) ≤ shape.page
  pub leaves : new % shape.page + BLOCK_LEAST ≤ shape.page

-- a block of five words or more lies after the queue block, within the segment, and in one page
pub record IsPlace (shape : Dimensions) (at size : ℕ) : Type 0 where
  pub from : HEADER_WORDS ≤ at
  pub five : BLOCK_LEAST ≤ size
  pub within : at + size ≤ shape.size
  pub one_page : at % shape.page + size ≤ shape.page

-- this many words suit an allocation: for a block no fewer than it needs, and not five more; for a wasted rest fewer
abbrev pub Suits : Allocation → Purpose → ℕ → Type 0
Suits allocation purpose.Claim size = (allocation.size ≤ size) × (size < allocation.size + BLOCK_LEAST)
Suits allocation purpose.Waste size = size < allocation.size

-- what holds at a stage, whatever the words are: what it stores lies in the segment, and it is full only if the words that it
-- needs pass the end of the segment from the free pointer that it loaded
abbrev pub IsAimed : Allocation → AllocStage → Type 0
IsAimed allocation (ExchangeFree next purpose) =
    (HEADER_WORDS ≤ allocation.seen) × IsRise allocation.shape allocation.seen next × Suits allocation purpose (next - allocation.seen)
IsAimed allocation (StoreSize at size purpose) =
    (HEADER_WORDS ≤ at) × IsRise allocation.shape at (at + size) × Suits allocation purpose size
IsAimed allocation (StoreCookie at size purpose) =
    (HEADER_WORDS ≤ at) × IsRise allocation.shape at (at + size) × Suits allocation purpose size
IsAimed allocation (StoreType at size) =
    (HEADER_WORDS ≤ at) × IsRise allocation.shape at (at + size) × Suits allocation purpose.Claim size
IsAimed allocation (Claimed at size) = IsPlace allocation.shape at size
IsAimed allocation SetFull = allocation.shape.size < allocation.seen + allocation.size
IsAimed allocation Full = allocation.shape.size < allocation.seen + allocation.size
IsAimed allocation _ = ⊤

-- an allocation that had a valid start, whatever was done to the words since
pub record IsLawful (allocation : Allocation) : Type 0 where
  pub shaped : IsShape allocation.shape
  pub least : BLOCK_LEAST ≤ allocation.size
  pub most : allocation.size ≤ allocation.shape.page
  pub aimed : IsAimed allocation allocation.stage

-- an allocation before its first event; a payload of 0 is taken as 1
abbrev pub first_of : Dimensions → ℕ → ℕ → Allocation
first_of shape payload tag = record { shape = shape; size = max payload 1 + BLOCK_HEADER; tag = tag; seen = 0; stage = LoadFlags }

-- the allocation that is started, if its block fits in a page
abbrev pub started : Dimensions → ℕ → ℕ → Result Allocation TooLarge
started shape payload tag = if nat_lt shape.page (payload + BLOCK_HEADER) then Err (record {}) else Ok (first_of shape payload tag)
