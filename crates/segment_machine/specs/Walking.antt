-- The events of a walk, on a next, and on a word of a published record that never changes.
-- All about an event is here in one place: what it acts on, when it is ready, what becomes of its actor, and what this learns.
use Rattle.std.specs.Prelude.{◌≡◌, ◌⊎◌, not, ℕ, ◌+◌, ◌-◌, ◌*◌, ◌<◌, ◌≤◌, List, [], ◌∷◌, ◌++◌, map, length, Some, ◌&&◌, ◌==◌, if◌then◌else◌, slice_index}
use Rattle.std.specs.List.{filter, All, Contains}
use Rattle.bucket_ranges.specs.Reading.{name_words}
use Rattle.segment_image.specs.declared.layout.TheConstants.{BLOCK_LEAST, BLOCK_TYPE, HEADER_WORDS, HISTOGRAM_BUCKETS, HISTOGRAM_COUNTS, HISTOGRAM_KIND, HISTOGRAM_NAME, HISTOGRAM_NAME_LENGTH, KIND_CUSTOM, QUEUE, SAMPLE_COUNT, SAMPLE_HISTOGRAM, SAMPLE_LEAST, TYPE_HISTOGRAM, TYPE_SAMPLE, BLOCK_NEXT}
use Rattle.segment_machine.specs.declared.place.Place.{Place}
use Rattle.segment_machine.specs.declared.place.Place.TheVariants.{CursorLoaded, BehindCursor, Idle}
use Rattle.segment_machine.specs.declared.actor.Actor.{Actor}
use Rattle.segment_machine.specs.Actor.{word_seen}
use Rattle.list_core.specs.Chain.{stops}
use Rattle.list_core.specs.Walk.{IsPrefix, stands_behind}
use Rattle.alloc_core.specs.Event as atomic
use Rattle.segment_machine.specs.Operation.{Operation, single}
use Rattle.segment_machine.specs.Calls.{MayTurn, sight, ended, IsReference}

-- the events of a walk
pub data WalkingEvent : Type 0 where
  load_next : (at : ℕ) → WalkingEvent
  load_published : (at index : ℕ) → WalkingEvent

-- ---- what they act on

abbrev pub operation : ℕ → ℕ → WalkingEvent → Operation
operation size version (load_next at) = single (atomic.load (at + BLOCK_NEXT))
operation size version (load_published at index) = single (atomic.load (at + index))

-- ---- when they are ready

-- the words of a histogram's record that never change, as far as the actor knows it: its spec, the length of its name, and, once
-- it knows that, its name; of a custom one also the ranges after it
abbrev pub IsFixedBehind : Actor → ℕ → ℕ → Type 0
IsFixedBehind a at index =
    ((HISTOGRAM_KIND ≤ index) × (index < HISTOGRAM_COUNTS)) ⊎ (index ≡ HISTOGRAM_NAME_LENGTH)
    ⊎ ((len : ℕ) × (word_seen a.seen.words (at + HISTOGRAM_NAME_LENGTH) ≡ Some len) × (HISTOGRAM_NAME ≤ index)
    × ((index < HISTOGRAM_NAME + name_words len)
    ⊎ ((n : ℕ) × (word_seen a.seen.words (at + HISTOGRAM_KIND) ≡ Some KIND_CUSTOM) × (word_seen a.seen.words (at + HISTOGRAM_BUCKETS) ≡ Some n)
    × (index < HISTOGRAM_NAME + name_words len + (n - 1)))))

-- a word of a published record that never changes: its type; of a histogram those above; of a sample its histogram and its value
abbrev pub IsFixed : Actor → ℕ → ℕ → Type 0
IsFixed a at index =
    (index ≡ BLOCK_TYPE) ⊎ ((word_seen a.seen.words (at + BLOCK_TYPE) ≡ Some TYPE_HISTOGRAM) × IsFixedBehind a at index)
    ⊎ ((word_seen a.seen.words (at + BLOCK_TYPE) ≡ Some TYPE_SAMPLE) × (SAMPLE_HISTOGRAM ≤ index) × (index < SAMPLE_COUNT))

-- the block at a word is the queue block, a record that the actor visited, or the record of a shared cursor that it loaded
abbrev pub MayFollow : Actor → ℕ → Type 0
MayFollow a at = (at ≡ QUEUE) ⊎ Contains a.seen.chain at ⊎ ((cursor : ℕ) × (a.hand.place ≡ CursorLoaded cursor at))

abbrev pub Ready : Actor → WalkingEvent → Type 0
Ready a (load_next at) = MayTurn a × MayFollow a at
Ready a (load_published at index) = MayTurn a × Contains a.seen.chain at × IsFixed a at index

-- ---- what becomes of the actor

-- the chain as far as it was seen, after the next of the block at a word was loaded
abbrev pub extended : List ℕ → ℕ → ℕ → List ℕ
extended chain at found =
    if (slice_index (stops chain) (length chain) == at) && not (found == QUEUE) then chain ++ found ∷ [] else chain

-- the place after a next was loaded: a shared cursor's is noted
abbrev pub behind : Place → ℕ → ℕ → Place
behind (CursorLoaded cursor at) from found =
    if from == at then (if found == QUEUE then Idle else BehindCursor cursor at found) else CursorLoaded cursor at
behind place from found = place

-- the actor after an event that found this number
abbrev pub next : Actor → WalkingEvent → ℕ → Actor
next a (load_next at) found = record a {
  hand = record a.hand { place = behind a.hand.place at found };
  seen = record a.seen { chain = extended a.seen.chain at found; ends = ended a.seen.ends (at + BLOCK_NEXT) (found == QUEUE) };
}
next a (load_published at index) found = record a { seen = record a.seen { words = a.seen.words ++ sight (at + index) found } }

-- ---- what it learns

-- what a word of a published record says of where its words end: a histogram's has 15 words at least, its name and its ranges
-- come after these, a sample's has 8 words
abbrev pub EndsWithin : Actor → ℕ → ℕ → ℕ → Type 0
EndsWithin a at index found =
    (index ≡ BLOCK_TYPE → found ≡ TYPE_HISTOGRAM → at + HISTOGRAM_NAME ≤ a.segment.shape.size)
    × (index ≡ BLOCK_TYPE → found ≡ TYPE_SAMPLE → at + SAMPLE_LEAST ≤ a.segment.shape.size)
    × (index ≡ HISTOGRAM_NAME_LENGTH → at + HISTOGRAM_NAME + name_words found ≤ a.segment.shape.size)
    × ((len : ℕ) → index ≡ HISTOGRAM_BUCKETS → word_seen a.seen.words (at + HISTOGRAM_KIND) ≡ Some KIND_CUSTOM → word_seen a.seen.words (at + HISTOGRAM_NAME_LENGTH) ≡ Some len
    → at + HISTOGRAM_NAME + name_words len + (found - 1) ≤ a.segment.shape.size)

-- the records that it made, was given, or saw as tail or cursor
abbrev pub records_met : Actor → List ℕ
records_met a =
    map (λ p. p.reference) a.done.published ++ map (λ g. g.reference) a.done.given
    ++ filter (λ at. not (at == QUEUE)) (a.seen.tails ++ map (λ s. s.word) a.seen.cursors)

-- A next is what was found there before, and on a list that fits in the segment. At the end of the chain that the actor saw, that chain has
-- all records that the actor made, was given or saw; at the end after a shared cursor, a chain that ends at the cursor has them, and all
-- that it saw.
pub record IsNextOf (a : Actor) (at found : ℕ) : Type 0 where
  pub reference : IsReference a found
  pub again : (i : ℕ) → i < length a.seen.chain → slice_index (stops a.seen.chain) i ≡ at → found ≡ slice_index a.seen.chain i
  pub few : BLOCK_LEAST * length (extended a.seen.chain at found) + HEADER_WORDS ≤ a.segment.shape.size
  pub all : stands_behind a.seen.chain ≡ at → found ≡ QUEUE → All (Contains a.seen.chain) (records_met a)
  pub given : (cursor : ℕ) → a.hand.place ≡ CursorLoaded cursor at → found ≡ QUEUE
      → (chain : List ℕ) × IsPrefix a.seen.chain chain × (stands_behind chain ≡ at) × All (Contains chain) (records_met a)

-- a word that it saw stays
abbrev pub StaysAsSeen : Actor → ℕ → ℕ → Type 0
StaysAsSeen a at found = (word : ℕ) → word_seen a.seen.words at ≡ Some word → found ≡ word

abbrev pub Learned : Actor → WalkingEvent → ℕ → Type 0
Learned a (load_next at) found = IsNextOf a at found
Learned a (load_published at index) found = EndsWithin a at index found × StaysAsSeen a (at + index) found
