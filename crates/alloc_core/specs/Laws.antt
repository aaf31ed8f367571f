-- What holds of the words of a segment and of all its allocations between any two events.
use Rattle.std.specs.Prelude.{◌≡◌, ◌≢◌, ◌⊎◌, Bool, true, false, ℕ, ◌+◌, ◌-◌, ◌%◌, ◌<◌, ◌≤◌, List, [], ◌∷◌, ◌++◌, length, take, drop, replicate, slice_set, bit_or, Option, Some, None, Ok, ⊤}
use mathlib.Core.Option.{some, none}
use lib.ListN.{get_elem?}
use Rattle.segment_image.specs.Shape.{Dimensions}
use Rattle.segment_image.specs.Words.{word_at}
use Rattle.segment_image.specs.declared.layout.TheConstants.{HEADER_WORDS, VERSION_WORD, ID_WORD, FLAGS_WORD, FREE_WORD, TAIL_WORD, QUEUE, FLAG_CORRUPT, FLAG_FULL, BLOCK_HEADER, BLOCK_NEXT, BLOCK_LEAST, CLAIMED_COOKIE}
use Rattle.segment_image.specs.Image.{blank_words}
use Rattle.alloc_core.specs.declared.alloc.AllocStage.{AllocStage}
use Rattle.alloc_core.specs.declared.alloc.AllocStage.TheVariants.{StoreSize, StoreCookie, StoreType, SetFull, Claimed}
use Rattle.alloc_core.specs.Layout.{Block, Layout, extent, free_of, IsShown, IsAmong}
use Rattle.alloc_core.specs.Event.{Access, store_payload, set_flag, spot, after}
use Rattle.alloc_core.specs.Alloc.{Allocation, next_event, moved, started, IsLawful}

-- a number is another one, or at least five below it
abbrev pub Behind : ℕ → ℕ → Type 0
Behind seen free = (seen ≡ free) ⊎ (seen + BLOCK_LEAST ≤ free)

-- the block of someone, with these words
abbrev pub own : ℕ → ℕ → List ℕ → Block
own owner at words = record { at = at; owner = some owner; words = words }

-- the words of a block that was claimed, before they are anything else
abbrev pub claimed_words : ℕ → ℕ → List ℕ
claimed_words size tag = size ∷ CLAIMED_COOKIE ∷ tag ∷ replicate (size - 3) 0

-- what an allocation has at a stage: until its block is claimed nobody else stores in it, and it holds just what was
-- stored; once it is claimed, its size and its cookie stay, and its next belongs to the list
abbrev pub Has : List Block → ℕ → AllocStage → Type 0
Has blocks owner (StoreSize at size purpose) = IsAmong blocks (own owner at (replicate size 0))
Has blocks owner (StoreCookie at size purpose) = IsAmong blocks (own owner at (size ∷ replicate (size - 1) 0))
Has blocks owner (StoreType at size) = IsAmong blocks (own owner at (size ∷ CLAIMED_COOKIE ∷ replicate (size - 2) 0))
Has blocks owner (Claimed at size) =
    (behind : List ℕ) × (length behind + 2 ≡ size) × IsAmong blocks (own owner at (size ∷ CLAIMED_COOKIE ∷ behind))
Has blocks owner _ = ⊤

-- what holds of one allocation of a segment
pub record AllocationFits (shape : Dimensions) (layout : Layout) (owner : ℕ) (allocation : Allocation) : Type 0 where
  pub shaped : allocation.shape ≡ shape
  pub lawful : IsLawful allocation
  pub behind : Behind allocation.seen (free_of layout)
  pub has : Has layout.blocks owner allocation.stage

-- the allocation invariant: the words are those of a layout, and each allocation fits
pub record Keeps (shape : Dimensions) (words : List ℕ) (allocations : List Allocation) : Type 0 where
  pub layout : Layout
  pub shown : IsShown shape words layout
  pub each : (owner : ℕ) (allocation : Allocation) → get_elem? allocations owner ≡ some allocation → AllocationFits shape layout owner allocation

-- the words that an allocation has taken, and has not wasted yet: where they begin, and how many they are
abbrev pub taken : AllocStage → Option (ℕ × ℕ)
taken (StoreSize at size purpose) = Some (at, size)
taken (StoreCookie at size purpose) = Some (at, size)
taken (StoreType at size) = Some (at, size)
taken (Claimed at size) = Some (at, size)
taken _ = None

-- how many these are
abbrev pub words_taken : Option (ℕ × ℕ) → ℕ
words_taken None = 0
words_taken (Some block) = block.1

-- whether it has claimed its block
abbrev pub has_claimed : AllocStage → Bool
has_claimed (Claimed at size) = true
has_claimed _ = false

-- an allocation has claimed a block at a reference
abbrev pub IsRecord : List Allocation → ℕ → Type 0
IsRecord allocations reference =
    (owner : ℕ) × (a : Allocation) × (size : ℕ) × (get_elem? allocations owner ≡ some a) × (a.stage ≡ Claimed reference size)

-- a word that only the list of records has a use for: the tail, the next of the queue block, or that of a claimed block
abbrev pub IsListWord : List Allocation → ℕ → Type 0
IsListWord allocations at = (at ≡ TAIL_WORD) ⊎ (at ≡ QUEUE + BLOCK_NEXT) ⊎ ((reference : ℕ) × IsRecord allocations reference × (at ≡ reference + BLOCK_NEXT))

-- a word of the header that can be anything between two events, so that it is what an image had there: the version, the id,
-- the flags, or one of those between the tail and the queue block
abbrev pub IsImageWord : ℕ → Type 0
IsImageWord at = (at ≡ VERSION_WORD) ⊎ (at ≡ ID_WORD) ⊎ (at ≡ FLAGS_WORD) ⊎ ((TAIL_WORD < at) × (at < QUEUE))

-- of two runs of words one ends before the other begins
abbrev pub Apart : ℕ × ℕ → ℕ × ℕ → Type 0
Apart a b = (a.0 + a.1 ≤ b.0) ⊎ (b.0 + b.1 ≤ a.0)

-- what an allocation has claimed, at the moment that it says so, in a segment of a layout
pub record IsNewBlock (allocation : Allocation) (reference : ℕ) (words : List ℕ) (layout : Layout) (allocations : List Allocation) (owner : ℕ) : Type 0 where
  pub size : ℕ
  -- it has the words that were asked for, and fewer than five more
  pub enough : allocation.size ≤ size
  pub spare : size < allocation.size + BLOCK_LEAST
  -- its header is stored, and its next and its payload are zeros
  pub holds : take size (drop reference words) ≡ claimed_words size allocation.tag
  -- it lies after the queue block, below the free pointer, and in one page
  pub from : HEADER_WORDS ≤ reference
  pub below : reference + size ≤ word_at words FREE_WORD
  pub one_page : reference % allocation.shape.page + size ≤ allocation.shape.page
  -- it is apart from every other block of the layout: from each that was claimed, by any owner, each wasted rest, each gap
  pub alone : (block : Block) → IsAmong layout.blocks block → block.at ≢ reference → Apart (reference, size) (block.at, extent block)
  -- and apart from what any other allocation has
  pub apart : (other : ℕ) (b : Allocation) (block : ℕ × ℕ) → other ≢ owner → get_elem? allocations other ≡ some b
      → taken b.stage ≡ Some block → Apart (reference, size) block

-- a segment and its allocations
pub record State : Type 0 where
  pub words : List ℕ
  pub allocations : List Allocation

-- what can happen: an allocation starts, one performs its next event, the owner of a claimed block stores a word of its payload,
-- or somebody sets the corrupt flag
pub data Move : Type 0 where
  starts : (payload tag : ℕ) → Move
  steps : (owner : ℕ) → Move
  fills : (owner index value : ℕ) → Move
  spoils : Move

-- a move leads from an old state to a new one
abbrev pub IsMove : Dimensions → Move → State → State → Type 0
IsMove shape (starts payload tag) old new =
    (a : Allocation) × (started shape payload tag ≡ Ok a) × (new ≡ record old { allocations = old.allocations ++ a ∷ [] })
IsMove shape (steps owner) old new =
    (a : Allocation) × (get_elem? old.allocations owner ≡ some a) × (event : Access) × (next_event a ≡ Some event)
    × (new ≡ record { words = after event old.words; allocations = slice_set old.allocations owner (moved a (word_at old.words (spot event))) })
IsMove shape (fills owner index value) old new =
    (a : Allocation) × (get_elem? old.allocations owner ≡ some a) × (block : ℕ × ℕ) × (a.stage ≡ Claimed block.0 block.1) × (BLOCK_HEADER + index < block.1)
    × (new ≡ record old { words = after (store_payload block.0 index value) old.words })
IsMove shape spoils old new = new ≡ record old { words = after (set_flag FLAG_CORRUPT) old.words }

-- moves one after the other, by anybody
abbrev pub IsRun : Dimensions → List Move → State → State → Type 0
IsRun shape [] old new = new ≡ old
IsRun shape (move ∷ moves) old new = (next : State) × IsMove shape move old next × IsRun shape moves next new

-- the blocks that nobody owns, such as those of an image that a segment was made from, are unchanged in a later layout
abbrev pub Leaves : Layout → Layout → Type 0
Leaves old new = (block : Block) → IsAmong old.blocks block → block.owner ≡ none → IsAmong new.blocks block

-- the allocation invariant of a state
abbrev pub StateKeeps : Dimensions → State → Type 0
StateKeeps shape state = Keeps shape state.words state.allocations

-- a segment without blocks, and no allocation yet
abbrev pub opening : Dimensions → ℕ → State
opening shape id = record { words = blank_words shape.size shape.page id; allocations = [] }

-- who set the flags of a state: nobody, somebody who spoiled the segment, or an allocation that is full
abbrev pub FlagsBy : Move → State → State → Type 0
FlagsBy move old new =
    (word_at new.words FLAGS_WORD ≡ word_at old.words FLAGS_WORD)
    ⊎ ((move ≡ spoils) × (word_at new.words FLAGS_WORD ≡ bit_or (word_at old.words FLAGS_WORD) FLAG_CORRUPT))
    ⊎ ((owner : ℕ) × (a : Allocation) × (move ≡ steps owner) × (get_elem? old.allocations owner ≡ some a) × (a.stage ≡ SetFull)
    × (word_at new.words FLAGS_WORD ≡ bit_or (word_at old.words FLAGS_WORD) FLAG_FULL))
