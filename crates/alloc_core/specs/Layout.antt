-- A segment as the words before the queue block, blocks in a row, and zeros.
use Rattle.std.specs.Prelude.{◌≡◌, ℕ, ◌+◌, ◌-◌, ◌*◌, ◌%◌, ◌<◌, ◌≤◌, Bool, false, if◌then◌else◌, List, [], ◌∷◌, ◌++◌, length, replicate, slice_set}
use mathlib.Core.Option.{Option, some, none}
use lib.ListN.{get_elem?}
use Rattle.segment_image.specs.Shape.{Dimensions}
use Rattle.segment_image.specs.declared.layout.TheConstants.{HEADER_WORDS, MIN_PAGE, MAX_PAGE, PAGE_STEP, MAX_SIZE, SEGMENT_COOKIE, STATE_READY, FLAG_CORRUPT, FLAG_FULL, QUEUE, QUEUE_SIZE, QUEUE_COOKIE, TYPE_PURGED, BLOCK_LEAST}

-- A piece of a segment: the word where it begins, its owner, if it has one, and its words. The queue block is the first
-- piece; the others are blocks that were claimed, wasted rests of pages, and gaps.
pub record Block : Type 0 where
  pub at : ℕ
  pub owner : Option ℕ
  pub words : List ℕ

-- What a segment consists of. `other_flags` are the bits of the word of flags above its first two, and `reserved` the three
-- words between the tail and the queue block: in a new segment they are 0, in one that was made from an image they are what they
-- were there. `spare` is the number of words after the last block.
pub record Layout : Type 0 where
  pub version : ℕ
  pub id : ℕ
  pub corrupt : Bool
  pub full : Bool
  pub other_flags : ℕ
  pub tail : ℕ
  pub reserved : ℕ × ℕ × ℕ
  pub blocks : List Block
  pub spare : ℕ

-- how many words a block has
abbrev pub extent : Block → ℕ
extent block = length block.words

-- where the last of these blocks ends, if the first begins at a word and they follow one another
abbrev pub end_of : ℕ → List Block → ℕ
end_of at [] = at
end_of at (block ∷ blocks) = end_of (at + extent block) blocks

-- the free pointer: where the last block ends
abbrev pub free_of : Layout → ℕ
free_of layout = end_of QUEUE layout.blocks

-- the word of flags: whether the segment is corrupt, whether it is full, and all other bits
abbrev pub flags_of : Bool → Bool → ℕ → ℕ
flags_of corrupt full others = others * 4 + ((if full then FLAG_FULL else 0) + (if corrupt then FLAG_CORRUPT else 0))

-- the words before the queue block
abbrev pub head_words : Dimensions → Layout → List ℕ
head_words shape layout =
    SEGMENT_COOKIE ∷ layout.version ∷ shape.size ∷ shape.page ∷ layout.id ∷ STATE_READY
    ∷ flags_of layout.corrupt layout.full layout.other_flags ∷ free_of layout ∷ layout.tail
    ∷ layout.reserved.0 ∷ layout.reserved.1 ∷ layout.reserved.2 ∷ []

-- the words of blocks, one block after the other, and other words after them
abbrev pub spread : List ℕ → List Block → List ℕ
spread others [] = others
spread others (block ∷ blocks) = block.words ++ spread others blocks

-- all words of a segment
abbrev pub render : Dimensions → Layout → List ℕ
render shape layout = head_words shape layout ++ spread (replicate layout.spare 0) layout.blocks

-- each block begins where the one before it ends, is not empty, and lies in one page
abbrev pub IsLaid : ℕ → ℕ → List Block → Type 0
IsLaid page at [] = Unit {0}
IsLaid page at (block ∷ blocks) =
    (block.at ≡ at) × (0 < extent block) × (at % page + extent block ≤ page) × IsLaid page (at + extent block) blocks

-- the queue block: size 4, cookie 1, type 0, and the reference of the first record
abbrev pub queue_block : ℕ → Block
queue_block next = record { at = QUEUE; owner = none; words = QUEUE_SIZE ∷ QUEUE_COOKIE ∷ TYPE_PURGED ∷ next ∷ [] }

-- a shape is valid: a page has a multiple of 16 words, from 64 to 65,536, and a segment has whole pages, one or more, of at most 2^20
-- words together
pub record IsShape (shape : Dimensions) : Type 0 where
  pub wide : MIN_PAGE ≤ shape.page
  pub narrow : shape.page ≤ MAX_PAGE
  pub even : shape.page % PAGE_STEP ≡ 0
  pub one : shape.page ≤ shape.size
  pub many : shape.size ≤ MAX_SIZE
  pub whole : shape.size % shape.page ≡ 0

-- the layout is one of a segment: the blocks follow one another from the queue block on, they and the spare words are
-- all words, and the page of the free pointer has room for a smallest block, of five words
pub record IsSound (shape : Dimensions) (layout : Layout) : Type 0 where
  pub lawful : IsShape shape
  pub queue : (next : ℕ) × (get_elem? layout.blocks 0 ≡ some (queue_block next))
  pub laid : IsLaid shape.page QUEUE layout.blocks
  pub ends : free_of layout + layout.spare ≡ shape.size
  pub leaves : free_of layout % shape.page + BLOCK_LEAST ≤ shape.page

-- the words are those of a layout
pub record IsShown (shape : Dimensions) (words : List ℕ) (layout : Layout) : Type 0 where
  pub shows : words ≡ render shape layout
  pub sound : IsSound shape layout

-- a block is one of these
abbrev pub IsAmong : List Block → Block → Type 0
IsAmong blocks block = (k : ℕ) × (get_elem? blocks k ≡ some block)

-- a segment without blocks
abbrev pub fresh : Dimensions → ℕ → ℕ → Layout
fresh shape version id =
    let size = shape.size in record {
      version = version;
      id = id;
      corrupt = false;
      full = false;
      other_flags = 0;
      tail = QUEUE;
      reserved = (0, 0, 0);
      blocks = queue_block QUEUE ∷ [];
      spare = size - HEADER_WORDS;
    }

-- the layout with another block in the place of block k
abbrev pub put : Layout → ℕ → Block → Layout
put layout k block = record layout { blocks = slice_set layout.blocks k block }

-- a block of zeros
abbrev pub raw_block : ℕ → ℕ → ℕ → Block
raw_block at owner size = record { at = at; owner = some owner; words = replicate size 0 }

-- the layout with a raw block more, which was cut from the spare words
abbrev pub grown : Layout → ℕ → ℕ → Layout
grown layout owner size =
    record layout { blocks = layout.blocks ++ raw_block (free_of layout) owner size ∷ []; spare = layout.spare - size }
