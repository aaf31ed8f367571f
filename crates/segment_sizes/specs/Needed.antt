-- How many words are needed for blocks in every order.
use Rattle.std.specs.Prelude.{◌≡◌, true, false, ℕ, ◌+◌, ◌-◌, ◌*◌, ◌/◌, ◌<◌, ◌≤◌, min, nat_le, if◌then◌else◌, List, length, fold, sum_by, All}
use Rattle.segment_image.specs.Shape.{is_page}
use Rattle.segment_image.specs.declared.layout.TheConstants.{HEADER_WORDS, BLOCK_LEAST, MAX_SIZE}
use Rattle.segment_sizes.specs.declared.fault.SizeFault.{SizeFault}
use Rattle.segment_sizes.specs.declared.fault.SizeFault.TheVariants.{BadPage, TooSmall, TooLarge, TooMany, NoSize}

-- The words of the header and of all blocks, plus the words that each block has above a bound.
abbrev pub load_over : (blocks : List ℕ) (bound : ℕ) → ℕ
load_over blocks bound = HEADER_WORDS + sum_by (λ block. block + (block - bound)) blocks

-- How many pages are begun at most, by a bound. The words taken in a page that was left, and those of the block that did not fit
-- into it, are more than a page. So every page but the last two adds at least a page and one word, less the bound, to the load; what
-- the blocks that did not fit have above the bound is in the load. The last two pages together add more than a page.
abbrev pub pages_over : (page : ℕ) (blocks : List ℕ) (bound : ℕ) → ℕ
pages_over page blocks bound =
    let load = load_over blocks bound in
    if nat_le load page then 1 else 2 + (load - (page + 1)) / (page + 1 - bound)

-- the fewest pages by any bound that is the words of a block, or of a page
abbrev pub needed_pages : (page : ℕ) (blocks : List ℕ) → ℕ
needed_pages page blocks = fold (λ fewest bound. min fewest (pages_over page blocks bound)) (pages_over page blocks page) blocks

-- that many pages
abbrev pub needed_words : (page : ℕ) (blocks : List ℕ) → ℕ
needed_words page blocks = needed_pages page blocks * page

-- a block is one that an allocation claims: it has five words or more
abbrev pub IsLeast : ℕ → Type 0
IsLeast block = BLOCK_LEAST ≤ block

-- a block fits in a page
abbrev pub FitsPage : (page block : ℕ) → Type 0
FitsPage page block = block ≤ page

-- a page and blocks that have none of the faults below but, perhaps, the last
pub record AreTried (page : ℕ) (blocks : List ℕ) : Type 0 where
  pub page_is : is_page page ≡ true
  pub least : All IsLeast blocks
  pub fit : All (FitsPage page) blocks
  pub few : BLOCK_LEAST * length blocks ≤ MAX_SIZE

-- why no size is known
abbrev pub IsSizeFault : (page : ℕ) (blocks : List ℕ) → SizeFault → Type 0
IsSizeFault page blocks BadPage = is_page page ≡ false
IsSizeFault page blocks TooSmall = ¬ (All IsLeast blocks)
IsSizeFault page blocks TooLarge = ¬ (All (FitsPage page) blocks)
IsSizeFault page blocks TooMany = MAX_SIZE < BLOCK_LEAST * length blocks
IsSizeFault page blocks NoSize = MAX_SIZE < needed_words page blocks
