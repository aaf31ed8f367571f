-- Blocks: the pieces of a segment that allocations claimed.
use Rattle.std.specs.Prelude.{Bool, not, ◌&&◌, ◌==◌, nat_le, ℕ, ◌+◌, ◌-◌, ◌/◌, List, [], ◌∷◌, Result}
use Rattle.segment_image.specs.Checks.{checked}
use Rattle.segment_image.specs.Words.{word_at}
use Rattle.segment_image.specs.declared.fault.ImageFault.{ImageFault}
use Rattle.segment_image.specs.declared.fault.ImageFault.TheVariants.{BadRef, BadBlock}
use Rattle.segment_image.specs.declared.head.SegmentHead.{SegmentHead}
use Rattle.segment_image.specs.declared.blocks.BlockHead.{BlockHead}
use Rattle.segment_image.specs.declared.layout.TheConstants.{HEADER_WORDS, BLOCK_SIZE, BLOCK_COOKIE, BLOCK_TYPE, BLOCK_NEXT, BLOCK_LEAST, CLAIMED_COOKIE}

-- a reference at which the smallest block, of five words, lies after the header and below the free pointer
abbrev pub is_placed : SegmentHead → ℕ → Bool
is_placed head reference = nat_le HEADER_WORDS reference && nat_le (reference + BLOCK_LEAST) head.free

-- the word at k of the block at a reference
abbrev pub field_at : List ℕ → ℕ → ℕ → ℕ
field_at words reference k = word_at words (reference + k)

-- a block that was claimed: it has the cookie, at least five words, all below the free pointer, and its
-- first and last word lie in one page
abbrev pub is_claimed : List ℕ → SegmentHead → ℕ → Bool
is_claimed words head reference =
    let size = field_at words reference BLOCK_SIZE in
    (field_at words reference BLOCK_COOKIE == CLAIMED_COOKIE) && nat_le BLOCK_LEAST size && nat_le (reference + size) head.free
    && (reference / head.shape.page == (reference + size - 1) / head.shape.page)

-- what can be wrong with a block, in order
abbrev pub block_checks : List ℕ → SegmentHead → ℕ → List (Bool × ImageFault)
block_checks words head reference =
    (not (is_placed head reference), BadRef) ∷ (not (is_claimed words head reference), BadBlock) ∷ []

-- what a block's header says
abbrev pub block_head_of : List ℕ → ℕ → BlockHead
block_head_of words reference = record {
  size = field_at words reference BLOCK_SIZE;
  tag = field_at words reference BLOCK_TYPE;
  next = field_at words reference BLOCK_NEXT;
}

-- the first fault of the block at a reference, or what its header says
abbrev pub block_of : List ℕ → SegmentHead → ℕ → Result BlockHead ImageFault
block_of words head reference = checked (block_checks words head reference) (block_head_of words reference)

-- there is a valid block at a reference
abbrev pub is_block : List ℕ → SegmentHead → ℕ → Bool
is_block words head reference = is_placed head reference && is_claimed words head reference
