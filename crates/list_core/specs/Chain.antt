-- The chain of a segment: the references that the nexts give from the queue block. The tail has no part in it.
use Rattle.std.specs.Prelude.{◌≡◌, ◌≢◌, ℕ, ◌+◌, ◌<◌, ◌≤◌, Bool, true, ◌&&◌, ◌||◌, ◌==◌, nat_le, List, [], ◌∷◌, ◌++◌, length, slice_index}
use Rattle.segment_image.specs.Words.{word_at}
use Rattle.segment_image.specs.declared.layout.TheConstants.{HEADER_WORDS, TAIL_WORD, QUEUE, BLOCK_NEXT, BLOCK_LEAST}
use Rattle.segment_image.specs.declared.head.SegmentHead.{SegmentHead}
use Rattle.bucket_ranges.specs.Reading.{before, next_of, IsWalk}

-- a word that a next or the tail can be: the queue block, or a place where a smallest block fits in n words
abbrev pub is_reference : ℕ → ℕ → Bool
is_reference n reference = (reference == QUEUE) || (nat_le HEADER_WORDS reference && nat_le (reference + BLOCK_LEAST) n)

-- the blocks from which nexts lead: the queue block, then the records
abbrev pub stops : List ℕ → List ℕ
stops chain = QUEUE ∷ chain

-- the queue block, or a record of the chain
abbrev pub IsStop : List ℕ → ℕ → Type 0
IsStop chain at = (k : ℕ) × (k ≤ length chain) × (slice_index (stops chain) k ≡ at)

-- one stop and the next one
abbrev pub AreNeighbours : List ℕ → ℕ → ℕ → Type 0
AreNeighbours chain at next = (k : ℕ) × (k < length chain) × (slice_index (stops chain) k ≡ at) × (slice_index chain k ≡ next)

-- the nexts lead from the queue block along the chain, and from its end back to the queue block; no record is on it twice
pub record IsLinked (words : List ℕ) (chain : List ℕ) : Type 0 where
  pub linked : (i : ℕ) → i ≤ length chain → word_at words (slice_index (stops chain) i + BLOCK_NEXT) ≡ slice_index (chain ++ QUEUE ∷ []) i
  pub distinct : (i j : ℕ) → i < j → j ≤ length chain → slice_index (stops chain) i ≢ slice_index (stops chain) j

-- the chain of a segment whose header is `head`: distinct valid blocks that the nexts give from the queue block, and back
-- to it
pub record IsChain (words : List ℕ) (head : SegmentHead) (chain : List ℕ) : Type 0 where
  pub walk : IsWalk words head chain
  pub ended : next_of words (before chain (length chain)) ≡ QUEUE

-- the words have a list: the nexts lead along the chain, each of its stops is a reference that a list can have, and the tail
-- is one of them
pub record IsList (words : List ℕ) (chain : List ℕ) : Type 0 where
  pub linked : IsLinked words chain
  pub references : (at : ℕ) → IsStop chain at → is_reference (length words) at ≡ true
  pub tail : IsStop chain (word_at words TAIL_WORD)
