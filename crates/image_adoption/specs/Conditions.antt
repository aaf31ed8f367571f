-- What holds of the words and the records of an image that is not damaged, grouped in the way that the check looks at them.
pub use Rattle.image_rules.specs.Adoption.{AreApart, AreZerosFrom, AreLaterEmpty, HasPaddedName, HasUnusedCounts, HasPackedMark}
use Rattle.std.specs.Prelude.{◌≡◌, true, ℕ, List}
use Rattle.std.specs.List.{Contains}
use Rattle.segment_image.specs.declared.layout.TheConstants.{BLOCK_TYPE, SAMPLE_COUNT, SAMPLE_MARK, TYPE_HISTOGRAM}
use Rattle.segment_image.specs.declared.head.SegmentHead.{SegmentHead}
use Rattle.segment_image.specs.Blocks.{field_at}
use Rattle.alloc_core.specs.Planned.{is_pointer}
use Rattle.list_core.specs.Chain.{IsStop}
use Rattle.image_rules.specs.Adoption.{blocks_of, AreApart, AreZerosFrom, AreLaterEmpty, HasPaddedName, HasUnusedCounts, HasPackedMark}

-- a sample has no units, and deltas took none of it
abbrev pub IsEmptySample : List ℕ → ℕ → Type 0
IsEmptySample words at = (field_at words at SAMPLE_COUNT ≡ 0) × (field_at words at SAMPLE_MARK ≡ 0)

-- a histogram's record has a padded name, counts that are 0 while they are not in use, and its packed mark in the record alone
pub record IsSettled (words : List ℕ) (at : ℕ) : Type 0 where
  pub name : HasPaddedName words at
  pub counts : HasUnusedCounts words at
  pub mark : HasPackedMark words at

-- each record of a histogram on a list is settled
abbrev pub AreSettled : List ℕ → List ℕ → Type 0
AreSettled words references = (at : ℕ) → Contains references at → field_at words at BLOCK_TYPE ≡ TYPE_HISTOGRAM → IsSettled words at

-- What the words of a header and a list have to satisfy, apart from having no bad record: the free pointer has room for a block in its
-- page, and all words from it on are 0; the tail is on the list; and so on.
pub record IsWholeImage (words : List ℕ) (head : SegmentHead) (references : List ℕ) : Type 0 where
  pub room : is_pointer head.shape head.free ≡ true
  pub zeros : AreZerosFrom words head.free
  pub tail : IsStop references head.tail
  pub settled : AreSettled words references
  pub later : AreLaterEmpty words references
  pub apart : AreApart words (blocks_of words references)
