-- What is known of the records on a list if none has a fault.
use Rattle.std.specs.Prelude.{◌≡◌, ◌≢◌, true, false, ℕ, ◌+◌, ◌<◌, ◌≤◌, List, length, [], All, None}
use Rattle.std.specs.List.{filter_map}
use Rattle.segment_image.specs.declared.head.SegmentHead.{SegmentHead}
use Rattle.segment_image.specs.declared.layout.TheConstants.{BLOCK_SIZE, BLOCK_TYPE, HISTOGRAM_BUCKETS, HISTOGRAM_COUNTS, HISTOGRAM_LEAST, TYPE_HISTOGRAM, TYPE_SAMPLE}
use Rattle.segment_image.specs.Blocks.{field_at, is_block}
use Rattle.image_rules.specs.Adoption.{AreApart, blocks_of}
use Rattle.bucket_ranges.specs.declared.limits.TheConstants.{MAX_BUCKETS}
use Rattle.bucket_ranges.specs.Reading.{bad_record, counts_words, has_bad_sample, is_sparse, record_buckets, record_fault, with_earlier}

-- no record on a list is bad
abbrev pub HasNoBad : List ℕ → SegmentHead → List ℕ → Type 0
HasNoBad words head references = filter_map (bad_record words head) (with_earlier references) ≡ []

-- a record has no fault of its own
pub record IsFaultless (words : List ℕ) (head : SegmentHead) (at : ℕ) : Type 0 where
  pub block : is_block words head at ≡ true
  pub histogram : field_at words at BLOCK_TYPE ≡ TYPE_HISTOGRAM → record_fault words head at ≡ None
  pub sample : field_at words at BLOCK_TYPE ≡ TYPE_SAMPLE → has_bad_sample words at ≡ false

abbrev pub AreFaultless : List ℕ → SegmentHead → List ℕ → Type 0
AreFaultless words head references = All (IsFaultless words head) references

-- a histogram's record lies in the words, and so does the block of counts that it names
pub record LiesInWords (words : List ℕ) (at : ℕ) : Type 0 where
  pub within : at + HISTOGRAM_LEAST ≤ length words
  pub buckets : record_buckets words at ≡ field_at words at HISTOGRAM_BUCKETS
  pub few : field_at words at HISTOGRAM_BUCKETS ≤ MAX_BUCKETS
  pub counts : is_sparse words at ≡ false → 0 < field_at words at HISTOGRAM_COUNTS
      → field_at words at HISTOGRAM_COUNTS + counts_words (field_at words at HISTOGRAM_BUCKETS) ≤ length words

-- a record of a histogram has its fields, and if it names counts, these are a block
pub record NamesBlock (words : List ℕ) (head : SegmentHead) (at : ℕ) : Type 0 where
  pub block : is_block words head at ≡ true
  pub fields : field_at words at BLOCK_TYPE ≡ TYPE_HISTOGRAM → HISTOGRAM_LEAST ≤ field_at words at BLOCK_SIZE
  pub counts : field_at words at BLOCK_TYPE ≡ TYPE_HISTOGRAM → field_at words at HISTOGRAM_COUNTS ≢ 0
      → is_block words head (field_at words at HISTOGRAM_COUNTS) ≡ true

-- each record on a list does so, and no two blocks overlap
pub record HasApartBlocks (words : List ℕ) (head : SegmentHead) (references : List ℕ) : Type 0 where
  pub named : All (NamesBlock words head) references
  pub apart : AreApart words (blocks_of words references)
