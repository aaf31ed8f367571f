-- Which images may be adopted: what an image has used, and what can be wrong with its words. All of this is about words and what they read
-- as.
use Rattle.std.specs.Prelude.{◌≡◌, ◌≢◌, true, false, not, ◌&&◌, ◌==◌, max, ℕ, ◌+◌, ◌*◌, ◌/◌, ◌<◌, ◌≤◌, ℤ, ◌-ℤ◌, unsigned_abs, List, [], ◌∷◌, ◌++◌, length, sum_by, slice_range, if◌then◌else◌, None, Some, Ok}
use Rattle.std.specs.List.{flat_map, Contains}
use mathlib.Core.Option.{some}
use lib.ListN.{get_elem?}
use Rattle.segment_image.specs.declared.layout.TheConstants.{BLOCK_SIZE, BLOCK_TYPE, HISTOGRAM_COUNTS, HISTOGRAM_NAME, HISTOGRAM_SINGLE, SAMPLE_COUNT, SAMPLE_HISTOGRAM, SAMPLE_MARK, TYPE_HISTOGRAM, TYPE_SAMPLE, VERSION_FROZEN}
use Rattle.segment_image.specs.Head.{header_of, head_of}
use Rattle.segment_image.specs.Words.{word_at}
use Rattle.segment_image.specs.Blocks.{field_at}
use Rattle.bucket_ranges.specs.Single.{packed_bucket}
use Rattle.bucket_ranges.specs.Reading.{Histogram, Reading, is_of_type, is_sparse, name_of, name_words, record_buckets, record_single, sample_value}
use Rattle.segment_calls.specs.Asked.{AreNameWords}
use Rattle.segment_calls.specs.Form.{is_off}
use Rattle.alloc_core.specs.Planned.{is_pointer}
use Rattle.alloc_core.specs.Laws.{Apart}
use Rattle.list_core.specs.Chain.{IsStop}
use Rattle.image_rules.specs.Records.{IsSample, counts_word}

-- ---- what an image has used

-- an amount in units of 2^31, rounded up
abbrev pub units_for : ℤ → ℕ
units_for amount = (unsigned_abs amount + 2147483647) / 2147483648

-- the units that a histogram of an image has used: the greatest of its units, its redundant count, and what its sum, its sum mark and the
-- difference of these two come to
abbrev pub used_by : Histogram → ℕ
used_by h = max (sum_by (λ count. count.1) h.counts)
    (max h.redundant (max (units_for h.sum) (max (units_for h.sum_mark) (units_for (h.sum -ℤ h.sum_mark)))))

abbrev pub used_of : Reading → ℕ
used_of reading = sum_by used_by reading.hists

-- ---- what can be wrong

-- no record is bad, and the list does not stop early
abbrev pub HasNoFault : Reading → Type 0
HasNoFault reading = (reading.bad ≡ []) × (reading.stopped ≡ None)

-- the blocks of an image: the records on its list, and the blocks that records of histograms name as counts
abbrev pub named_counts : List ℕ → ℕ → List ℕ
named_counts words at =
    if is_of_type words TYPE_HISTOGRAM at && not (field_at words at HISTOGRAM_COUNTS == 0) then field_at words at HISTOGRAM_COUNTS ∷ [] else []

abbrev pub blocks_of : List ℕ → List ℕ → List ℕ
blocks_of words references = references ++ flat_map (named_counts words) references

abbrev pub run_at : List ℕ → ℕ → ℕ × ℕ
run_at words at = (at, field_at words at BLOCK_SIZE)

-- no two of these blocks overlap
abbrev pub AreApart : List ℕ → List ℕ → Type 0
AreApart words blocks =
    (i j a b : ℕ) → i < j → get_elem? blocks i ≡ some a → get_elem? blocks j ≡ some b → Apart (run_at words a) (run_at words b)

-- from a word on, all words are 0
abbrev pub AreZerosFrom : List ℕ → ℕ → Type 0
AreZerosFrom words free = (i : ℕ) → free ≤ i → i < length words → word_at words i ≡ 0

-- a sample that is not the first of its histogram and value counts nothing
abbrev pub AreLaterEmpty : List ℕ → List ℕ → Type 0
AreLaterEmpty words references =
    (at first : ℕ) → Contains references at → field_at words at BLOCK_TYPE ≡ TYPE_SAMPLE
    → IsSample words references (field_at words at SAMPLE_HISTOGRAM) (sample_value words at) first → first ≢ at
    → (field_at words at SAMPLE_COUNT ≡ 0) × (field_at words at SAMPLE_MARK ≡ 0)

-- the name in a histogram's record is padded with zeros
abbrev pub HasPaddedName : List ℕ → ℕ → Type 0
HasPaddedName words at =
    AreNameWords (name_of words at) (slice_range words (at + HISTOGRAM_NAME) (at + HISTOGRAM_NAME + name_words (length (name_of words at))))

-- its counts and marks are 0 until its single word is frozen
abbrev pub HasUnusedCounts : List ℕ → ℕ → Type 0
HasUnusedCounts words at =
    (i : ℕ) → is_sparse words at ≡ false → field_at words at HISTOGRAM_COUNTS ≢ 0 → is_off (field_at words at HISTOGRAM_SINGLE) ≡ false
    → i < 2 * record_buckets words at → counts_word words at i ≡ 0

-- the mark of its packed bucket is in the record alone
abbrev pub HasPackedMark : List ℕ → ℕ → Type 0
HasPackedMark words at =
    (i : ℕ) → is_sparse words at ≡ false → field_at words at HISTOGRAM_COUNTS ≢ 0
    → packed_bucket (record_single VERSION_FROZEN words at) ≡ Some i → counts_word words at (record_buckets words at + i) ≡ 0

-- Words with such a list are not damaged. They read without a fault, no two blocks overlap, all words from the free pointer on are 0, in
-- its page there is room for a smallest block, and the tail is on the list. A sample that is not the first of its value counts nothing;
-- names are padded with zeros. Of each record of a histogram with buckets, also of a later one of a name, the counts are 0 until its single
-- word is frozen, and the mark of the packed bucket is in the record alone.
pub record IsUndamaged (words references : List ℕ) (reading : Reading) : Type 0 where
  pub lawful : HasNoFault reading
  pub apart : AreApart words (blocks_of words references)
  pub zeros : AreZerosFrom words (head_of words).free
  pub room : is_pointer (head_of words).shape (head_of words).free ≡ true
  pub tail : IsStop references (head_of words).tail
  pub later : AreLaterEmpty words references
  pub padded : (at : ℕ) → Contains references at → field_at words at BLOCK_TYPE ≡ TYPE_HISTOGRAM → HasPaddedName words at
  pub unused : (at : ℕ) → Contains references at → field_at words at BLOCK_TYPE ≡ TYPE_HISTOGRAM → HasUnusedCounts words at
  pub packed : (at : ℕ) → Contains references at → field_at words at BLOCK_TYPE ≡ TYPE_HISTOGRAM → HasPackedMark words at

-- An image may be adopted: its header is valid, it is of version 2 and not corrupt, it is not damaged, and it has used no more units than a
-- segment has.
pub record IsAdoptable (words references : List ℕ) (reading : Reading) : Type 0 where
  pub header : header_of words ≡ Ok (head_of words)
  pub version : (head_of words).version ≡ VERSION_FROZEN
  pub intact : (head_of words).corrupt ≡ false
  pub undamaged : IsUndamaged words references reading
  pub units : used_of reading ≤ 4294967295
