-- The records of histograms and of samples in the words of an image, and the words of their counts.
use Rattle.std.specs.Prelude.{◌≡◌, ℕ, ◌+◌, ℤ, List}
use Rattle.segment_image.specs.declared.layout.TheConstants.{BLOCK_HEADER, BLOCK_TYPE, HISTOGRAM_COUNTS, SAMPLE_HISTOGRAM, TYPE_HISTOGRAM, TYPE_SAMPLE}
use Rattle.segment_image.specs.Blocks.{field_at}
use Rattle.bucket_ranges.specs.Reading.{name_of, sample_value}
use Rattle.list_lemmas.specs.Firsts.{IsFirstThat}

-- ---- the records of a chain

-- a record is of a histogram with this name
abbrev pub HasName : List ℕ → List ℕ → ℕ → Type 0
HasName words name at = (field_at words at BLOCK_TYPE ≡ TYPE_HISTOGRAM) × (name_of words at ≡ name)

-- the histogram of a name is the first record with this name on the chain
abbrev pub IsHistogram : (words chain name : List ℕ) → ℕ → Type 0
IsHistogram words chain name = IsFirstThat (HasName words name) chain

-- a record is a sample of this value of a histogram
abbrev pub IsSampleOf : List ℕ → ℕ → ℤ → ℕ → Type 0
IsSampleOf words histogram value at =
    (field_at words at BLOCK_TYPE ≡ TYPE_SAMPLE) × (field_at words at SAMPLE_HISTOGRAM ≡ histogram) × (sample_value words at ≡ value)

-- the sample of a value is the first record of this value on the chain
abbrev pub IsSample : (words chain : List ℕ) → ℕ → ℤ → ℕ → Type 0
IsSample words chain histogram value = IsFirstThat (IsSampleOf words histogram value) chain

-- ---- its counts

-- a word after the header of the counts block of a histogram's record: a count or a mark
abbrev pub counts_word : List ℕ → ℕ → ℕ → ℕ
counts_word words at i = field_at words (field_at words at HISTOGRAM_COUNTS) (BLOCK_HEADER + i)
