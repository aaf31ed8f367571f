-- What a record holds of what was given to its maker, in the words of a payload and in what an actor has seen of it.
pub use Rattle.segment_calls.specs.Asked.{AreNameWords}
use Rattle.std.specs.Prelude.{◌≡◌, ◌≢◌, ◌⊎◌, true, ℕ, ◌+◌, ◌<◌, ℤ, List, [], ◌∷◌, ◌++◌, length, replicate, slice_index, Some}
use Rattle.std.specs.Int.{w64, cast_unsigned}
use Rattle.segment_image.specs.declared.layout.TheConstants.{BLOCK_TYPE, HISTOGRAM_KIND, HISTOGRAM_NAME, HISTOGRAM_NAME_LENGTH, SAMPLE_HISTOGRAM, SAMPLE_VALUE, TYPE_HISTOGRAM, TYPE_SAMPLE}
use Rattle.segment_image.specs.Words.{bytes_of_words}
use Rattle.bucket_ranges.specs.declared.spec.Spec.{Spec}
use Rattle.bucket_ranges.specs.Spec.{spec_fields, spec_ranges}
use Rattle.bucket_ranges.specs.Reading.{is_i32}
use Rattle.segment_machine.specs.declared.seen.Seen.{Seen}
use Rattle.segment_machine.specs.declared.actor.Made.{Made}
use Rattle.segment_machine.specs.declared.actor.Made.TheVariants.{Histogram, Sample}
use Rattle.segment_machine.specs.Actor.{word_seen}
use Rattle.list_lemmas.specs.Firsts.{ComesFirst}
use Rattle.segment_calls.specs.Asked.{AreNameWords}

-- ---- in words

-- The front of a payload with which a record is published. That of a histogram has no counts yet, an empty single word, and marks, sums
-- and a redundant count of 0.
abbrev pub IsPayload : Made → List ℕ → Type 0
IsPayload (Histogram name spec) payload =
    (letters : List ℕ) × AreNameWords name letters
    × (payload ≡ spec_fields spec ++ 0 ∷ 0 ∷ 0 ∷ 0 ∷ 0 ∷ 0 ∷ length name ∷ (letters ++ spec_ranges spec))
IsPayload (Sample histogram value) payload =
    (k : ℕ) × (payload ++ replicate k 0 ≡ histogram ∷ cast_unsigned w64 value ∷ [])

-- ---- in what an actor has seen

-- it saw that a record is one of a histogram of this name
abbrev pub SawName : Seen → List ℕ → ℕ → Type 0
SawName seen name at =
    (word_seen seen.words (at + BLOCK_TYPE) ≡ Some TYPE_HISTOGRAM) × (word_seen seen.words (at + HISTOGRAM_NAME_LENGTH) ≡ Some (length name))
    × (letters : List ℕ) × AreNameWords name letters
    × ((i : ℕ) → i < length letters → word_seen seen.words (at + HISTOGRAM_NAME + i) ≡ Some (slice_index letters i))

-- it saw that a record is not of this name: its type differs, or the length of its name, or the bytes of a word of its name
abbrev pub SawOtherName : Seen → List ℕ → ℕ → Type 0
SawOtherName seen name at =
    ((tag : ℕ) × (word_seen seen.words (at + BLOCK_TYPE) ≡ Some tag) × (tag ≢ TYPE_HISTOGRAM))
    ⊎ ((len : ℕ) × (word_seen seen.words (at + HISTOGRAM_NAME_LENGTH) ≡ Some len) × (len ≢ length name))
    ⊎ ((letters : List ℕ) × (i word : ℕ) × AreNameWords name letters × (i < length letters)
    × (word_seen seen.words (at + HISTOGRAM_NAME + i) ≡ Some word) × (bytes_of_words (word ∷ []) ≢ bytes_of_words (slice_index letters i ∷ [])))

-- it saw the spec of a record whose name has `letters` words
abbrev pub SawSpec : Seen → Spec → ℕ → ℕ → Type 0
SawSpec seen spec letters at =
    ((i : ℕ) → i < 4 → word_seen seen.words (at + HISTOGRAM_KIND + i) ≡ Some (slice_index (spec_fields spec) i))
    × ((i : ℕ) → i < length (spec_ranges spec)
    → word_seen seen.words (at + HISTOGRAM_NAME + letters + i) ≡ Some (slice_index (spec_ranges spec) i))

-- it saw that a record whose name has `letters` words has another spec: a field differs, or a range does
abbrev pub SawOtherSpec : Seen → Spec → ℕ → ℕ → Type 0
SawOtherSpec seen spec letters at =
    ((i word : ℕ) × (i < 4) × (word_seen seen.words (at + HISTOGRAM_KIND + i) ≡ Some word) × (word ≢ slice_index (spec_fields spec) i))
    ⊎ ((i word : ℕ) × (i < length (spec_ranges spec)) × (word_seen seen.words (at + HISTOGRAM_NAME + letters + i) ≡ Some word)
    × (word ≢ slice_index (spec_ranges spec) i))

-- the first record of a name on the chain, as far as the actor walked along it
abbrev pub IsFirstNamed : Seen → List ℕ → ℕ → Type 0
IsFirstNamed seen name = ComesFirst (SawOtherName seen name) (SawName seen name) seen.chain

-- it saw that a record is a sample of this value of a histogram. The value is one of an `i32`, since two numbers that differ by 2^64
-- are one word
abbrev pub SawSample : Seen → ℕ → ℤ → ℕ → Type 0
SawSample seen histogram value at =
    (word_seen seen.words (at + BLOCK_TYPE) ≡ Some TYPE_SAMPLE) × (word_seen seen.words (at + SAMPLE_HISTOGRAM) ≡ Some histogram)
    × (word_seen seen.words (at + SAMPLE_VALUE) ≡ Some (cast_unsigned w64 value)) × (is_i32 value ≡ true)

-- it saw that a record is no sample of this value of a histogram
abbrev pub SawOther : Seen → ℕ → ℤ → ℕ → Type 0
SawOther seen histogram value at =
    ((tag : ℕ) × (word_seen seen.words (at + BLOCK_TYPE) ≡ Some tag) × (tag ≢ TYPE_SAMPLE))
    ⊎ ((of : ℕ) × (word_seen seen.words (at + SAMPLE_HISTOGRAM) ≡ Some of) × (of ≢ histogram))
    ⊎ ((word : ℕ) × (word_seen seen.words (at + SAMPLE_VALUE) ≡ Some word) × (word ≢ cast_unsigned w64 value))

-- the first sample of a value after the record of its histogram, as far as the actor walked along the chain
abbrev pub IsFirstSample : Seen → ℕ → ℤ → ℕ → Type 0
IsFirstSample seen histogram value at =
    (front rest : List ℕ) × (seen.chain ≡ front ++ histogram ∷ rest)
    × ComesFirst (SawOther seen histogram value) (SawSample seen histogram value) rest at
