-- By which keys a recorder finds the records that it visited along the list: those of histograms by their names, samples by histogram and
-- value.
use Rattle.std.specs.Prelude.{◌≡◌, true, ℕ, zero, suc, ◌+◌, ◌*◌, ◌<◌, ◌^◌, ◌%◌, ◌==◌, if◌then◌else◌, List, [], ◌∷◌, ◌++◌, Option, Some, None, is_some}
use Rattle.std.specs.Option.{unwrap_or}
use Rattle.std.specs.List.{All}
use Rattle.bucket_ranges.specs.Reading.{name_words}
use Rattle.segment_image.specs.declared.layout.TheConstants.{BLOCK_TYPE, HISTOGRAM_NAME, HISTOGRAM_NAME_LENGTH, SAMPLE_HISTOGRAM, SAMPLE_VALUE, TYPE_HISTOGRAM, TYPE_SAMPLE}
use Rattle.segment_machine.specs.declared.seen.Seen.{Seen}
use Rattle.segment_machine.specs.Actor.{word_seen}
use Rattle.segment_machine.specs.Made.{AreNameWords}
use Rattle.list_index.specs.Keys.{key_of}
use Rattle.live_segment.specs.declared.list.index.KeyKind.{KeyKind}
use Rattle.live_segment.specs.declared.list.index.KeyKind.TheVariants.{Name, Sample}

-- ---- words of records

-- it has seen a word of published records
abbrev pub HasSeen : Seen → ℕ → Type 0
HasSeen seen word = is_some (word_seen seen.words word) ≡ true

-- a word that it has seen
abbrev pub seen_word : Seen → ℕ → ℕ
seen_word seen word = unwrap_or (word_seen seen.words word) 0

-- this many words from one on
abbrev pub seen_words : Seen → ℕ → ℕ → List ℕ
seen_words seen from zero = []
seen_words seen from (suc n) = seen_words seen from n ++ seen_word seen (from + n) ∷ []

-- ---- names

-- the words of the name of a histogram's record
abbrev pub seen_letters : Seen → ℕ → List ℕ
seen_letters seen at = seen_words seen (at + HISTOGRAM_NAME) (name_words (seen_word seen (at + HISTOGRAM_NAME_LENGTH)))

-- the key of a record: that of its name, if it is one of a histogram
abbrev pub seen_name : Seen → ℕ → Option ℕ
seen_name seen at = if seen_word seen (at + BLOCK_TYPE) == TYPE_HISTOGRAM then Some (key_of (seen_letters seen at)) else None

-- It has looked at a record for its name: it has seen its type and, if it is one of a histogram, all of its name.
pub record HasLookedForName (seen : Seen) (at : ℕ) : Type 0 where
  pub tag : HasSeen seen (at + BLOCK_TYPE)
  pub length_seen : seen_word seen (at + BLOCK_TYPE) ≡ TYPE_HISTOGRAM → HasSeen seen (at + HISTOGRAM_NAME_LENGTH)
  pub letters : seen_word seen (at + BLOCK_TYPE) ≡ TYPE_HISTOGRAM
      → (i : ℕ) → i < name_words (seen_word seen (at + HISTOGRAM_NAME_LENGTH)) → HasSeen seen (at + HISTOGRAM_NAME + i)
  pub small : seen_word seen (at + BLOCK_TYPE) ≡ TYPE_HISTOGRAM
      → (i : ℕ) → i < name_words (seen_word seen (at + HISTOGRAM_NAME_LENGTH)) → seen_word seen (at + HISTOGRAM_NAME + i) < 2 ^ 64

-- the key of a name is that of its words
abbrev pub IsNameKey : List ℕ → ℕ → Type 0
IsNameKey name key = (letters : List ℕ) × AreNameWords name letters × All (λ word. word < 2 ^ 64) letters × (key ≡ key_of letters)

-- ---- samples

-- the key of a histogram's reference and the word of a value
abbrev pub sample_key : ℕ → ℕ → ℕ
sample_key histogram word = (histogram * 4294967296 + word) % 2 ^ 64

-- the key of a record: that of its histogram and its value, if it is a sample
abbrev pub seen_sample : Seen → ℕ → Option ℕ
seen_sample seen at =
    if seen_word seen (at + BLOCK_TYPE) == TYPE_SAMPLE then Some (sample_key (seen_word seen (at + SAMPLE_HISTOGRAM)) (seen_word seen (at + SAMPLE_VALUE)))
    else None

-- It has looked at a record for its value: it has seen its type and, if it is a sample, its histogram and its value.
pub record HasLookedForSample (seen : Seen) (at : ℕ) : Type 0 where
  pub tag : HasSeen seen (at + BLOCK_TYPE)
  pub histogram : seen_word seen (at + BLOCK_TYPE) ≡ TYPE_SAMPLE → HasSeen seen (at + SAMPLE_HISTOGRAM)
  pub value : seen_word seen (at + BLOCK_TYPE) ≡ TYPE_SAMPLE → HasSeen seen (at + SAMPLE_VALUE)

-- ---- of a kind

-- the key of a record, if it is one that has a key
abbrev pub seen_key : KeyKind → Seen → ℕ → Option ℕ
seen_key Name seen at = seen_name seen at
seen_key Sample seen at = seen_sample seen at

-- it has looked at a record for its key
abbrev pub HasLookedForKey : KeyKind → Seen → ℕ → Type 0
HasLookedForKey Name seen at = HasLookedForName seen at
HasLookedForKey Sample seen at = HasLookedForSample seen at
