-- Where there are segments among the words of any bytes.
pub use Rattle.segment_image.specs.Words.{words_in}
use Rattle.std.specs.Prelude.{◌≡◌, Bool, true, is_ok, ℕ, ◌+◌, ◌*◌, ◌^◌, ◌<◌, ◌≤◌, List, ◌++◌, length, take, drop, filter, Option, None, Some, ⊤}
use Rattle.std.specs.List.{range_with_len}
use Rattle.std.specs.Io.KnownBytes.{Appends}
use Rattle.segment_image.specs.Words.{word_at, bytes_of_words, words_in}
use Rattle.segment_image.specs.Head.{header_of}
use Rattle.segment_image.specs.declared.layout.TheConstants.{SIZE_WORD}
use Rattle.segment_search.specs.declared.fault.SearchFault.{SearchFault}
use Rattle.segment_search.specs.declared.fault.SearchFault.TheVariants.{NoMemory, Device, NoSegment, TooLong, Write}

-- the words of a segment that begins here: as many as its size word says, or fewer if the words end before
abbrev pub said_words : List ℕ → List ℕ
said_words words = take (word_at words SIZE_WORD) words

-- whether there is a segment at a word: a valid header, with all the words that it says
abbrev pub is_segment_at : List ℕ → ℕ → Bool
is_segment_at words at = is_ok (header_of (said_words (drop at words)))

-- the words before an end at which there are segments: each such word counts, also one inside another segment
abbrev pub segments_before : List ℕ → ℕ → List ℕ
segments_before words end = filter (is_segment_at words) (range_with_len 0 end)

-- the segment with this number is at a word: with it and those that begin before it, there are `nth`
pub record IsNth (words : List ℕ) (nth at : ℕ) (segment : List ℕ) : Type 0 where
  pub stands : is_segment_at words at ≡ true
  pub segment_is : segment ≡ said_words (drop at words)
  pub earlier : length (segments_before words at) + 1 ≡ nth

-- A fault has its cause in the bytes: there are fewer segments, or more bytes than are searched. A device that fails, and memory that runs
-- out, have none there.
abbrev pub HasCause : List ℕ → ℕ → SearchFault → Type 0
HasCause bytes nth NoMemory = ⊤
HasCause bytes nth Device = ⊤
HasCause bytes nth Write = ⊤
HasCause bytes nth NoSegment = length (segments_before (words_in bytes) (length (words_in bytes))) < nth
HasCause bytes nth TooLong = 2 ^ 64 ≤ length bytes

-- the segment with this number is at a place in the bytes, and the bytes of its words were appended to a writer's, if these are known
pub record IsExtracted (bytes : List ℕ) (nth place : ℕ) (old new : Option (List ℕ)) : Type 0 where
  pub word : ℕ
  pub segment : List ℕ
  pub place_is : place ≡ 8 * word
  pub is_nth : IsNth (words_in bytes) nth word segment
  pub written : Appends old new (bytes_of_words segment)

-- all the words ahead: those that a window has, and then those of the bytes that its reader has left, if these are known
abbrev pub ahead : List ℕ → Option (List ℕ) → Option (List ℕ)
ahead words None = None
ahead words (Some bytes) = Some (words ++ words_in bytes)
