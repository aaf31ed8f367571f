-- The header of an image: words 0 to 15.
use Rattle.std.specs.Prelude.{Bool, not, ◌&&◌, ◌||◌, ◌==◌, nat_lt, ℕ, ◌+◌, List, [], ◌∷◌, length, Result, bit_and}
use Rattle.segment_image.specs.Checks.{checked}
use Rattle.segment_image.specs.Words.{word_at}
use Rattle.segment_image.specs.Shape.{is_page, is_size}
use Rattle.segment_image.specs.declared.fault.ImageFault.{ImageFault}
use Rattle.segment_image.specs.declared.fault.ImageFault.TheVariants.{TooShort, BadCookie, BadVersion, BadPage, BadSize, NotReady, Deleted, BadFree, BadQueue}
use Rattle.segment_image.specs.declared.head.SegmentHead.{SegmentHead}
use Rattle.segment_image.specs.declared.layout.TheConstants.{HEADER_WORDS, COOKIE_WORD, VERSION_WORD, SIZE_WORD, PAGE_WORD, ID_WORD, STATE_WORD, FLAGS_WORD, FREE_WORD, TAIL_WORD, QUEUE, SEGMENT_COOKIE, VERSION_MOVING, VERSION_FROZEN, STATE_READY, STATE_DELETED, FLAG_CORRUPT, FLAG_FULL, QUEUE_SIZE, QUEUE_COOKIE, TYPE_PURGED, BLOCK_SIZE, BLOCK_COOKIE, BLOCK_TYPE}

-- a version of the format that is read
abbrev pub is_version : ℕ → Bool
is_version version = (version == VERSION_MOVING) || (version == VERSION_FROZEN)

-- the queue block, from which the list of records starts: size 4, cookie 1, type 0
abbrev pub is_queue : List ℕ → Bool
is_queue words =
    (word_at words (QUEUE + BLOCK_SIZE) == QUEUE_SIZE) && (word_at words (QUEUE + BLOCK_COOKIE) == QUEUE_COOKIE)
    && (word_at words (QUEUE + BLOCK_TYPE) == TYPE_PURGED)

-- what can be wrong with a header, in order
abbrev pub header_checks : List ℕ → List (Bool × ImageFault)
header_checks words =
    (nat_lt (length words) HEADER_WORDS, TooShort)
    ∷ (not (word_at words COOKIE_WORD == SEGMENT_COOKIE), BadCookie)
    ∷ (not (is_version (word_at words VERSION_WORD)), BadVersion)
    ∷ (not (is_page (word_at words PAGE_WORD)), BadPage)
    ∷ (not (word_at words SIZE_WORD == length words) || not (is_size (word_at words SIZE_WORD) (word_at words PAGE_WORD)), BadSize)
    ∷ (not (word_at words STATE_WORD == STATE_READY) && not (word_at words STATE_WORD == STATE_DELETED), NotReady)
    ∷ (word_at words STATE_WORD == STATE_DELETED, Deleted)
    ∷ (nat_lt (word_at words FREE_WORD) HEADER_WORDS || nat_lt (word_at words SIZE_WORD) (word_at words FREE_WORD), BadFree)
    ∷ (not (is_queue words), BadQueue)
    ∷ []

-- what the words of a header say
abbrev pub head_of : List ℕ → SegmentHead
head_of words = record {
  shape = record { size = word_at words SIZE_WORD; page = word_at words PAGE_WORD };
  version = word_at words VERSION_WORD;
  id = word_at words ID_WORD;
  free = word_at words FREE_WORD;
  tail = word_at words TAIL_WORD;
  corrupt = not (bit_and (word_at words FLAGS_WORD) FLAG_CORRUPT == 0);
  full = not (bit_and (word_at words FLAGS_WORD) FLAG_FULL == 0);
}

-- the first fault of the header, or what it says
abbrev pub header_of : List ℕ → Result SegmentHead ImageFault
header_of words = checked (header_checks words) (head_of words)
