-- The input of a command over images: a closed image, or the file of a segment that a program maps, which ends with shared cursors.
use Rattle.std.specs.Prelude.{Bool, ◌&&◌, ◌==◌, if◌then◌else◌, ℕ, List, take, drop}
use Rattle.segment_image.specs.Words.{word_at, words_in}
use Rattle.segment_image.specs.declared.layout.TheConstants.{SIZE_WORD, SEGMENT_COOKIE}

-- words are those of a mapped file: a word of 0, and then a segment with its cookie
abbrev pub is_mapped : List ℕ → Bool
is_mapped words = (word_at words 0 == 0) && (word_at words 1 == SEGMENT_COOKIE)

-- the image in the words of an input: in a mapped file the words from the second on, as many as the header there says; otherwise all
abbrev pub image_in : List ℕ → List ℕ
image_in words = if is_mapped words then take (word_at (drop 1 words) SIZE_WORD) (drop 1 words) else words

-- The most bytes of an input: those of 1,048,576 words, and in a mapped file of ten more: one before the image, eight shared cursors after
-- it, and one that makes the file a multiple of sixteen bytes.
abbrev pub most_bytes : List ℕ → ℕ
most_bytes bytes = if is_mapped (words_in bytes) then 8388688 else 8388608
