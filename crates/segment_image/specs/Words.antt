-- Words of 64 bits, and the bytes that they are in a file.
use Rattle.std.specs.Prelude.{ℕ, zero, suc, ◌/◌, List, [], ◌∷◌, drop, length, slice_index}
use Rattle.std.specs.List.{flat_map}
use Rattle.byteorder.specs.Endian.{little_bytes, little_number}

-- the word at an index
abbrev pub word_at : List ℕ → ℕ → ℕ
word_at words i = slice_index words i

-- the bytes of words in their order, eight for each, the least first
abbrev pub bytes_of_words : List ℕ → List ℕ
bytes_of_words words = flat_map (little_bytes 8) words

-- the first words of bytes
abbrev pub words_from : ℕ → List ℕ → List ℕ
words_from zero bytes = []
words_from (suc n) bytes = little_number 8 bytes ∷ words_from n (drop 8 bytes)

-- the whole words of bytes: eight bytes for each, the least first; up to seven bytes at the end are none
abbrev pub words_in : List ℕ → List ℕ
words_in bytes = words_from (length bytes / 8) bytes
