-- What the value of a word of a segment says, in words.
use Rattle.std.specs.Prelude.{ℕ, ◌+◌, ◌-◌, ◌/◌, ◌%◌, min, Bool, not, ◌&&◌, ◌||◌, if◌then◌else◌, nat_lt, nat_le, ◌==◌, List, [], ◌∷◌, ◌++◌, codes, Option, Some, None}
use Rattle.std.specs.Fmt.{decimal, signed_decimal}
use Rattle.std.specs.Int.{w64, cast_signed, to_le_bytes}
use Rattle.std.specs.List.{flat_map}
use Rattle.bucket_ranges.specs.Reading.{name_words}
use Rattle.bucket_ranges.specs.Single.{single_of}
use Rattle.bucket_ranges.specs.declared.single.SingleWord.{SingleWord}
use Rattle.bucket_ranges.specs.declared.single.SingleWord.TheVariants.{Empty, Packed, Disabled, FrozenEmpty, Frozen}
use Rattle.segment_image.specs.Words.{word_at}
use Rattle.stepped.specs.declared.meaning.Sought.TheVariants.{Holding}
use Rattle.stepped.specs.declared.value.Content.{Content}
use Rattle.stepped.specs.declared.value.Content.TheVariants.{Number, Signed, Single, Letters}
use Rattle.stepped.specs.Meaning.{block_of}

-- ---- what a word has

-- In a histogram's record, by its numbers of buckets and of words of its name: the single word, the sum and the sum mark, and the name.
abbrev pub histogram_content : ℕ → ℕ → ℕ → Content
histogram_content buckets letters place =
    if place == 9 then Single buckets
    else (if place == 11 || place == 12 then Signed
    else (if nat_le 15 place && nat_lt place (15 + letters) then Letters
    else Number))

-- how many words the name in a record has, 128 bytes of it at most
abbrev pub words_of_name : List ℕ → ℕ → ℕ
words_of_name words block = name_words (min (word_at words (block + 14)) 128)

-- in a block, by its type: the value of a sample has a sign too
abbrev pub block_content : List ℕ → ℕ → ℕ → Content
block_content words block place =
    if word_at words (block + 2) == 1 then histogram_content (word_at words (block + 7)) (words_of_name words block) place
    else (if word_at words (block + 2) == 3 && place == 5 then Signed
    else Number)

-- what a word has that a block has, or none
abbrev pub content_in : List ℕ → ℕ → Option ℕ → Content
content_in words at None = Number
content_in words at (Some block) = block_content words block (at - block)

-- what a word has, as the words are
abbrev pub content_of : List ℕ → ℕ → Content
content_of words at = content_in words at (block_of words (Holding at))

-- ---- texts

-- a number of units
abbrev pub units_text : ℕ → List ℕ
units_text units = decimal units ++ (if units == 1 then codes " unit" else codes " units")

-- units that are packed
abbrev pub packed_text : ℕ → ℕ → List ℕ
packed_text bucket units = codes "(bucket " ++ decimal bucket ++ codes ", " ++ units_text units ++ codes ")"

-- units that are packed and frozen
abbrev pub frozen_text : ℕ → ℕ → List ℕ
frozen_text bucket units = codes "frozen " ++ packed_text bucket units

-- a single word by its form, or as a number if it has no valid one
abbrev pub single_text : ℕ → Option SingleWord → List ℕ
single_text word None = decimal word
single_text word (Some Empty) = codes "empty"
single_text word (Some (Packed bucket units)) = packed_text bucket units
single_text word (Some (Disabled None)) = codes "disabled"
single_text word (Some (Disabled (Some bucket))) = codes "disabled (bucket " ++ decimal bucket ++ codes ")"
single_text word (Some FrozenEmpty) = codes "frozen"
single_text word (Some (Frozen bucket units)) = frozen_text bucket units

-- a digit of base 16
abbrev pub hex_digit : ℕ → ℕ
hex_digit digit = if nat_lt digit 10 then 48 + digit else 87 + digit

-- whether a byte of a name is shown as itself
abbrev pub is_plain : ℕ → Bool
is_plain byte = nat_le 32 byte && nat_lt byte 127 && not (byte == 34) && not (byte == 92)

-- A byte of a name: itself, or its number if it is a quotation mark, a backslash or not printable ASCII. A byte that is 0 does not belong
-- to the name.
abbrev pub letter_text : ℕ → List ℕ
letter_text byte =
    if byte == 0 then []
    else (if is_plain byte then byte ∷ []
    else codes "\\x" ++ hex_digit (byte / 16) ∷ hex_digit (byte % 16) ∷ [])

-- bytes of a name
abbrev pub letters_text : List ℕ → List ℕ
letters_text bytes = flat_map letter_text bytes

-- the same in quotation marks
abbrev pub quoted_text : List ℕ → List ℕ
quoted_text bytes = codes "\"" ++ letters_text bytes ++ codes "\""

-- a value of a word with this content, in a version of the format
abbrev pub text_as : ℕ → Content → ℕ → List ℕ
text_as version Number value = decimal value
text_as version Signed value = signed_decimal (cast_signed w64 value)
text_as version (Single buckets) value = single_text value (single_of version (min buckets 65535) value)
text_as version Letters value = quoted_text (to_le_bytes w64 value)

-- a value of a word, as the words are
abbrev pub value_text : List ℕ → ℕ → ℕ → List ℕ
value_text words at value = text_as (word_at words 1) (content_of words at) value
