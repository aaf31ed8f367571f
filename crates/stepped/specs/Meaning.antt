-- What a word of a segment means, by the header's layout and the blocks in the words.
use Rattle.std.specs.Prelude.{ℕ, zero, suc, ◌<◌, ◌+◌, ◌-◌, ◌/◌, ◌%◌, max, min, Bool, ◌&&◌, if◌then◌else◌, nat_lt, nat_le, ◌==◌, List, [], ◌∷◌, ◌++◌, length, slice_index, codes, Option, Some, None, option_map, ⊤}
use Rattle.std.specs.Fmt.{decimal, signed_decimal}
use Rattle.std.specs.Int.{w64, cast_signed, to_le_bytes}
use Rattle.segment_image.specs.Words.{word_at}
use Rattle.stepped.specs.declared.meaning.Sought.{Sought}
use Rattle.stepped.specs.declared.meaning.Sought.TheVariants.{Holding, CountingIn}
use Rattle.stepped.specs.declared.meaning.Role.{Role}
use Rattle.stepped.specs.declared.meaning.Role.TheVariants.{Histogram, Sample, Counts, Other}

-- ---- blocks

-- Where a block may begin: after the header, and then after each block, whose first word is its size. Words that are claimed are 0 until
-- their size is stored, so a word that is 0 is passed by itself.
abbrev pub spot : List ℕ → ℕ → ℕ
spot words zero = 16
spot words (suc n) = spot words n + max (word_at words (spot words n)) 1

-- whether the block there has the word, or is a histogram's record that counts in the block
abbrev pub is_sought : List ℕ → Sought → ℕ → Bool
is_sought words (Holding at) block = nat_le block at && nat_lt (at - block) (word_at words block)
is_sought words (CountingIn counts) block =
    nat_lt 0 (word_at words block) && (word_at words (block + 2) == 1 && word_at words (block + 8) == counts)

-- whether that is true of the block at a spot of the segment
abbrev pub is_at : List ℕ → Sought → ℕ → Bool
is_at words sought n = nat_lt (spot words n) (length words) && is_sought words sought (spot words n)

-- the one, or the other if there is none
abbrev pub or_else : Option ℕ → Option ℕ → Option ℕ
or_else None other = other
or_else (Some n) other = Some n

-- the least number below a bound for which a test holds
abbrev pub least : (ℕ → Bool) → ℕ → Option ℕ
least test zero = None
least test (suc n) = or_else (least test n) (if test n then Some n else None)

-- the first block that is looked for
abbrev pub block_of : List ℕ → Sought → Option ℕ
block_of words sought = option_map (spot words) (least (is_at words sought) (length words))

-- ---- names

-- a block of counts is the one of the histogram that counts in it
abbrev pub counts_role : Option ℕ → Role
counts_role None = Other
counts_role (Some histogram) = Counts histogram

-- What a block is. A record has all that it has once its next is stored.
abbrev pub role_of : List ℕ → ℕ → Role
role_of words block =
    if word_at words (block + 2) == 2 then counts_role (block_of words (CountingIn block))
    else (if word_at words (block + 3) == 0 then Other
    else (if word_at words (block + 2) == 1 then Histogram
    else (if (word_at words (block + 2) == 3) && nat_lt (word_at words (block + 4)) (length words) then Sample (word_at words (block + 4))
    else Other)))

-- the histogram of a sample or of counts begins within the words
abbrev pub IsInside : List ℕ → Role → Type 0
IsInside words (Sample histogram) = histogram < length words
IsInside words (Counts histogram) = histogram < length words
IsInside words role = ⊤

-- a byte of the name in a record
abbrev pub letter : List ℕ → ℕ → ℕ → ℕ
letter words block i = slice_index (to_le_bytes w64 (word_at words (block + (15 + i / 8)))) (i % 8)

-- this many of them, in order
abbrev pub letters : List ℕ → ℕ → ℕ → List ℕ
letters words block zero = []
letters words block (suc n) = letters words block n ++ letter words block n ∷ []

-- the name in a record, 128 bytes of it at most
abbrev pub name_text : List ℕ → ℕ → List ℕ
name_text words block = letters words block (min (word_at words (block + 14)) 128)

-- what a block is called
abbrev pub owner_text : List ℕ → ℕ → Role → List ℕ
owner_text words block Histogram = name_text words block
owner_text words block (Sample histogram) =
    name_text words histogram ++ codes ".sample(" ++ signed_decimal (cast_signed w64 (word_at words (block + 5))) ++ codes ")"
owner_text words block (Counts histogram) = name_text words histogram
owner_text words block Other = codes "@" ++ decimal block

-- ---- places

-- the word for a place in a block's header
abbrev pub header_field : ℕ → List ℕ
header_field place =
    if place == 0 then codes "size"
    else (if place == 1 then codes "cookie"
    else (if place == 2 then codes "type"
    else codes "next"))

-- the word for a place in a histogram's record after the single word: the boundaries of a custom one belong to the name
abbrev pub later_field : ℕ → List ℕ
later_field place =
    if place == 10 then codes "single_mark"
    else (if place == 11 then codes "sum"
    else (if place == 12 then codes "sum_mark"
    else (if place == 13 then codes "redundant"
    else (if place == 14 then codes "name_length"
    else codes "name"))))

-- the word for a place in a histogram's record
abbrev pub histogram_field : ℕ → List ℕ
histogram_field place =
    if place == 4 then codes "kind"
    else (if place == 5 then codes "min"
    else (if place == 6 then codes "max"
    else (if place == 7 then codes "buckets"
    else (if place == 8 then codes "counts"
    else (if place == 9 then codes "single"
    else later_field place)))))

-- the word for a place in a sample's record
abbrev pub sample_field : ℕ → Option (List ℕ)
sample_field place =
    if place == 4 then Some (codes "histogram")
    else (if place == 5 then Some (codes "value")
    else (if place == 6 then Some (codes "count")
    else (if place == 7 then Some (codes "mark")
    else None)))

-- the word for a place in a block of a type
abbrev pub field_word : ℕ → ℕ → Option (List ℕ)
field_word tag place =
    if nat_lt place 4 then Some (header_field place)
    else (if tag == 1 then Some (histogram_field place)
    else (if tag == 3 then sample_field place
    else None))

-- a word by its number
abbrev pub numbered : ℕ → List ℕ
numbered place = codes "word[" ++ decimal place ++ codes "]"

-- a field by its word, or by its number if it has none
abbrev pub field_text : Option (List ℕ) → ℕ → List ℕ
field_text None place = numbered place
field_text (Some word) place = word

-- a place after the header of a block of counts: as many counts as there are buckets, and then their marks
abbrev pub count_text : ℕ → ℕ → List ℕ
count_text buckets place =
    if nat_lt place buckets then codes "count[" ++ decimal place ++ codes "]" else codes "mark[" ++ decimal (place - buckets) ++ codes "]"

-- a place in a block of counts, or in any other
abbrev pub place_text : List ℕ → ℕ → Role → ℕ → List ℕ
place_text words block (Counts histogram) place =
    if nat_le 4 place then count_text (word_at words (histogram + 7)) (place - 4)
    else field_text (field_word (word_at words (block + 2)) place) place
place_text words block role place = field_text (field_word (word_at words (block + 2)) place) place

-- a word that no block has: one of the header, which names those that events change
abbrev pub header_text : ℕ → List ℕ
header_text at =
    if at == 6 then codes "flags"
    else (if at == 7 then codes "free"
    else (if at == 8 then codes "tail"
    else (if at == 15 then codes "queue.next"
    else numbered at)))

-- a word that a block has, or none
abbrev pub meaning_in : List ℕ → ℕ → Option ℕ → List ℕ
meaning_in words at None = header_text at
meaning_in words at (Some block) =
    owner_text words block (role_of words block) ++ codes "." ++ place_text words block (role_of words block) (at - block)

-- what a word means, as the words are
abbrev pub meaning : List ℕ → ℕ → List ℕ
meaning words at = meaning_in words at (block_of words (Holding at))
