-- What the fields of a histogram's record say, for any words at all.
use Rattle.std.specs.Prelude.{Bool, true, not, ◌&&◌, ◌==◌, nat_lt, nat_le, if◌then◌else◌, ℕ, ◌+◌, ◌-◌, ◌/◌, ℤ, List, [], ◌∷◌, ◌++◌, length, take, slice_index, Option, is_none}
use Rattle.std.specs.Int.{w64, cast_signed}
use Rattle.std.specs.List.{slice_range, list_all}
use Rattle.segment_image.specs.Checks.{first_fault}
use Rattle.segment_image.specs.Words.{bytes_of_words}
use Rattle.segment_image.specs.Blocks.{field_at}
use Rattle.segment_image.specs.declared.layout.TheConstants.{BLOCK_SIZE, BLOCK_TYPE, HISTOGRAM_KIND, HISTOGRAM_MIN, HISTOGRAM_MAX, HISTOGRAM_BUCKETS, HISTOGRAM_SINGLE, HISTOGRAM_SUM, HISTOGRAM_SUM_MARK, HISTOGRAM_NAME_LENGTH, HISTOGRAM_NAME, KIND_LINEAR, KIND_BOOLEAN, KIND_CUSTOM, KIND_SPARSE}
use Rattle.bucket_ranges.specs.declared.limits.TheConstants.{LAST_BOUNDARY, MAX_BUCKETS, MAX_NAME}
use Rattle.bucket_ranges.specs.declared.spec.Spec.{Spec}
use Rattle.bucket_ranges.specs.declared.spec.Spec.TheVariants.{Linear, Boolean, Custom, Sparse}
use Rattle.bucket_ranges.specs.declared.single.SingleWord.{SingleWord}
use Rattle.bucket_ranges.specs.Spec.{linear_checks, buckets_of}
use Rattle.bucket_ranges.specs.Single.{single_of}

-- whether a record is of a type
abbrev pub is_of_type : List ℕ → ℕ → ℕ → Bool
is_of_type words type reference = field_at words reference BLOCK_TYPE == type

-- ---- the name

-- how many words the name's bytes take
abbrev pub name_words : ℕ → ℕ
name_words len = (len + 7) / 8

-- the number of the name's bytes
abbrev pub name_length : List ℕ → ℕ → ℕ
name_length words reference = field_at words reference HISTOGRAM_NAME_LENGTH

-- how many words of a record its fields and its name take
abbrev pub named_words : List ℕ → ℕ → ℕ
named_words words reference = HISTOGRAM_NAME + name_words (name_length words reference)

-- the word after the name
abbrev pub name_end : List ℕ → ℕ → ℕ
name_end words reference = reference + HISTOGRAM_NAME + name_words (name_length words reference)

-- the bytes of the name
abbrev pub name_of : List ℕ → ℕ → List ℕ
name_of words reference =
    take (name_length words reference)
    (bytes_of_words (slice_range words (reference + HISTOGRAM_NAME) (name_end words reference)))

-- a byte that a name may have: visible, and neither a comma nor a quotation mark
abbrev pub is_name_byte : ℕ → Bool
is_name_byte byte = nat_le 0x21 byte && nat_le byte 0x7E && not (byte == 0x2C) && not (byte == 0x22)

-- a name: 1 to 128 such bytes, of which the first is no exclamation mark
abbrev pub is_name : List ℕ → Bool
is_name name =
    nat_le 1 (length name) && nat_le (length name) MAX_NAME && not (slice_index name 0 == 0x21) && list_all is_name_byte name

-- whether the name is valid and its words lie in the block
abbrev pub has_name : List ℕ → ℕ → Bool
has_name words reference =
    nat_le (named_words words reference) (field_at words reference BLOCK_SIZE) && is_name (name_of words reference)

-- ---- the spec

-- the kinds: linear, boolean, custom, sparse
abbrev pub is_kind : ℕ → Bool
is_kind kind = nat_le KIND_LINEAR kind && nat_le kind KIND_SPARSE

-- whether a record is one of a sparse histogram
abbrev pub is_sparse : List ℕ → ℕ → Bool
is_sparse words reference = field_at words reference HISTOGRAM_KIND == KIND_SPARSE

-- the words after the name that are the ranges of a custom record: ranges 1 to n - 1
abbrev pub inner_ranges : List ℕ → ℕ → List ℕ
inner_ranges words reference =
    let first = name_end words reference in
    slice_range words first (first + (field_at words reference HISTOGRAM_BUCKETS - 1))

-- whether the numbers ascend, the first of them from above `low`
abbrev pub ascends_above : ℕ → List ℕ → Bool
ascends_above low [] = true
ascends_above low (number ∷ rest) = nat_lt low number && ascends_above number rest

-- whether the numbers ascend between 0 and 2,147,483,647
abbrev pub ascends_inside : List ℕ → Bool
ascends_inside numbers = ascends_above 0 (numbers ++ LAST_BOUNDARY ∷ [])

-- whether a least and a greatest number, a number of buckets and inner ranges are those of a valid custom spec: there
-- are n - 1 inner ranges, they ascend between 0 and 2,147,483,647, and the two numbers are the ends
abbrev pub is_custom_named : ℕ → ℕ → ℕ → List ℕ → Bool
is_custom_named min max n inner =
    nat_le 2 n && nat_le n MAX_BUCKETS && (length inner == n - 1) && ascends_inside inner
    && (slice_index inner 0 == min) && (slice_index inner (n - 2) == max)

-- the same of a sparse spec: there is nothing to say
abbrev pub is_sparse_named : ℕ → ℕ → ℕ → Bool
is_sparse_named min max n = (min == 0) && (max == 0) && (n == 0)

-- of a boolean one: it is linear from 1 to 2 with three buckets
abbrev pub is_boolean_named : ℕ → ℕ → ℕ → Bool
is_boolean_named min max n = (min == 1) && (max == 2) && (n == 3)

-- and of a linear one
abbrev pub is_linear_named : ℕ → ℕ → ℕ → Bool
is_linear_named min max n = is_none (first_fault (linear_checks min max n))

-- the spec that a kind, a minimum, a maximum, a number of buckets and inner ranges name
abbrev pub spec_named : ℕ → ℕ → ℕ → ℕ → List ℕ → Spec
spec_named kind min max n inner =
    if kind == KIND_SPARSE then Sparse
    else (if kind == KIND_CUSTOM then Custom inner else (if kind == KIND_BOOLEAN then Boolean else Linear min max n))

-- whether they are those of a valid spec
abbrev pub is_spec_named : ℕ → ℕ → ℕ → ℕ → List ℕ → Bool
is_spec_named kind min max n inner =
    if kind == KIND_SPARSE then is_sparse_named min max n
    else (if kind == KIND_CUSTOM then is_custom_named min max n inner
    else (if kind == KIND_BOOLEAN then is_boolean_named min max n else is_linear_named min max n))

-- the spec of a record
abbrev pub spec_of : List ℕ → ℕ → Spec
spec_of words reference =
    spec_named (field_at words reference HISTOGRAM_KIND) (field_at words reference HISTOGRAM_MIN)
    (field_at words reference HISTOGRAM_MAX) (field_at words reference HISTOGRAM_BUCKETS) (inner_ranges words reference)

-- how many words of a record its fields, its name and, for a custom one, its inner ranges take
abbrev pub record_words : List ℕ → ℕ → ℕ
record_words words reference =
    named_words words reference
    + (if field_at words reference HISTOGRAM_KIND == KIND_CUSTOM then field_at words reference HISTOGRAM_BUCKETS - 1 else 0)

-- whether the words of a record are those of a valid spec, and lie in its block
abbrev pub has_spec : List ℕ → ℕ → Bool
has_spec words reference =
    nat_le (record_words words reference) (field_at words reference BLOCK_SIZE)
    && is_spec_named (field_at words reference HISTOGRAM_KIND) (field_at words reference HISTOGRAM_MIN)
    (field_at words reference HISTOGRAM_MAX) (field_at words reference HISTOGRAM_BUCKETS) (inner_ranges words reference)

-- the number of buckets
abbrev pub record_buckets : List ℕ → ℕ → ℕ
record_buckets words reference = buckets_of (spec_of words reference)

-- ---- the single word and the sums

-- what the single word says in a version, if it has a valid form there
abbrev pub record_single : ℕ → List ℕ → ℕ → Option SingleWord
record_single version words reference =
    single_of version (record_buckets words reference) (field_at words reference HISTOGRAM_SINGLE)

-- the sum of the samples
abbrev pub sum_of : List ℕ → ℕ → ℤ
sum_of words reference = cast_signed w64 (field_at words reference HISTOGRAM_SUM)

-- the part of the sum that deltas have taken
abbrev pub sum_mark_of : List ℕ → ℕ → ℤ
sum_mark_of words reference = cast_signed w64 (field_at words reference HISTOGRAM_SUM_MARK)
