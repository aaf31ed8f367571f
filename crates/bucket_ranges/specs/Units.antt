-- The units of buckets: their totals, and their marks, which are the units that deltas have taken. Bucket i of n has its
-- count in a block of counts at a reference, which is 0 if there is none, and its mark there after the counts; a single
-- word holds units of one bucket, whose mark is the single mark.
use Rattle.std.specs.Prelude.{Bool, not, ◌&&◌, ◌||◌, ◌==◌, nat_lt, nat_le, if◌then◌else◌, ℕ, ◌+◌, ◌*◌, ℤ, pos, List, map, slice_index, Option, is_none}
use Rattle.std.specs.List.{range_with_len, list_any}
use Rattle.segment_image.specs.Blocks.{field_at, is_block}
use Rattle.segment_image.specs.declared.head.SegmentHead.{SegmentHead}
use Rattle.segment_image.specs.declared.layout.TheConstants.{VERSION_FROZEN, BLOCK_SIZE, BLOCK_HEADER, TYPE_COUNTS, HISTOGRAM_COUNTS, HISTOGRAM_SINGLE, HISTOGRAM_SINGLE_MARK}
use Rattle.bucket_ranges.specs.declared.limits.TheConstants.{MAX_PACKED, MAX_UNITS}
use Rattle.bucket_ranges.specs.declared.single.SingleWord.{SingleWord}
use Rattle.bucket_ranges.specs.Ranges.{boundaries_of}
use Rattle.bucket_ranges.specs.Single.{units_packed, packed_bucket, is_packed_bucket, is_disabled}
use Rattle.bucket_ranges.specs.Record.{is_of_type, spec_of, record_buckets, record_single}

-- ---- of a block of counts and a single word

-- how many words a block of counts has for n buckets: its header, the counts and the marks
abbrev pub counts_words : ℕ → ℕ
counts_words n = BLOCK_HEADER + 2 * n

-- whether there is a block of counts for n buckets at a reference
abbrev pub is_counts_block : List ℕ → SegmentHead → ℕ → ℕ → Bool
is_counts_block words head n reference =
    is_block words head reference && is_of_type words TYPE_COUNTS reference
    && nat_le (counts_words n) (field_at words reference BLOCK_SIZE)

-- the count of bucket i, 0 if there is no block of counts
abbrev pub count_at : List ℕ → ℕ → ℕ → ℕ
count_at words counts i = if counts == 0 then 0 else field_at words counts (BLOCK_HEADER + i)

-- the total of bucket i: its count, and the units that a single word holds for it
abbrev pub total_at : List ℕ → ℕ → Option SingleWord → ℕ → ℕ
total_at words counts single i = count_at words counts i + units_packed single i

-- the totals of n buckets
abbrev pub totals_at : List ℕ → ℕ → Option SingleWord → ℕ → List ℕ
totals_at words counts single n = map (total_at words counts single) (range_with_len 0 n)

-- the mark of bucket i of n: that of the packed bucket is the single mark; those of the others come after the counts, if there
-- is a block of them
abbrev pub mark_at : List ℕ → ℕ → ℕ → Option SingleWord → ℕ → ℕ → ℕ
mark_at words counts n single single_mark i =
    if is_packed_bucket single i then single_mark
    else (if counts == 0 then 0 else field_at words counts (BLOCK_HEADER + n + i))

-- the marks of n buckets
abbrev pub marks_at : List ℕ → ℕ → ℕ → Option SingleWord → ℕ → List ℕ
marks_at words counts n single single_mark = map (mark_at words counts n single single_mark) (range_with_len 0 n)

-- the totals of n buckets, each under its least value
abbrev pub bucket_counts_at : List ℕ → List ℕ → ℕ → Option SingleWord → ℕ → List (ℤ × ℕ)
bucket_counts_at boundaries words counts single n =
    map (λ i. (pos (slice_index boundaries i), total_at words counts single i)) (range_with_len 0 n)

-- ---- what is wrong with them

-- whether one of these totals is above 2^32 - 1
abbrev pub has_large : List ℕ → Bool
has_large totals = list_any (λ total. nat_lt MAX_UNITS total) totals

-- whether a single word has no form, or says that the counts are in use while there are none
abbrev pub is_bad_single : Option SingleWord → ℕ → Bool
is_bad_single single counts = is_none single || (is_disabled single && (counts == 0))

-- whether the units of a packed bucket move from the single word to the counts in a version
abbrev pub units_move : ℕ → Bool
units_move version = not (version == VERSION_FROZEN)

-- whether a mark is above what a bucket's mark may be: its total; in a packed bucket whose units move also up to 65,535,
-- since they may be on their way
abbrev pub is_large_mark : ℕ → ℕ → ℕ → Bool → Bool
is_large_mark version mark total packed =
    nat_lt total mark && (not (packed && units_move version) || nat_lt MAX_PACKED mark)

-- whether the mark of bucket i of n is
abbrev pub is_large_mark_at : ℕ → List ℕ → ℕ → ℕ → Option SingleWord → ℕ → ℕ → Bool
is_large_mark_at version words counts n single single_mark i =
    is_large_mark version (mark_at words counts n single single_mark i) (total_at words counts single i)
    (is_packed_bucket single i)

-- whether there is a single mark while no bucket is or was packed, or a bucket's mark is above what it may be
abbrev pub is_bad_mark_at : ℕ → List ℕ → ℕ → ℕ → Option SingleWord → ℕ → Bool
is_bad_mark_at version words counts n single single_mark =
    (is_none (packed_bucket single) && not (single_mark == 0))
    || list_any (is_large_mark_at version words counts n single single_mark) (range_with_len 0 n)

-- ---- of a histogram's record, in a version

-- the counts reference of a record
abbrev pub record_counts : List ℕ → ℕ → ℕ
record_counts words reference = field_at words reference HISTOGRAM_COUNTS

-- the single mark of a record
abbrev pub record_single_mark : List ℕ → ℕ → ℕ
record_single_mark words reference = field_at words reference HISTOGRAM_SINGLE_MARK

-- the total of bucket i of a record
abbrev pub total_of : ℕ → List ℕ → ℕ → ℕ → ℕ
total_of version words reference i = total_at words (record_counts words reference) (record_single version words reference) i

-- the totals of all buckets of a record
abbrev pub totals_of : ℕ → List ℕ → ℕ → List ℕ
totals_of version words reference =
    totals_at words (record_counts words reference) (record_single version words reference) (record_buckets words reference)

-- the mark of bucket i of a record
abbrev pub mark_of : ℕ → List ℕ → ℕ → ℕ → ℕ
mark_of version words reference i =
    mark_at words (record_counts words reference) (record_buckets words reference) (record_single version words reference)
    (record_single_mark words reference) i

-- the counts of the buckets of a record, each under its least value
abbrev pub bucket_counts : ℕ → List ℕ → ℕ → List (ℤ × ℕ)
bucket_counts version words reference =
    bucket_counts_at (boundaries_of (spec_of words reference)) words (record_counts words reference)
    (record_single version words reference) (record_buckets words reference)

-- the marks of the buckets of a record
abbrev pub bucket_marks : ℕ → List ℕ → ℕ → List ℕ
bucket_marks version words reference =
    marks_at words (record_counts words reference) (record_buckets words reference) (record_single version words reference)
    (record_single_mark words reference)

-- whether the counts reference is 0 or names a block of counts for the buckets of the record
abbrev pub has_counts : List ℕ → SegmentHead → ℕ → Bool
has_counts words head reference =
    (record_counts words reference == 0)
    || is_counts_block words head (record_buckets words reference) (record_counts words reference)

-- whether a record has no counts reference, no single word and no single mark
abbrev pub has_no_units : List ℕ → ℕ → Bool
has_no_units words reference =
    (record_counts words reference == 0) && (field_at words reference HISTOGRAM_SINGLE == 0)
    && (record_single_mark words reference == 0)
