-- What can be wrong with a histogram's record, in order.
use Rattle.std.specs.Prelude.{Bool, not, ◌||◌, nat_lt, if◌then◌else◌, ℕ, ℤ, ◌-ℤ◌, unsigned_abs, List, [], ◌∷◌, ◌++◌, Option}
use Rattle.segment_image.specs.Checks.{first_fault}
use Rattle.segment_image.specs.Blocks.{field_at}
use Rattle.segment_image.specs.declared.head.SegmentHead.{SegmentHead}
use Rattle.segment_image.specs.declared.layout.TheConstants.{BLOCK_SIZE, HISTOGRAM_LEAST, HISTOGRAM_KIND}
use Rattle.bucket_ranges.specs.declared.limits.TheConstants.{MAX_SUM}
use Rattle.bucket_ranges.specs.declared.reading.RecordFault.{RecordFault}
use Rattle.bucket_ranges.specs.declared.reading.RecordFault.TheVariants.{BadKind, BadName, BadSpec, BadCounts, BadSingle, BadMark, BadSum}
use Rattle.bucket_ranges.specs.Record.{has_name, is_kind, is_sparse, has_spec, record_buckets, record_single, sum_of, sum_mark_of}
use Rattle.bucket_ranges.specs.Units.{counts_words, has_large, is_bad_single, is_bad_mark_at, record_counts, record_single_mark, totals_of, has_counts, has_no_units}

-- whether the block is shorter than a record's fields, or there is no such kind
abbrev pub is_bad_kind : List ℕ → ℕ → Bool
is_bad_kind words reference =
    nat_lt (field_at words reference BLOCK_SIZE) HISTOGRAM_LEAST || not (is_kind (field_at words reference HISTOGRAM_KIND))

-- whether the spec is invalid, or its counts do not fit in a page
abbrev pub is_bad_spec : List ℕ → ℕ → ℕ → Bool
is_bad_spec words page reference =
    not (has_spec words reference) || nat_lt page (counts_words (record_buckets words reference))

-- whether the counts of a record with buckets are bad: its counts reference is not 0 and names no block of counts for its buckets, or a
-- total is too large
abbrev pub is_bad_bucket_counts : List ℕ → SegmentHead → ℕ → Bool
is_bad_bucket_counts words head reference = not (has_counts words head reference) || has_large (totals_of head.version words reference)

-- whether the counts of a record are bad: those of a sparse one are if it has a counts reference, a single word or a single mark
abbrev pub is_bad_counts : List ℕ → SegmentHead → ℕ → Bool
is_bad_counts words head reference =
    if is_sparse words reference then not (has_no_units words reference) else is_bad_bucket_counts words head reference

-- whether the single word of a record is bad in a version
abbrev pub is_bad_record_single : ℕ → List ℕ → ℕ → Bool
is_bad_record_single version words reference =
    is_bad_single (record_single version words reference) (record_counts words reference)

-- whether a record's marks are bad in a version
abbrev pub is_bad_mark : ℕ → List ℕ → ℕ → Bool
is_bad_mark version words reference =
    is_bad_mark_at version words (record_counts words reference) (record_buckets words reference)
    (record_single version words reference) (record_single_mark words reference)

-- whether a sum is beyond 2^31 * (2^32 - 1) in size, which the units of a segment cannot reach
abbrev pub is_beyond : ℤ → Bool
is_beyond sum = nat_lt MAX_SUM (unsigned_abs sum)

-- whether a sum, its mark or their difference is
abbrev pub is_bad_sum : ℤ → ℤ → Bool
is_bad_sum sum mark = is_beyond sum || is_beyond mark || is_beyond (sum -ℤ mark)

-- whether a record's sums are bad
abbrev pub is_bad_record_sum : List ℕ → ℕ → Bool
is_bad_record_sum words reference = is_bad_sum (sum_of words reference) (sum_mark_of words reference)

-- the checks of a record's single word and marks in a version
abbrev pub single_checks : ℕ → List ℕ → ℕ → List (Bool × RecordFault)
single_checks version words reference =
    (is_bad_record_single version words reference, BadSingle) ∷ (is_bad_mark version words reference, BadMark) ∷ []

-- those of the units of a record with buckets
abbrev pub bucket_checks : List ℕ → SegmentHead → ℕ → List (Bool × RecordFault)
bucket_checks words head reference = (is_bad_bucket_counts words head reference, BadCounts) ∷ single_checks head.version words reference

-- those of the units of any record
abbrev pub units_checks : List ℕ → SegmentHead → ℕ → List (Bool × RecordFault)
units_checks words head reference = (is_bad_counts words head reference, BadCounts) ∷ single_checks head.version words reference

-- those of a record after its kind and its name
abbrev pub checks_behind_name : List ℕ → SegmentHead → ℕ → List (Bool × RecordFault)
checks_behind_name words head reference =
    (is_bad_spec words head.shape.page reference, BadSpec)
    ∷ (units_checks words head reference ++ (is_bad_record_sum words reference, BadSum) ∷ [])

-- all of them
abbrev pub record_checks : List ℕ → SegmentHead → ℕ → List (Bool × RecordFault)
record_checks words head reference =
    (is_bad_kind words reference, BadKind) ∷ (not (has_name words reference), BadName) ∷ checks_behind_name words head reference

-- the first fault of a histogram's record
abbrev pub record_fault : List ℕ → SegmentHead → ℕ → Option RecordFault
record_fault words head reference = first_fault (record_checks words head reference)
