-- What the fields of a sample's record say, for any words at all.
use Rattle.std.specs.Prelude.{Bool, not, ◌||◌, ◌==◌, nat_lt, ℕ, ℤ, pos, negsuc, List, [], map}
use Rattle.std.specs.Int.{w64, cast_signed}
use Rattle.std.specs.declared.cmp.Ordering.{Ordering}
use Rattle.std.specs.Ordering.{int_cmp}
use Rattle.std.specs.BTreeSet.{insert_key}
use Rattle.std.specs.List.{filter, fold}
use Rattle.segment_image.specs.Blocks.{field_at}
use Rattle.segment_image.specs.declared.layout.TheConstants.{BLOCK_SIZE, SAMPLE_HISTOGRAM, SAMPLE_VALUE, SAMPLE_COUNT, SAMPLE_MARK, SAMPLE_LEAST}
use Rattle.bucket_ranges.specs.declared.limits.TheConstants.{MAX_UNITS}

-- the reference of the histogram of a sample
abbrev pub sample_histogram : List ℕ → ℕ → ℕ
sample_histogram words reference = field_at words reference SAMPLE_HISTOGRAM

-- the value of a sample
abbrev pub sample_value : List ℕ → ℕ → ℤ
sample_value words reference = cast_signed w64 (field_at words reference SAMPLE_VALUE)

-- the count of a sample
abbrev pub sample_count : List ℕ → ℕ → ℕ
sample_count words reference = field_at words reference SAMPLE_COUNT

-- the mark of a sample
abbrev pub sample_mark : List ℕ → ℕ → ℕ
sample_mark words reference = field_at words reference SAMPLE_MARK

-- whether a number is a value of an `i32`
abbrev pub is_i32 : ℤ → Bool
is_i32 (pos value) = nat_lt value 2147483648
is_i32 (negsuc value) = nat_lt value 2147483648

-- whether the record is bad by its own words: it is too short, its value is no `i32`, its count is above 2^32 - 1, or
-- its mark is above its count
abbrev pub has_bad_sample : List ℕ → ℕ → Bool
has_bad_sample words reference =
    nat_lt (field_at words reference BLOCK_SIZE) SAMPLE_LEAST
    || not (is_i32 (sample_value words reference))
    || nat_lt MAX_UNITS (sample_count words reference)
    || nat_lt (sample_count words reference) (sample_mark words reference)

-- whether it is bad; `known` says whether it names a sparse histogram that is read before it
abbrev pub is_bad_sample_by : List ℕ → ℕ → Bool → Bool
is_bad_sample_by words reference known = has_bad_sample words reference || not known

-- the order of samples by their values
abbrev pub by_value : List ℕ → ℕ → ℕ → Ordering
by_value words a b = int_cmp (sample_value words a) (sample_value words b)

-- those that name a histogram
abbrev pub samples_of : List ℕ → List ℕ → ℕ → List ℕ
samples_of words samples histogram = filter (λ sample. sample_histogram words sample == histogram) samples

-- of each value the first of these, the values ascending
abbrev pub first_samples : List ℕ → List ℕ → ℕ → List ℕ
first_samples words samples histogram = fold (insert_key (by_value words)) [] (samples_of words samples histogram)

-- the counts of these samples, each under its value
abbrev pub sample_counts : List ℕ → List ℕ → List (ℤ × ℕ)
sample_counts words samples = map (λ sample. (sample_value words sample, sample_count words sample)) samples

-- the marks of these samples
abbrev pub sample_marks : List ℕ → List ℕ → List ℕ
sample_marks words samples = map (λ sample. sample_mark words sample) samples
