-- What the words of a segment read as, for any words at all.
use Rattle.std.specs.Prelude.{◌≡◌, Bool, not, ◌&&◌, ◌==◌, if◌then◌else◌, ℕ, ℤ, List, [], ◌∷◌, length, map, take, slice_index, Option, Some, None, is_none, option_map}
use Rattle.std.specs.Str.{bytes_eq}
use Rattle.std.specs.List.{range_with_len, list_any, filter, filter_map}
use Rattle.segment_image.specs.Blocks.{field_at}
pub use Rattle.segment_image.specs.Blocks.{is_block}
use Rattle.segment_image.specs.declared.fault.ImageFault.{ImageFault}
use Rattle.segment_image.specs.declared.head.SegmentHead.{SegmentHead}
use Rattle.segment_image.specs.declared.layout.TheConstants.{TYPE_HISTOGRAM, TYPE_SAMPLE, HISTOGRAM_REDUNDANT}
use Rattle.bucket_ranges.specs.declared.spec.Spec.{Spec}
use Rattle.bucket_ranges.specs.declared.reading.RecordFault.{RecordFault}
use Rattle.bucket_ranges.specs.declared.reading.RecordFault.TheVariants.{BadSample}
pub use Rattle.bucket_ranges.specs.Listed.{before, next_of, IsWalk, IsListed, next_checks, stop_of}
pub use Rattle.bucket_ranges.specs.Record.{is_of_type, name_words, name_length, named_words, name_end, name_of, is_name_byte, is_name, has_name, is_kind, is_sparse, inner_ranges, ascends_above, ascends_inside, is_custom_named, is_sparse_named, is_boolean_named, is_linear_named, spec_named, is_spec_named, spec_of, record_words, has_spec, record_buckets, record_single, sum_of, sum_mark_of}
pub use Rattle.bucket_ranges.specs.Units.{counts_words, is_counts_block, count_at, total_at, totals_at, mark_at, marks_at, bucket_counts_at, has_large, is_bad_single, units_move, is_large_mark, is_large_mark_at, is_bad_mark_at, record_counts, record_single_mark, total_of, totals_of, mark_of, bucket_counts, bucket_marks, has_counts, has_no_units}
pub use Rattle.bucket_ranges.specs.RecordChecks.{is_bad_kind, is_bad_spec, is_bad_bucket_counts, is_bad_counts, is_bad_record_single, is_bad_mark, is_beyond, is_bad_sum, is_bad_record_sum, single_checks, bucket_checks, units_checks, checks_behind_name, record_checks, record_fault}
pub use Rattle.bucket_ranges.specs.Sample.{sample_histogram, sample_value, sample_count, sample_mark, is_i32, has_bad_sample, is_bad_sample_by, by_value, samples_of, first_samples, sample_counts, sample_marks}

-- ---- which histograms are read

-- the first of each group of equals, in order
abbrev pub first_of_each : {X : Type 0} → (X → X → Bool) → List X → List X
first_of_each same [] = []
first_of_each same (x ∷ rest) = x ∷ filter (λ y. not (same x y)) (first_of_each same rest)

-- the records of histograms among the records of a list
abbrev pub histogram_records : List ℕ → List ℕ → List ℕ
histogram_records words references = filter (is_of_type words TYPE_HISTOGRAM) references

-- those that have no fault
abbrev pub lawful_records : List ℕ → SegmentHead → List ℕ → List ℕ
lawful_records words head references =
    filter (λ reference. is_none (record_fault words head reference)) (histogram_records words references)

-- whether two records have the same name
abbrev pub same_name : List ℕ → ℕ → ℕ → Bool
same_name words a b = bytes_eq (name_of words b) (name_of words a)

-- those that are read: the first of each name
abbrev pub read_records : List ℕ → SegmentHead → List ℕ → List ℕ
read_records words head references = first_of_each (same_name words) (lawful_records words head references)

-- whether one of these records is read as the sparse histogram at a reference
abbrev pub is_sparse_read : List ℕ → SegmentHead → List ℕ → ℕ → Bool
is_sparse_read words head references histogram =
    list_any (λ reference. (reference == histogram) && is_sparse words reference) (read_records words head references)

-- ---- which samples are read

-- whether a sample record is bad: by its own words, or because it names no sparse histogram that is read among the records
-- before it
abbrev pub is_bad_sample : List ℕ → SegmentHead → List ℕ → ℕ → Bool
is_bad_sample words head earlier reference =
    is_bad_sample_by words reference (is_sparse_read words head earlier (sample_histogram words reference))

-- each record of a list, with those before it
abbrev pub with_earlier : List ℕ → List (List ℕ × ℕ)
with_earlier references = map (λ i. (take i references, slice_index references i)) (range_with_len 0 (length references))

-- whether a record is of a sample and has no fault
abbrev pub is_sample : List ℕ → SegmentHead → List ℕ × ℕ → Bool
is_sample words head placed =
    is_of_type words TYPE_SAMPLE placed.1 && not (is_bad_sample words head placed.0 placed.1)

-- the sample records of a list that have no fault
abbrev pub lawful_samples : List ℕ → SegmentHead → List ℕ → List ℕ
lawful_samples words head references = map (λ placed. placed.1) (filter (is_sample words head) (with_earlier references))

-- ---- the reading

-- what a histogram's record reads as; the counts are the totals of all buckets, each under its least value, or of a sparse
-- histogram those of each value that has a sample; each count has its mark
pub record Histogram : Type 0 where
  pub reference : ℕ
  pub name : List ℕ
  pub spec : Spec
  pub counts : List (ℤ × ℕ)
  pub marks : List ℕ
  pub sum : ℤ
  pub sum_mark : ℤ
  pub redundant : ℕ

-- the histogram of a record in a version, if the samples of the list are these
abbrev pub histogram_of : ℕ → List ℕ → List ℕ → ℕ → Histogram
histogram_of version words samples reference = record {
  reference = reference;
  name = name_of words reference;
  spec = spec_of words reference;
  counts = if is_sparse words reference
      then sample_counts words (first_samples words samples reference)
      else bucket_counts version words reference;
  marks = if is_sparse words reference
      then sample_marks words (first_samples words samples reference)
      else bucket_marks version words reference;
  sum = sum_of words reference;
  sum_mark = sum_mark_of words reference;
  redundant = field_at words reference HISTOGRAM_REDUNDANT;
}

-- the fault of a record that comes after these on the list: a histogram's, or a sample's; records of other types
-- have none
abbrev pub fault_behind : List ℕ → SegmentHead → List ℕ → ℕ → Option RecordFault
fault_behind words head earlier reference =
    if is_of_type words TYPE_HISTOGRAM reference then record_fault words head reference
    else (if is_of_type words TYPE_SAMPLE reference && is_bad_sample words head earlier reference then Some BadSample else None)

-- the reference of a record with its fault, if it has one
abbrev pub bad_record : List ℕ → SegmentHead → List ℕ × ℕ → Option (ℕ × RecordFault)
bad_record words head placed =
    option_map (λ fault. (placed.1, fault)) (fault_behind words head placed.0 placed.1)

-- a reading: the histograms and the bad records in the order of the list, and why the list stopped
pub record Reading : Type 0 where
  pub id : ℕ
  pub full : Bool
  pub corrupt : Bool
  pub hists : List Histogram
  pub bad : List (ℕ × RecordFault)
  pub stopped : Option ImageFault

-- what the records of a list read as: of each name the first valid record, with the samples of the list, and each
-- record that has a fault
abbrev pub reading_along : List ℕ → SegmentHead → List ℕ → Reading
reading_along words head references = record {
  id = head.id;
  full = head.full;
  corrupt = head.corrupt;
  hists = map (histogram_of head.version words (lawful_samples words head references)) (read_records words head references);
  bad = filter_map (bad_record words head) (with_earlier references);
  stopped = stop_of words head references;
}

-- what words with a valid header read as
abbrev pub IsReading : List ℕ → SegmentHead → Reading → Type 0
IsReading words head reading =
    (references : List ℕ) × IsListed words head references × (reading ≡ reading_along words head references)
