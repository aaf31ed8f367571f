-- What a look has of the records that it follows: which of its words come from which copy.
use Rattle.std.specs.Prelude.{◌≡◌, false, true, ◌≢◌, ◌⊎◌, ◌==◌, if◌then◌else◌, ℕ, suc, ◌+◌, ◌<◌, ◌≤◌, List, drop, length, slice_index, sum_by, None}
use Rattle.std.specs.Int.{w64, cast_signed}
use Rattle.std.specs.List.{Contains, flat_map, range_with_len, slice_range}
use mathlib.Core.Option.{none}
use Rattle.segment_image.specs.Blocks.{field_at}
use Rattle.segment_image.specs.Shape.{Dimensions}
use Rattle.segment_image.specs.Words.{word_at}
use Rattle.bucket_ranges.specs.Listed.{before}
use Rattle.segment_image.specs.declared.layout.TheConstants.{VERSION_FROZEN, BLOCK_HEADER, BLOCK_NEXT, HEADER_WORDS, QUEUE, TAIL_WORD, HISTOGRAM_SINGLE, HISTOGRAM_SINGLE_MARK, HISTOGRAM_SUM, HISTOGRAM_SUM_MARK, HISTOGRAM_REDUNDANT, SAMPLE_COUNT, SAMPLE_MARK}
use Rattle.bucket_ranges.specs.Reading.{is_bad_sum, total_of}
use Rattle.bucket_ranges.specs.Single.{is_packed_bucket, packed_bucket, single_of, units_packed}
use Rattle.bucket_ranges.specs.Spec.{buckets_of}
use Rattle.segment_looks.specs.Looks.{IsLook, counts_looked, counts_reference, followed_records, is_frozen, list_start}
use Rattle.segment_machine.specs.State.{State}
use Rattle.segment_invariant.specs.Body.{Record, Counts, Sample, Body, histogram, counts, sample, other, Piece, Anatomy}
use Rattle.segment_invariant.specs.Seen.{Stands, HasRecord, HasCounts, HasSample, IsFirst, IsFirstOf}
use Rattle.segment_invariant.specs.Invariant.{Invariant, total_in}
use Rattle.segment_invariant.specs.Ledger.{form_at, key_of_bucket}
use Rattle.segment_machine.specs.Entry.{tally_units}
use Rattle.segment_machine.specs.Actor.{log_of}
use Rattle.segment_promises.specs.Reads.{begun_of}
use Rattle.look_promises.specs.Runs.{RunsThrough, Moments, AreLoaded}
use Rattle.look_promises.specs.Looks.{head_loaded, HasWords}

-- A block with a next, and with the changing words taken from the copies: a histogram's single word and sum from the second copy, its
-- single mark, sum mark and redundant count from the first, and its counts reference from the second, or from the third if the second has a
-- single word that is off and no reference yet; a sample's count from the second, and its mark from the first.
abbrev pub looked_block : List ℕ → List ℕ → List ℕ → ℕ → ℕ → Body → Body
looked_block one two three at next (histogram r) = histogram (record r {
  next = next;
  counts = counts_reference two three at;
  single = field_at two at HISTOGRAM_SINGLE;
  mark = field_at one at HISTOGRAM_SINGLE_MARK;
  sum = field_at two at HISTOGRAM_SUM;
  sum_mark = field_at one at HISTOGRAM_SUM_MARK;
  noted = field_at one at HISTOGRAM_REDUNDANT;
})
looked_block one two three at next (sample s) = sample (record s { next = next; units = field_at two at SAMPLE_COUNT; mark = field_at one at SAMPLE_MARK })
looked_block one two three at next (other size tag n payload) = other size tag next payload
looked_block one two three at next body = body

-- A look has each record that it follows as it is at the last moment, except for its next, which gives the record after it, and the words
-- that change.
abbrev pub LooksShowRecords : Type 0
LooksShowRecords = (shape : Dimensions) (opened : Anatomy) (at : ℕ → State) (first last : ℕ) (moments : Moments) (one two three image : List ℕ)
    → RunsThrough shape opened at → AreLoaded shape at first last moments one two three
    → IsLook (head_loaded shape opened at moments.three) one two three image
    → (late : Invariant shape opened (at last))
    × ((k : ℕ) (body : Body) → k < length (followed_records (head_loaded shape opened at moments.three) two)
    → Stands late.anatomy.pieces (slice_index (followed_records (head_loaded shape opened at moments.three) two) k) none body
    → HasWords image (slice_index (followed_records (head_loaded shape opened at moments.three) two) k)
    (looked_block one two three (slice_index (followed_records (head_loaded shape opened at moments.three) two) k)
    (list_start (drop (suc k) (followed_records (head_loaded shape opened at moments.three) two))) body))

-- A counts block with the counts of the second copy, or zeros if the single word of its record was not off there, and the marks of the
-- first.
abbrev pub looked_counts : List ℕ → List ℕ → ℕ → ℕ → ℕ → Counts → Counts
looked_counts one two at place n c = record c {
  units = counts_looked two at (place + BLOCK_HEADER) n;
  marks = slice_range one (place + BLOCK_HEADER + n) (place + BLOCK_HEADER + n + n);
}

-- If a look takes a counts reference from a record that it follows, it has the counts block with these counts and marks; all else of that
-- block is as it is at the last moment.
abbrev pub LooksShowCounts : Type 0
LooksShowCounts = (shape : Dimensions) (opened : Anatomy) (at : ℕ → State) (first last : ℕ) (moments : Moments) (one two three image : List ℕ)
    → RunsThrough shape opened at → AreLoaded shape at first last moments one two three
    → IsLook (head_loaded shape opened at moments.three) one two three image
    → (late : Invariant shape opened (at last))
    × ((reference : ℕ) (r : Record) (c : Counts) → Contains (followed_records (head_loaded shape opened at moments.three) two) reference
    → HasRecord late.anatomy.pieces reference r → counts_reference two three reference ≢ 0 → HasCounts late.anatomy.pieces r.counts c
    → HasWords image r.counts (counts (looked_counts one two reference r.counts (buckets_of r.spec) c)))

-- The sum that a look takes from a record, and its sum mark, are ones that a reader accepts: near 0 and near each other.
abbrev pub LooksHaveSums : Type 0
LooksHaveSums = (shape : Dimensions) (opened : Anatomy) (at : ℕ → State) (first last : ℕ) (moments : Moments) (one two three : List ℕ)
    → RunsThrough shape opened at → AreLoaded shape at first last moments one two three
    → (late : Invariant shape opened (at last))
    × ((reference : ℕ) (r : Record) → HasRecord late.anatomy.pieces reference r
    → is_bad_sum (cast_signed w64 (field_at two reference HISTOGRAM_SUM)) (cast_signed w64 (field_at one reference HISTOGRAM_SUM_MARK)) ≡ false)

-- ---- totals

-- the total of a bucket of a record among blocks
abbrev pub IsTotalAmong : ℕ → List Piece → ℕ → ℕ → ℕ → Type 0
IsTotalAmong version pieces at i total = (r : Record) × HasRecord pieces at r
    × (((r.counts ≡ 0) × (total ≡ units_packed (form_at version r) i))
    ⊎ ((c : Counts) × HasCounts pieces r.counts c × (total ≡ total_in version r c i)))

-- the total of bucket i of n that a look has of a record for which it takes a counts reference
abbrev pub total_looked : List ℕ → ℕ → ℕ → ℕ → ℕ → ℕ
total_looked two at place n i =
    (if place == 0 then 0 else slice_index (counts_looked two at (place + BLOCK_HEADER) n) i)
    + units_packed (single_of VERSION_FROZEN n (field_at two at HISTOGRAM_SINGLE)) i

-- The total that a look has of each bucket of a record is at least that of the first moment, if the record was there, and at most that of
-- the last.
abbrev pub LooksCountTotals : Type 0
LooksCountTotals = (shape : Dimensions) (opened : Anatomy) (at : ℕ → State) (first last : ℕ) (moments : Moments) (one two three : List ℕ)
    → RunsThrough shape opened at → AreLoaded shape at first last moments one two three
    → (early : Invariant shape opened (at first)) × (late : Invariant shape opened (at last))
    × ((reference i : ℕ) (r : Record) → HasRecord late.anatomy.pieces reference r → i < buckets_of r.spec
    → ((total : ℕ) → IsTotalAmong VERSION_FROZEN early.anatomy.pieces reference i total
    → total ≤ total_looked two reference (counts_reference two three reference) (buckets_of r.spec) i)
    × ((total : ℕ) → IsTotalAmong VERSION_FROZEN late.anatomy.pieces reference i total
    → total_looked two reference (counts_reference two three reference) (buckets_of r.spec) i ≤ total))

-- the mark of bucket i of n that a look has of a record for which it takes a counts reference: that of the packed bucket is the single mark
abbrev pub mark_looked : List ℕ → List ℕ → ℕ → ℕ → ℕ → ℕ → ℕ
mark_looked one two at place n i =
    if is_packed_bucket (single_of VERSION_FROZEN n (field_at two at HISTOGRAM_SINGLE)) i then field_at one at HISTOGRAM_SINGLE_MARK
    else (if place == 0 then 0 else field_at one place (BLOCK_HEADER + n + i))

-- No total that a look has of a bucket is above what a segment may count, and no mark above its total.
abbrev pub LooksBoundMarks : Type 0
LooksBoundMarks = (shape : Dimensions) (opened : Anatomy) (at : ℕ → State) (first last : ℕ) (moments : Moments) (one two three : List ℕ)
    → RunsThrough shape opened at → AreLoaded shape at first last moments one two three
    → (late : Invariant shape opened (at last))
    × ((reference i : ℕ) (r : Record) → HasRecord late.anatomy.pieces reference r → i < buckets_of r.spec
    → (total_looked two reference (counts_reference two three reference) (buckets_of r.spec) i ≤ 4294967295)
    × (mark_looked one two reference (counts_reference two three reference) (buckets_of r.spec) i
    ≤ total_looked two reference (counts_reference two three reference) (buckets_of r.spec) i))

-- The single word that a look has of a record has a form; and if it is off, the look takes a counts reference.
abbrev pub LooksHaveForms : Type 0
LooksHaveForms = (shape : Dimensions) (opened : Anatomy) (at : ℕ → State) (first last : ℕ) (moments : Moments) (one two three : List ℕ)
    → RunsThrough shape opened at → AreLoaded shape at first last moments one two three
    → (late : Invariant shape opened (at last))
    × ((reference : ℕ) (r : Record) → HasRecord late.anatomy.pieces reference r
    → (single_of VERSION_FROZEN (buckets_of r.spec) (field_at two reference HISTOGRAM_SINGLE) ≢ None)
    × (is_frozen two reference ≡ true → counts_reference two three reference ≢ 0))

-- If the single word that a look has of a record packs no bucket, its single mark is 0.
abbrev pub LooksMarkPacked : Type 0
LooksMarkPacked = (shape : Dimensions) (opened : Anatomy) (at : ℕ → State) (first last : ℕ) (moments : Moments) (one two three : List ℕ)
    → RunsThrough shape opened at → AreLoaded shape at first last moments one two three
    → (late : Invariant shape opened (at last))
    × ((reference : ℕ) (r : Record) → HasRecord late.anatomy.pieces reference r
    → packed_bucket (single_of VERSION_FROZEN (buckets_of r.spec) (field_at two reference HISTOGRAM_SINGLE)) ≡ None
    → field_at one reference HISTOGRAM_SINGLE_MARK ≡ 0)

-- No count of a sample that a look has is above what a segment may count, and no mark of one above its count.
abbrev pub LooksBoundSamples : Type 0
LooksBoundSamples = (shape : Dimensions) (opened : Anatomy) (at : ℕ → State) (first last : ℕ) (moments : Moments) (one two three : List ℕ)
    → RunsThrough shape opened at → AreLoaded shape at first last moments one two three
    → (late : Invariant shape opened (at last))
    × ((reference : ℕ) (s : Sample) → HasSample late.anatomy.pieces reference s
    → (field_at two reference SAMPLE_COUNT ≤ 4294967295) × (field_at one reference SAMPLE_MARK ≤ field_at two reference SAMPLE_COUNT))

-- ---- calls

-- For each bucket of a histogram a look has at least the units of all calls that had ended at the first moment, and at most those of the
-- calls that had begun at the last.
abbrev pub LooksCountCalls : Type 0
LooksCountCalls = (shape : Dimensions) (opened : Anatomy) (at : ℕ → State) (first last : ℕ) (moments : Moments) (one two three : List ℕ)
    → RunsThrough shape opened at → AreLoaded shape at first last moments one two three
    → (late : Invariant shape opened (at last))
    × ((reference i : ℕ) (r : Record) → HasRecord late.anatomy.pieces reference r → IsFirst late.anatomy.records r.name r.spec reference
    → i < buckets_of r.spec
    → (tally_units (flat_map log_of (at first).actors) r.name (key_of_bucket r.spec i)
    ≤ total_looked two reference (counts_reference two three reference) (buckets_of r.spec) i)
    × (total_looked two reference (counts_reference two three reference) (buckets_of r.spec) i
    ≤ tally_units (flat_map begun_of (at last).actors) r.name (key_of_bucket r.spec i)))

-- The same holds for each value of a sparse histogram, with the count of its first sample.
abbrev pub LooksCountValues : Type 0
LooksCountValues = (shape : Dimensions) (opened : Anatomy) (at : ℕ → State) (first last : ℕ) (moments : Moments) (one two three : List ℕ)
    → RunsThrough shape opened at → AreLoaded shape at first last moments one two three
    → (late : Invariant shape opened (at last))
    × ((reference : ℕ) (s : Sample) → HasSample late.anatomy.pieces reference s → IsFirstOf late.anatomy.records s.of s.value reference
    → (tally_units (flat_map log_of (at first).actors) s.name s.value ≤ field_at two reference SAMPLE_COUNT)
    × (field_at two reference SAMPLE_COUNT ≤ tally_units (flat_map begun_of (at last).actors) s.name s.value))

-- ---- one moment

-- all units that a look has of a record with n buckets for which it takes a counts reference
abbrev pub units_looked : List ℕ → ℕ → ℕ → ℕ → ℕ
units_looked two at place n = sum_by (total_looked two at place n) (range_with_len 0 n)

-- all units that words have of a record with n buckets
abbrev pub units_in_words : List ℕ → ℕ → ℕ → ℕ
units_in_words words at n = sum_by (total_of VERSION_FROZEN words at) (range_with_len 0 n)

-- If the units that a look has of a record are no more than those that the record had at a moment that is no later than any load of the
-- second copy, each total of the look is the one of that moment.
abbrev pub LooksAreOfOneMoment : Type 0
LooksAreOfOneMoment = (shape : Dimensions) (opened : Anatomy) (at : ℕ → State) (first last moment : ℕ) (moments : Moments) (one two three : List ℕ)
    → RunsThrough shape opened at → AreLoaded shape at first last moments one two three
    → ((j : ℕ) → j < shape.size → moment ≤ moments.two j)
    → (then_is : Invariant shape opened (at moment))
    × ((reference i : ℕ) (r : Record) → HasRecord then_is.anatomy.pieces reference r → i < buckets_of r.spec
    → units_looked two reference (counts_reference two three reference) (buckets_of r.spec) ≤ units_in_words (at moment).words reference (buckets_of r.spec)
    → total_looked two reference (counts_reference two three reference) (buckets_of r.spec) i ≡ total_of VERSION_FROZEN (at moment).words reference i)

-- ---- two looks

-- A look whose second copy was loaded no earlier than another's has no total of a bucket, and no count of a sample, below that of the other
-- look. Their other copies may have been loaded in any order.
abbrev pub LooksRise : Type 0
LooksRise = (shape : Dimensions) (opened : Anatomy) (at : ℕ → State) (first other last : ℕ) (moments later : Moments) (one two three four five six : List ℕ)
    → RunsThrough shape opened at → AreLoaded shape at first last moments one two three → AreLoaded shape at other last later four five six
    → ((i j : ℕ) → i < shape.size → j < shape.size → moments.two i ≤ later.two j)
    → (late : Invariant shape opened (at last))
    × ((reference i : ℕ) (r : Record) → HasRecord late.anatomy.pieces reference r → i < buckets_of r.spec
    → total_looked two reference (counts_reference two three reference) (buckets_of r.spec) i
    ≤ total_looked five reference (counts_reference five six reference) (buckets_of r.spec) i)
    × ((reference : ℕ) (s : Sample) → HasSample late.anatomy.pieces reference s → field_at two reference SAMPLE_COUNT ≤ field_at five reference SAMPLE_COUNT)

-- ---- the rest

-- A look has the header of the third copy, except for its tail and the start of its list, which are the last and the first of the records
-- that it follows.
abbrev pub LooksKeepHeaders : Type 0
LooksKeepHeaders = (shape : Dimensions) (opened : Anatomy) (at : ℕ → State) (first last : ℕ) (moments : Moments) (one two three image : List ℕ)
    → RunsThrough shape opened at → AreLoaded shape at first last moments one two three
    → IsLook (head_loaded shape opened at moments.three) one two three image
    → ((n : ℕ) → n < HEADER_WORDS → n ≢ TAIL_WORD → n ≢ QUEUE + BLOCK_NEXT → word_at image n ≡ word_at three n)
    × (word_at image TAIL_WORD ≡ before (followed_records (head_loaded shape opened at moments.three) two) (length (followed_records (head_loaded shape opened at moments.three) two)))
    × (field_at image QUEUE BLOCK_NEXT ≡ list_start (followed_records (head_loaded shape opened at moments.three) two))

-- A look is 0 from the free pointer of the third copy on.
abbrev pub LooksEndInZeros : Type 0
LooksEndInZeros = (shape : Dimensions) (opened : Anatomy) (at : ℕ → State) (first last : ℕ) (moments : Moments) (one two three image : List ℕ)
    → RunsThrough shape opened at → AreLoaded shape at first last moments one two three
    → IsLook (head_loaded shape opened at moments.three) one two three image
    → (n : ℕ) → (head_loaded shape opened at moments.three).free ≤ n → n < shape.size → word_at image n ≡ 0
