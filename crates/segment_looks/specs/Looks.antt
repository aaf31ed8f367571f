-- A look at a running segment: three copies of its words, taken one after the other, put together. `one`, `two` and `three`
-- are the words of the copies in this order, and `head` is the header of the third.
use Rattle.std.specs.Prelude.{◌≡◌, ◌≤◌, Bool, not, ◌&&◌, ◌||◌, ◌==◌, nat_le, if◌then◌else◌, ℕ, zero, suc, ◌+◌, ◌-◌, ◌/◌, List, [], ◌∷◌, ◌++◌, length, replicate, Result, Ok, Err}
use Rattle.std.specs.List.{slice_range}
use Rattle.segment_image.specs.Checks.{checked}
use Rattle.segment_image.specs.Head.{header_of}
use Rattle.segment_image.specs.Blocks.{field_at, is_placed}
use Rattle.segment_image.specs.declared.fault.ImageFault.{ImageFault}
use Rattle.segment_image.specs.declared.fault.ImageFault.TheVariants.{BadSize}
use Rattle.segment_image.specs.declared.head.SegmentHead.{SegmentHead}
use Rattle.segment_image.specs.declared.layout.TheConstants.{HEADER_WORDS, TAIL_WORD, QUEUE, VERSION_FROZEN, BLOCK_NEXT, BLOCK_HEADER, BLOCK_LEAST, TYPE_HISTOGRAM, TYPE_SAMPLE, HISTOGRAM_BUCKETS, HISTOGRAM_COUNTS, HISTOGRAM_SINGLE, HISTOGRAM_SINGLE_MARK, HISTOGRAM_SUM, HISTOGRAM_SUM_MARK, HISTOGRAM_REDUNDANT, HISTOGRAM_LEAST, DISABLED_BIT, SAMPLE_COUNT, SAMPLE_MARK, SAMPLE_LEAST}
use Rattle.bucket_ranges.specs.declared.limits.TheConstants.{MAX_BUCKETS}
use Rattle.bucket_ranges.specs.Listed.{before, next_of}
use Rattle.bucket_ranges.specs.Record.{is_of_type}
use Rattle.bucket_ranges.specs.Units.{counts_words}
use Rattle.segment_looks.specs.declared.fault.LookFault.{LookFault}
use Rattle.segment_looks.specs.declared.fault.LookFault.TheVariants.{Image, OldVersion}
use Rattle.segment_looks.specs.Patches.{Patch, IsPatched}

-- ---- which records are followed

-- the records that the nexts of the second copy give from a reference on, up to a greatest number of them; they end before the first
-- reference at which there is no room for a block, such as that of the queue block, or 0
abbrev pub records_from : SegmentHead → List ℕ → ℕ → ℕ → List ℕ
records_from head two zero reference = []
records_from head two (suc most) reference =
    if is_placed head reference then reference ∷ records_from head two most (next_of two reference) else []

-- the records from the queue block on, at most as many as there can be blocks after the header
abbrev pub followed_records : SegmentHead → List ℕ → List ℕ
followed_records head two = records_from head two ((length two - HEADER_WORDS) / BLOCK_LEAST) (next_of two QUEUE)

-- ---- which words a look takes for a record

-- whether the counts of a record are in use, as its single word says
abbrev pub is_frozen : List ℕ → ℕ → Bool
is_frozen words at = nat_le DISABLED_BIT (field_at words at HISTOGRAM_SINGLE)

-- the counts reference: if the second copy has it from before the counts came into use, and the single word from after that, it comes from
-- the third copy
abbrev pub counts_reference : List ℕ → List ℕ → ℕ → ℕ
counts_reference two three at =
    if (field_at two at HISTOGRAM_COUNTS == 0) && is_frozen two at then field_at three at HISTOGRAM_COUNTS
    else field_at two at HISTOGRAM_COUNTS

-- the words of a histogram's record from its counts reference on: marks, sum mark and redundant count come from the first copy
abbrev pub histogram_words : List ℕ → List ℕ → List ℕ → ℕ → List ℕ
histogram_words one two three at =
    counts_reference two three at ∷ field_at two at HISTOGRAM_SINGLE ∷ field_at one at HISTOGRAM_SINGLE_MARK
    ∷ field_at two at HISTOGRAM_SUM ∷ field_at one at HISTOGRAM_SUM_MARK ∷ field_at one at HISTOGRAM_REDUNDANT ∷ []

-- the n counts of a record that begin at an index; all 0 if the counts were not in use yet
abbrev pub counts_looked : List ℕ → ℕ → ℕ → ℕ → List ℕ
counts_looked two at from n = if is_frozen two at then slice_range two from (from + n) else replicate n 0

-- the counts and the marks of a record with n buckets and this counts reference
abbrev pub counts_patches : List ℕ → List ℕ → ℕ → ℕ → ℕ → List Patch
counts_patches one two at counts n =
    if counts == 0 then []
    else record { from = counts + BLOCK_HEADER; words = counts_looked two at (counts + BLOCK_HEADER) n }
    ∷ record { from = counts + BLOCK_HEADER + n; words = slice_range one (counts + BLOCK_HEADER + n) (counts + BLOCK_HEADER + n + n) } ∷ []

-- whether n buckets are not too many, and, if there is a counts reference, their counts lie after the header and below the free pointer
abbrev pub has_room : SegmentHead → ℕ → ℕ → Bool
has_room head counts n =
    nat_le n MAX_BUCKETS && ((counts == 0) || (nat_le HEADER_WORDS counts && nat_le (counts + counts_words n) head.free))

-- the patches of a histogram's record: none if it does not lie below the free pointer, if its counts do not lie after the header and below
-- it, or if it has too many buckets
abbrev pub histogram_patches : SegmentHead → List ℕ → List ℕ → List ℕ → ℕ → List Patch
histogram_patches head one two three at =
    if nat_le (at + HISTOGRAM_LEAST) head.free && has_room head (counts_reference two three at) (field_at three at HISTOGRAM_BUCKETS)
    then record { from = at + HISTOGRAM_COUNTS; words = histogram_words one two three at }
    ∷ counts_patches one two at (counts_reference two three at) (field_at three at HISTOGRAM_BUCKETS)
    else []

-- the patches of a sample's record: its count from the second copy, and its mark from the first
abbrev pub sample_patches : SegmentHead → List ℕ → List ℕ → ℕ → List Patch
sample_patches head one two at =
    if nat_le (at + SAMPLE_LEAST) head.free
    then record { from = at + SAMPLE_COUNT; words = field_at two at SAMPLE_COUNT ∷ field_at one at SAMPLE_MARK ∷ [] } ∷ []
    else []

-- the patches of a record, whose type comes from the third copy
abbrev pub record_patches : SegmentHead → List ℕ → List ℕ → List ℕ → ℕ → List Patch
record_patches head one two three at =
    if is_of_type three TYPE_HISTOGRAM at then histogram_patches head one two three at
    else if is_of_type three TYPE_SAMPLE at then sample_patches head one two at
    else []

-- ---- the look

-- the patch that sets the next of a block
abbrev pub link : ℕ → ℕ → Patch
link at next = record { from = at + BLOCK_NEXT; words = next ∷ [] }

-- the first of the records, or the queue block, which ends the list
abbrev pub list_start : List ℕ → ℕ
list_start [] = QUEUE
list_start (at ∷ rest) = at

-- the patches of the records, each linked to the one after it
abbrev pub records_patches : SegmentHead → List ℕ → List ℕ → List ℕ → List ℕ → List Patch
records_patches head one two three [] = []
records_patches head one two three (at ∷ rest) =
    link at (list_start rest) ∷ (record_patches head one two three at ++ records_patches head one two three rest)

-- zeros from the free pointer on, in place of what was claimed after its load
abbrev pub unclaimed : SegmentHead → ℕ → Patch
unclaimed head size = record { from = head.free; words = replicate (size - head.free) 0 }

-- the patches of a list: its start, the tail, the records, and the zeros from the free pointer on
abbrev pub list_patches : SegmentHead → List ℕ → List ℕ → List ℕ → List ℕ → List Patch
list_patches head one two three records =
    link QUEUE (list_start records)
    ∷ record { from = TAIL_WORD; words = before records (length records) ∷ [] }
    ∷ (records_patches head one two three records ++ unclaimed head (length three) ∷ [])

-- These words are the look: the third copy, with its heads of blocks, what was published, its free pointer and its flags; and the patches
-- put on it. If patches overlap, as they may in forged copies, the first one decides, also if several records name one block.
abbrev pub IsLook : SegmentHead → List ℕ → List ℕ → List ℕ → List ℕ → Type 0
IsLook head one two three image = IsPatched (list_patches head one two three (followed_records head two)) three image

-- ---- which copies give a look

-- what can be wrong with copies if the header of the third is valid, in order
abbrev pub copies_checks : SegmentHead → List ℕ → List ℕ → List ℕ → List (Bool × LookFault)
copies_checks head one two three =
    (not (length one == length three) || not (length two == length three), Image BadSize)
    ∷ (not (head.version == VERSION_FROZEN), OldVersion) ∷ []

-- what was read of the header of the third copy, if the copies have no other fault
abbrev pub checked_copies : Result SegmentHead ImageFault → List ℕ → List ℕ → List ℕ → Result SegmentHead LookFault
checked_copies (Err fault) one two three = Err (Image fault)
checked_copies (Ok head) one two three = checked (copies_checks head one two three) head

-- the header of the third copy; or the first fault: of that header, of the lengths of the copies, of the version
abbrev pub head_of_copies : List ℕ → List ℕ → List ℕ → Result SegmentHead LookFault
head_of_copies one two three = checked_copies (header_of three) one two three

-- what holds of copies without a fault
pub record AreCopies (head : SegmentHead) (one two three : List ℕ) : Type 0 where
  pub header : header_of three ≡ Ok head
  pub long_one : length one ≡ length three
  pub long_two : length two ≡ length three
  pub long : HEADER_WORDS ≤ length three
  pub free_least : HEADER_WORDS ≤ head.free
  pub free_most : head.free ≤ length three
