-- Worked readings: what the words of small segments read as, by the one definition of a reading. They are segments of 128 words with the id
-- 7, in which no flag is set and no record is bad. Units that were packed are in the counts in version 1, and in the frozen word in version
-- 2.
use Rattle.std.specs.Prelude.{◌≡◌, false, ℕ, ℤ, pos, negsuc, List, [], ◌∷◌, ◌++◌, map, slice_set, None, Ok}
use Rattle.segment_image.specs.Head.{header_of, head_of}
use Rattle.bucket_ranges.specs.declared.spec.Spec.TheVariants as spec
use Rattle.bucket_ranges.specs.Reading.{Histogram, Reading, IsReading}
use Rattle.segment_machine.specs.Entry.{sum_entry}
use Rattle.segment_machine.specs.Event.{packing_event, counting_event, taking_event}
use Rattle.segment_machine.specs.Counting.{load_counts, add_count, add_sum, add_redundant}
use Rattle.segment_machine.specs.Packing.{load_single}
use Rattle.segment_machine.specs.Taking.{load_sum, swap_sum_mark}
use Rattle.segment_machine.specs.Note.{begins, takes, has_taken, ends}
use Rattle.segment_machine.specs.State.{State}
use Rattle.segment_machine.specs.Reached.{IsReached, IsState, IsJoined}
use Rattle.segment_machine.specs.Examples.{shape, letter_a, letter_s, one, known_a, packed_segment, mounted, frozen, in_transit, stopped_frozen, marked, marked_frozen, taken_once, taken_once_frozen, sparse_segment}
use Rattle.segment_machine.specs.Worked.{RunAction, acts, offers, makes, joins, played, actor_of, by, hist, hist_found, delta, worked}
use Rattle.segment_machine.specs.Races.{after, finds_packed, counts_zero, race_words}
use Rattle.segment_promises.specs.Adoption.{used_of, adopted}

-- ---- what is read

-- words with a valid header read as this
abbrev pub ReadsAs : List ℕ → Reading → Type 0
ReadsAs words reading = (header_of words ≡ Ok (head_of words)) × IsReading words (head_of words) reading

-- a reading of these histograms, without a fault
abbrev pub reading_of : List Histogram → Reading
reading_of hists = record { id = 7; full = false; corrupt = false; hists = hists; bad = []; stopped = None }

-- the boolean histogram `A` at 16: the counts of 0, of 1 and of 2 and more, their marks, then sum, sum mark and redundant count
abbrev pub read_a : List (ℤ × ℕ) → List ℕ → ℤ → ℤ → ℕ → Histogram
read_a counts marks sum sum_mark redundant = record {
  reference = 16;
  name = letter_a;
  spec = spec.Boolean;
  counts = counts;
  marks = marks;
  sum = sum;
  sum_mark = sum_mark;
  redundant = redundant;
}

-- the sparse histogram `S`, by its reference: the counts of the values that have samples
abbrev pub read_s : ℕ → List (ℤ × ℕ) → List ℕ → ℤ → ℤ → ℕ → Histogram
read_s reference counts marks sum sum_mark redundant = record {
  reference = reference;
  name = letter_s;
  spec = spec.Sparse;
  counts = counts;
  marks = marks;
  sum = sum;
  sum_mark = sum_mark;
  redundant = redundant;
}

-- ---- packed, then mounted

-- the samples 1, 1 and 0
abbrev pub mounted_reading : Reading
mounted_reading = reading_of (read_a ((pos 0, 1) ∷ (pos 1, 2) ∷ (pos 2, 0) ∷ []) (0 ∷ 0 ∷ 0 ∷ []) (pos 2) (pos 0) 3 ∷ [])

-- the mounted segment reads as these samples, in both versions
abbrev pub MountedReads : Type 0
MountedReads = ReadsAs mounted mounted_reading × ReadsAs frozen mounted_reading

-- ---- stopped in transit

-- two units of 1 are in transit, and the call that counts a 0 has not ended: in version 1 the counts have neither
abbrev pub transit_reading : Reading
transit_reading = reading_of (read_a ((pos 0, 0) ∷ (pos 1, 0) ∷ (pos 2, 0) ∷ []) (0 ∷ 0 ∷ 0 ∷ []) (pos 2) (pos 0) 2 ∷ [])

-- in version 2 nothing is in transit
abbrev pub stopped_reading : Reading
stopped_reading = reading_of (read_a ((pos 0, 0) ∷ (pos 1, 2) ∷ (pos 2, 0) ∷ []) (0 ∷ 0 ∷ 0 ∷ []) (pos 2) (pos 0) 2 ∷ [])

-- stopped in transit, version 1 has lost sight of the two units, and version 2 has them
abbrev pub StoppedInTransitReads : Type 0
StoppedInTransitReads = ReadsAs in_transit transit_reading × ReadsAs stopped_frozen stopped_reading

-- ---- deltas and marks

-- the samples 1 and 1, a delta, a sample 0, and a delta: each bucket was taken whole
abbrev pub marked_reading : Reading
marked_reading = reading_of (read_a ((pos 0, 1) ∷ (pos 1, 2) ∷ (pos 2, 0) ∷ []) (1 ∷ 2 ∷ 0 ∷ []) (pos 2) (pos 2) 3 ∷ [])

-- the words with the marks of deltas, in both versions
abbrev pub DeltasAndMarksRead : Type 0
DeltasAndMarksRead = ReadsAs marked marked_reading × ReadsAs marked_frozen marked_reading

-- ---- two takers of a packed word

-- one delta took all, and the other, which had seen two units of 1, nothing: the mark of 1 is 3
abbrev pub taken_reading : Reading
taken_reading = reading_of (read_a ((pos 0, 1) ∷ (pos 1, 3) ∷ (pos 2, 0) ∷ []) (1 ∷ 3 ∷ 0 ∷ []) (pos 3) (pos 3) 4 ∷ [])

-- the words after two takers of a packed word, in both versions
abbrev pub TwoTakersRead : Type 0
TwoTakersRead = ReadsAs taken_once taken_reading × ReadsAs taken_once_frozen taken_reading

-- ---- sparse samples

-- two units of -5 and one of 7, of which a delta took all
abbrev pub sparse_reading : Reading
sparse_reading = reading_of (read_s 16 ((negsuc 4, 2) ∷ (pos 7, 1) ∷ []) (2 ∷ 1 ∷ []) (negsuc 2) (negsuc 2) 3 ∷ [])

-- the sparse segment, in both versions
abbrev pub SparseSamplesRead : Type 0
SparseSamplesRead = ReadsAs sparse_segment sparse_reading × ReadsAs (slice_set sparse_segment 1 2) sparse_reading

-- ---- a race for a value

-- two recorders made a sample of -5, and counted two units and one: the first on the list has all three, and the other is not read as a
-- value
abbrev pub race_reading : Reading
race_reading = reading_of (read_s 16 ((negsuc 4, 3) ∷ []) (0 ∷ []) (negsuc 14) (pos 0) 3 ∷ [])

-- the words after a race for a value, in both versions
abbrev pub RaceReads : Type 0
RaceReads = ReadsAs (race_words 1) race_reading × ReadsAs (race_words 2) race_reading

-- ---- all recorders joined

-- two recorders, a batch and deltas, and a third with a final delta: the totals are those of the log, and all were taken
abbrev pub joined_reading : Reading
joined_reading = reading_of (
    read_a ((pos 0, 3) ∷ (pos 1, 5) ∷ (pos 2, 0) ∷ []) (3 ∷ 5 ∷ 0 ∷ []) (pos 5) (pos 5) 8
    ∷ read_s 42 ((negsuc 4, 2) ∷ []) (2 ∷ []) (negsuc 9) (negsuc 9) 2 ∷ []
    )

-- the worked run, all recorders joined, in both versions
abbrev pub JoinedRunReads : Type 0
JoinedRunReads = ReadsAs (worked 1).words joined_reading × ReadsAs (worked 2).words joined_reading

-- ---- units of sums

-- a batch without items adds a sum, which costs one unit for each 2^31 of its size; it counts and notes nothing
abbrev pub adds_sum : ℕ → ℤ → List RunAction
adds_sum cost sum = acts 1 (begins letter_a cost (sum_entry letter_a sum ∷ []) ∷ []) (counting_event (add_sum 16 sum)) (ends ∷ []) ∷ []

-- A recorder with all units adds 2^62, takes it by a delta, and adds 2^31 - 2^62. The second sum costs a unit less than the first, and then
-- it has none.
abbrev pub summing : List RunAction
summing =
    offers 4294967295 ∷ makes ∷ hist 1 12 known_a ((0, 2) ∷ (1, 1) ∷ (2, 2) ∷ (3, 3) ∷ (10, 1) ∷ (11, 65) ∷ [])
    ++ adds_sum 2147483648 (pos 4611686018427387904)
    ++ acts 1 (takes letter_a ∷ []) (packing_event (load_single 16)) [] ∷ by 1 (taking_event (load_sum 16) ∷ [])
    ++ acts 1 [] (taking_event (swap_sum_mark 16 (pos 4611686018427387904))) (has_taken ∷ [])
    ∷ adds_sum 2147483647 (negsuc 4611686016279904255)

-- sum 2^31, sum mark 2^62, and no units
abbrev pub summed_words : ℕ → List ℕ
summed_words version = slice_set (packed_segment 0 0 2147483648 4611686018427387904 0) 1 version

abbrev pub summed_reading : Reading
summed_reading = reading_of (read_a ((pos 0, 0) ∷ (pos 1, 0) ∷ (pos 2, 0) ∷ []) (0 ∷ 0 ∷ 0 ∷ []) (pos 2147483648) (pos 4611686018427387904) 0 ∷ [])

abbrev pub SummedRunReads : ℕ → Type 0
SummedRunReads version =
    IsState shape version 7 0 (after version summing) × ((after version summing).words ≡ summed_words version)
    × ((actor_of (after version summing) 1).units.share ≡ 0) × ReadsAs (summed_words version) summed_reading

-- in version 2 the image may be adopted: it has used the units that its sum mark stands for, and has the rest
abbrev pub UnitsOfSumsRead : Type 0
UnitsOfSumsRead =
    SummedRunReads 1 × SummedRunReads 2 × (used_of summed_reading ≡ 2147483648)
    × ((actor_of (adopted (summed_words 2) (16 ∷ []) summed_reading 0) 0).units.share ≡ 2147483647)

-- ---- an adopted image

-- The mounted segment of version 2 is adopted, and a recorder with two units counts a 1 in the block that was there. Its delta takes all, also
-- what the image had.
abbrev pub adopted_mounted : State
adopted_mounted = adopted frozen (16 ∷ []) mounted_reading 0

abbrev pub records_one : List RunAction
records_one =
    offers 2 ∷ makes ∷ hist_found 1 12 known_a
    ++ acts 1 (begins letter_a 1 (one 1 ∷ []) ∷ []) (packing_event (load_single 16)) []
    ∷ by 1 (map counting_event (load_counts 16 ∷ add_count 37 1 ∷ add_sum 16 (pos 1) ∷ []))
    ++ acts 1 [] (counting_event (add_redundant 16 1)) (ends ∷ [])
    ∷ delta 1 1 3 (pos 3) ++ joins 1 ∷ []

abbrev pub recorded_one : State
recorded_one = played 2 adopted_mounted records_one

-- the segment that was stopped is adopted, and a 0 is counted
abbrev pub adopted_stopped : State
adopted_stopped = adopted stopped_frozen (16 ∷ []) stopped_reading 0

abbrev pub records_zero : List RunAction
records_zero = offers 1 ∷ makes ∷ hist_found 1 12 known_a ++ finds_packed 1 0 ++ counts_zero 1 ++ joins 1 ∷ []

abbrev pub recorded_zero : State
recorded_zero = played 2 adopted_stopped records_zero

-- recording continues in an adopted image: units, deltas and the reading
abbrev pub AdoptedRunReads : Type 0
AdoptedRunReads =
    ((actor_of adopted_mounted 0).units.share ≡ 4294967292) × IsReached 2 adopted_mounted recorded_one × IsJoined recorded_one (actor_of recorded_one 0)
    × ((actor_of recorded_one 0).units.share ≡ 4294967291) × (map (λ t. t.counts) (actor_of recorded_one 0).deltas.taken ≡ ((pos 0, 1) ∷ (pos 1, 3) ∷ []) ∷ [])
    × (map (λ t. t.sum) (actor_of recorded_one 0).deltas.taken ≡ pos 3 ∷ []) × ReadsAs recorded_one.words taken_reading
    × IsReached 2 adopted_stopped recorded_zero × IsJoined recorded_zero (actor_of recorded_zero 0) × ReadsAs recorded_zero.words mounted_reading
