-- Worked examples: what the words of small segments count, a consistent state, and small states that are not consistent, one for each part.
use Rattle.std.specs.Prelude.{◌≡◌, ℕ, ◌+◌, ◌^◌, pos, negsuc, List, [], ◌∷◌, map, replicate, slice_set, true}
use Rattle.segment_image.specs.Image.{blank_words}
use Rattle.segment_image.specs.Blocks.{field_at}
use Rattle.bucket_ranges.specs.Reading.{sum_of, sum_mark_of, total_of, mark_of}
use Rattle.segment_machine.specs.declared.actor.Actor.{Actor}
use Rattle.segment_machine.specs.declared.actor.Taken.{Taken}
use Rattle.segment_machine.specs.Entry.{sample_entry, tally_units, tally_sum}
use Rattle.segment_calls.specs.Form.{off_word, packed_word}
use Rattle.segment_machine.specs.Actor.{log_of, counted_of, taken_units, taken_sum, transit_of, units_of, IsFinal, portion_of}
use Rattle.segment_machine.specs.Packing.{disable, add_moved}
use Rattle.segment_machine.specs.Event.{packing_event, counting_event, after}
use Rattle.segment_machine.specs.Counting.{add_count, add_redundant}
use Rattle.segment_invariant.specs.Consistent.{IsSampleOf, ListIsChain, RecordsHold, TotalsAreCounted, MarksAreTaken, SumsAreAmounts, TransitIsLocal, FlagsAreSet, UnitsAreKept, Opening, IsConsistent}
use Rattle.segment_machine.specs.State.{State}
use Rattle.segment_machine.specs.Examples.{with_taken, packed_segment, mounted_segment, letter_a, maker, mounter, taken_at, mounted, in_transit, mover, marked, three_deltas, taken_once, sparse_segment}

-- ---- packed, then mounted

-- Two samples of 1 are packed as 2 units of bucket 1. A sample of 0 then mounts a counts block, disables the word, moves the two units and
-- counts its own: the words become those of the mounted segment, and the totals are the tally of the three entries.
abbrev pub PackedThenMounted : Type 0
PackedThenMounted =
    (packed_word 1 2 ≡ 4294967298) × (off_word 1 4294967298 ≡ 9223372036854775809)
    × (after 128 1 (counting_event (add_redundant 16 1)) (after 128 1 (counting_event (add_count 36 1)) (after 128 1 (packing_event (add_moved 32 1 2))
    (after 128 1 (packing_event (disable 16 4294967298)) (mounted_segment 4294967298 0 2 0 2 (replicate 6 0))))) ≡ mounted)
    × (map (total_of 1 mounted 16) (0 ∷ 1 ∷ 2 ∷ []) ≡ 1 ∷ 2 ∷ 0 ∷ [])
    × (map (λ key. tally_units (log_of (mounter (1 ∷ 1 ∷ 0 ∷ []))) letter_a (pos key)) (0 ∷ 1 ∷ 2 ∷ []) ≡ 1 ∷ 2 ∷ 0 ∷ [])
    × (sum_of mounted 16 ≡ tally_sum (log_of (mounter (1 ∷ 1 ∷ 0 ∷ []))) letter_a)
    × (sum_of mounted 16 ≡ pos 2) × (field_at mounted 16 13 ≡ 3)

-- ---- stopped in transit

-- two units of bucket 1 are in transit, and in no count
abbrev pub StoppedInTransit : Type 0
StoppedInTransit =
    (map (total_of 1 in_transit 16) (0 ∷ 1 ∷ 2 ∷ []) ≡ 0 ∷ 0 ∷ 0 ∷ [])
    × (map (transit_of (mover ∷ []) 16) (0 ∷ 1 ∷ 2 ∷ []) ≡ 0 ∷ 2 ∷ 0 ∷ [])
    × (map (λ key. tally_units (counted_of mover) letter_a (pos key)) (0 ∷ 1 ∷ 2 ∷ []) ≡ 0 ∷ 2 ∷ 0 ∷ [])
    × (units_of mover ≡ 4294967295)

-- ---- the packing limit

-- 70,000 units at once are never packed: the empty word is disabled, and names no bucket; 65,535 are packed, and one more
-- disables the word
abbrev pub PackingLimit : Type 0
PackingLimit =
    (off_word 1 0 ≡ 2 ^ 63 + 65535) × (packed_word 1 65535 ≡ 4295032831) × (off_word 1 4295032831 ≡ 2 ^ 63 + 1)
    × (total_of 1 (mounted_segment (2 ^ 63 + 65535) 0 70000 0 70000 (0 ∷ 70000 ∷ 0 ∷ 0 ∷ 0 ∷ 0 ∷ [])) 16 1 ≡ 70000)
    × (total_of 1 (mounted_segment (2 ^ 63 + 1) 0 65536 0 65536 (0 ∷ 65536 ∷ 0 ∷ 0 ∷ 0 ∷ 0 ∷ [])) 16 1 ≡ 65536)
    × (total_of 2 (mounted_segment (2 ^ 63 + 4295032831) 0 65536 0 65536 (0 ∷ 1 ∷ 0 ∷ 0 ∷ 0 ∷ 0 ∷ [])) 16 1 ≡ 65536)

-- ---- deltas and marks

-- samples 1 and 1, a delta, a sample 0, and two deltas: the marks are what was taken, the mark of bucket 1 is the single mark, and the
-- second and the third delta are final, the first is not
abbrev pub DeltasAndMarks : Type 0
DeltasAndMarks =
    (map (mark_of 1 marked 16) (0 ∷ 1 ∷ 2 ∷ []) ≡ 1 ∷ 2 ∷ 0 ∷ [])
    × (map (λ key. taken_units (map portion_of three_deltas) letter_a (pos key)) (0 ∷ 1 ∷ 2 ∷ []) ≡ 1 ∷ 2 ∷ 0 ∷ [])
    × (taken_sum (map portion_of three_deltas) letter_a ≡ pos 2)
    × IsFinal 1 (log_of (mounter (1 ∷ 1 ∷ 0 ∷ []))) letter_a (record { log = 3; before = 0; outstanding = 0 })
    × (¬ (IsFinal 1 (log_of (mounter (1 ∷ 1 ∷ 0 ∷ []))) letter_a (record { log = 2; before = 0; outstanding = 0 })))

-- ---- two takers of a packed word

-- what the deltas of two takers took: Y took all, X nothing
abbrev two_deltas : List Taken
two_deltas = taken_at 4 ((pos 0, 1) ∷ (pos 1, 3) ∷ []) (pos 3) ∷ taken_at 4 [] (pos 0) ∷ []

-- X loads the single word (1, 2) and stalls; samples 0 and 1 follow, and Y's delta takes all; X then takes nothing
abbrev pub TwoTakers : Type 0
TwoTakers =
    (map (λ key. taken_units (map portion_of two_deltas) letter_a (pos key)) (0 ∷ 1 ∷ 2 ∷ [])
    ≡ 1 ∷ 3 ∷ 0 ∷ [])
    × (map (mark_of 1 taken_once 16) (0 ∷ 1 ∷ 2 ∷ []) ≡ 1 ∷ 3 ∷ 0 ∷ [])
    × (taken_sum (map portion_of two_deltas) letter_a ≡ pos 3)

-- ---- sparse samples

-- two units of -5 and one of 7: the keys are the values, and the sum is -3
abbrev pub SparseSamples : Type 0
SparseSamples =
    let entries = sample_entry (83 ∷ []) [] (negsuc 4, 2) ∷ sample_entry (83 ∷ []) [] (pos 7, 1) ∷ [] in
    IsSampleOf sparse_segment 16 (negsuc 4) 32 × IsSampleOf sparse_segment 16 (pos 7) 40
    × (field_at sparse_segment 32 6 ≡ tally_units entries (83 ∷ []) (negsuc 4)) × (field_at sparse_segment 40 6 ≡ tally_units entries (83 ∷ []) (pos 7))
    × (sum_of sparse_segment 16 ≡ tally_sum entries (83 ∷ [])) × (sum_mark_of sparse_segment 16 ≡ negsuc 2)
    × (tally_units entries (83 ∷ []) (negsuc 4) ≡ 2) × (tally_units entries (83 ∷ []) (pos 7) ≡ 1)
    × (tally_units entries (83 ∷ []) (pos 0) ≡ 0) × (tally_sum entries (83 ∷ []) ≡ negsuc 2) × (tally_sum entries letter_a ≡ pos 0)

-- ---- a consistent state, and small ones that are not, one for each part

-- a new segment
abbrev pub opening : Opening
opening = record { words = blank_words 128 64 7; claims = [] }

abbrev pub state_of : List ℕ → List Actor → State
state_of words actors = record { words = words; cursors = []; actors = actors }

-- the segment that was packed and then mounted, and the actor that recorded 1, 1 and 0
abbrev pub MountedIsConsistent : Type 0
MountedIsConsistent = IsConsistent opening (state_of mounted (mounter (1 ∷ 1 ∷ 0 ∷ []) ∷ []))

-- a word after the free pointer is not 0
abbrev pub ListBreaks : Type 0
ListBreaks = (chain : List ℕ) → ¬ (ListIsChain opening.words [] (slice_set mounted 50 1) [] (mounter (1 ∷ 1 ∷ 0 ∷ []) ∷ []) chain)

-- a record was published before its name was stored
abbrev pub RecordsBreak : Type 0
RecordsBreak = ¬ (RecordsHold opening.words [] (slice_set (packed_segment 0 0 0 0 0) 31 0) (maker [] ∷ []) (16 ∷ []))

-- packed units were added to the counts before the single word was disabled
abbrev pub TotalsBreak : Type 0
TotalsBreak =
    ¬ (TotalsAreCounted 1 (mounted_segment 4294967298 0 2 0 2 (0 ∷ 2 ∷ 0 ∷ 0 ∷ 0 ∷ 0 ∷ [])) (mounter (1 ∷ 1 ∷ []) ∷ []) (16 ∷ []))

-- two deltas took the same two units
abbrev pub twice_taker : Actor
twice_taker = with_taken (maker (1 ∷ 1 ∷ [])) (taken_at 2 ((pos 1, 2) ∷ []) (pos 2) ∷ taken_at 2 ((pos 1, 2) ∷ []) (pos 0) ∷ [])

-- two deltas took the same units
abbrev pub MarksBreak : Type 0
MarksBreak = ¬ (MarksAreTaken 1 (packed_segment 4294967298 2 2 2 2) (twice_taker ∷ []) (16 ∷ []))

-- a packed sample was not added to the sum
abbrev pub SumsBreak : Type 0
SumsBreak = ¬ (SumsAreAmounts opening.words (packed_segment 4294967297 0 0 0 1) (maker (1 ∷ []) ∷ []) (16 ∷ []))

-- units are in transit from a word in which nothing was packed
abbrev pub TransitBreaks : Type 0
TransitBreaks = ¬ (TransitIsLocal 1 (mounted_segment (2 ^ 63 + 65535) 0 2 0 2 (replicate 6 0)) (mover ∷ []))

-- the corrupt flag is set, and nobody has set it; or somebody has seen it, and it is not set
abbrev pub FlagsBreak : Type 0
FlagsBreak =
    (¬ (FlagsAreSet opening.words (slice_set (packed_segment 0 0 0 0 0) 6 1) (maker [] ∷ [])))
    × (¬ (FlagsAreSet opening.words (packed_segment 0 0 0 0 0) (record (maker []) { seen = record (maker []).seen { corrupt = true } } ∷ [])))

-- a unit was spent and is still in the share
abbrev pub saver : Actor
saver = record (maker (1 ∷ [])) { units = record (maker (1 ∷ [])).units { share = 4294967295 } }

-- a unit was spent, and its spender still has it in the share
abbrev pub UnitsBreak : Type 0
UnitsBreak = ¬ (UnitsAreKept (packed_segment 4294967297 0 1 0 1) (saver ∷ []) (16 ∷ []))
