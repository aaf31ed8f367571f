-- Worked examples: the words of small segments, actors that made them, and runs of one actor.
use Rattle.std.specs.Ordering.{int_eq}
use Rattle.std.specs.Prelude.{not, ◌≡◌, true, ℕ, ◌+◌, ◌-◌, ◌*◌, ◌^◌, ℤ, pos, negsuc, List, [], ◌∷◌, ◌++◌, map, length, replicate, slice_set, Some}
use Rattle.segment_image.specs.Shape.{Dimensions}
use Rattle.bucket_ranges.specs.declared.spec.Spec.TheVariants as spec
use Rattle.segment_machine.specs.declared.entry.Entry.{Entry}
use Rattle.segment_machine.specs.declared.entry.EntryProgress.{EntryProgress}
use Rattle.segment_machine.specs.declared.place.Place.TheVariants.{Moving}
use Rattle.segment_machine.specs.declared.actor.Actor.{Actor}
use Rattle.segment_machine.specs.declared.actor.Made.TheVariants as made
use Rattle.segment_machine.specs.declared.actor.Taken.{Taken}
use Rattle.segment_machine.specs.Entry.{key_of, sample_entry, batch_entries, batch_cost, fresh}
use Rattle.segment_machine.specs.Actor.{units_of}
use Rattle.segment_machine.specs.Event.{Event, packing_event, allocating_event, counting_event, taking_event, Ready, next}
use Rattle.segment_machine.specs.Packing.{mount_counts, load_single, pack, disable, add_moved}
use Rattle.segment_machine.specs.Allocating.{load_flags, load_free, exchange_free, store_size, store_cookie, store_type}
use Rattle.segment_machine.specs.Counting.{load_counts, add_count, add_sum, add_redundant}
use Rattle.segment_machine.specs.Taking.{raise_single_mark, load_sum, swap_sum_mark}
use Rattle.segment_machine.specs.Note.{MayNote, has_taken, noted, begins, takes, ends}
use Rattle.segment_machine.specs.Seats.{nothing_seen, opener_of}
use Rattle.segment_machine.specs.declared.actor.Known.{Known}
use Rattle.segment_machine.specs.declared.place.Place.{Place}

-- ---- segments of 128 words in pages of 64, with the id 7

-- the header, with a free pointer, a tail and the reference of the first record
abbrev pub head_words : ℕ → ℕ → ℕ → List ℕ
head_words free tail first =
    0x408305DC ∷ 1 ∷ 128 ∷ 64 ∷ 7 ∷ 1 ∷ 0 ∷ free ∷ tail ∷ 0 ∷ 0 ∷ 0 ∷ 4 ∷ 1 ∷ 0 ∷ first ∷ []

-- the record of a boolean histogram `A` that is last on the list: counts reference, single word and single mark, sum, sum mark
-- and redundant count
abbrev pub boolean_words : ℕ → ℕ → ℕ → ℕ → ℕ → ℕ → List ℕ
boolean_words counts single mark sum sum_mark redundant =
    16 ∷ 0xC8799269 ∷ 1 ∷ 12 ∷ 2 ∷ 1 ∷ 2 ∷ 3 ∷ counts ∷ single ∷ mark ∷ sum ∷ sum_mark ∷ redundant ∷ 1 ∷ 65 ∷ []

-- its counts block: three counts and three marks
abbrev pub counts_words : List ℕ → List ℕ
counts_words numbers = 10 ∷ 0xC8799269 ∷ 2 ∷ 0 ∷ numbers

-- a segment of this record alone
abbrev pub packed_segment : ℕ → ℕ → ℕ → ℕ → ℕ → List ℕ
packed_segment single mark sum sum_mark redundant =
    head_words 32 16 16 ++ boolean_words 0 single mark sum sum_mark redundant ++ replicate 96 0

-- a segment of this record at 16 and its counts block at 32
abbrev pub mounted_segment : ℕ → ℕ → ℕ → ℕ → ℕ → List ℕ → List ℕ
mounted_segment single mark sum sum_mark redundant numbers =
    head_words 42 16 16 ++ boolean_words 32 single mark sum sum_mark redundant ++ counts_words numbers ++ replicate 86 0

-- the same in version 2, in which two units of 1 were packed first, and the frozen word keeps them
abbrev pub frozen_segment : ℕ → ℕ → ℕ → ℕ → List ℕ → List ℕ
frozen_segment mark sum sum_mark redundant numbers =
    slice_set (mounted_segment 9223372041149743106 mark sum sum_mark redundant numbers) 1 2

-- ---- actors

-- the shape of the examples
abbrev pub shape : Dimensions
shape = record { size = 128; page = 64 }

-- the name `A`
abbrev pub letter_a : List ℕ
letter_a = 65 ∷ []

-- the histogram `A` at 16, as an actor knows it
abbrev pub known_a : Known
known_a = record { name = letter_a; spec = spec.Boolean; reference = 16 }

-- the boundaries of a boolean histogram
abbrev pub boolean : List ℕ
boolean = 0 ∷ 1 ∷ 2 ∷ 2147483647 ∷ []

-- the entry of one unit of a value of `A`
abbrev pub one : ℕ → Entry
one value = sample_entry letter_a boolean (pos value, 1)

-- an entry with all its events done; an amount of 0 is not added
abbrev pub whole : Entry → EntryProgress
whole entry = record { entry = entry; counted = true; summed = not (int_eq entry.amount (pos 0)); noted = true }

-- an actor with another log
abbrev pub with_log : Actor → List EntryProgress → Actor
with_log a log = record a { entries = record a.entries { log = log } }

-- an actor with these deltas
abbrev pub with_taken : Actor → List Taken → Actor
with_taken a taken = record a { deltas = record a.deltas { taken = taken } }

-- an actor at a place
abbrev pub at_place : Actor → Place → Actor
at_place a place = record a { hand = record a.hand { place = place } }

-- the opener, after it made `A` and recorded these values, each with one unit
abbrev pub maker : List ℕ → Actor
maker values = record (opener_of shape 1 0) {
  units = record {
    share = 4294967295 - length values;
    costs = record { name = letter_a; units = length values } ∷ [];
    held = [];
  };
  entries = record { first = []; first_noted = []; inherited = []; log = map (λ value. whole (one value)) values; running = [] };
  done = record (opener_of shape 1 0).done {
    claimed = record { at = 16; size = 16 } ∷ [];
    raised = record { from = 16; to = 32; wanted = 16 } ∷ [];
    published = record { reference = 16; made = made.Histogram letter_a spec.Boolean } ∷ [];
  };
  seen = record nothing_seen { free = 32; chain = 16 ∷ []; tails = 16 ∷ [] };
  answers = record { names = known_a ∷ []; owed = [] };
}

-- the same, with the counts block
abbrev pub mounter : List ℕ → Actor
mounter values = record (maker values) {
  done = record (maker values).done {
    claimed = record { at = 16; size = 16 } ∷ record { at = 32; size = 10 } ∷ [];
    raised = record { from = 16; to = 32; wanted = 16 } ∷ record { from = 32; to = 42; wanted = 10 } ∷ [];
  };
  seen = record (maker values).seen { free = 42 };
}

-- a delta of `A` that the recorder that was made first took when its log had `entries` entries
abbrev pub taken_at : ℕ → List (ℤ × ℕ) → ℤ → Taken
taken_at entries counts sum = record {
  name = letter_a;
  counts = counts;
  sum = sum;
  swapped = true;
  moment = record { log = entries; before = 0; outstanding = 0 };
}

-- ---- keys

-- values below 0 and above all boundaries are clamped; a key is the least value of its bucket, or without buckets the value itself
abbrev pub Keys : Type 0
Keys =
    (map (key_of boolean) (negsuc 2 ∷ pos 0 ∷ pos 1 ∷ pos 5 ∷ pos 2147483647 ∷ []) ≡ pos 0 ∷ pos 0 ∷ pos 1 ∷ pos 2 ∷ pos 2 ∷ [])
    × (map (key_of (0 ∷ 3 ∷ 10 ∷ 2147483647 ∷ [])) (pos 2 ∷ pos 3 ∷ pos 9 ∷ pos 10 ∷ []) ≡ pos 0 ∷ pos 3 ∷ pos 3 ∷ pos 10 ∷ [])
    × (key_of [] (negsuc 4) ≡ negsuc 4)

-- ---- packed, then mounted

-- two units of 1 were packed and then moved to the counts, where a unit of 0 was counted
abbrev pub mounted : List ℕ
mounted = mounted_segment 9223372036854775809 0 2 0 3 (1 ∷ 2 ∷ 0 ∷ 0 ∷ 0 ∷ 0 ∷ [])

-- in version 2 the two units stay in the single word
abbrev pub frozen : List ℕ
frozen = frozen_segment 0 2 0 3 (1 ∷ 0 ∷ 0 ∷ 0 ∷ 0 ∷ 0 ∷ [])

-- ---- stopped in transit

-- between disabling and moving the totals are 0; the two units are with the actor
abbrev pub in_transit : List ℕ
in_transit = mounted_segment 9223372036854775809 0 2 0 2 (replicate 6 0)

-- in version 2 the frozen word has them, and nothing is in transit
abbrev pub stopped_frozen : List ℕ
stopped_frozen = frozen_segment 0 2 0 2 (replicate 6 0)

-- the actor that moves two packed units to their count
abbrev pub mover : Actor
mover = record (mounter (1 ∷ 1 ∷ [])) {
  units = record (mounter (1 ∷ 1 ∷ [])).units {
    share = 4294967292;
    held = record { name = letter_a; units = 1 } ∷ [];
  };
  entries = record (mounter (1 ∷ 1 ∷ [])).entries { running = fresh (one 0) ∷ [] };
  hand = record { place = Moving (record { histogram = 16; single = Some 9223372036854775809; counts = 32 }) 1 2; own = [] };
}

-- ---- deltas and marks

-- the mounted segment after deltas: the mark of bucket 1 is the single mark
abbrev pub marked : List ℕ
marked = mounted_segment 9223372036854775809 2 2 2 3 (1 ∷ 2 ∷ 0 ∷ 1 ∷ 0 ∷ 0 ∷ [])

-- the same in version 2
abbrev pub marked_frozen : List ℕ
marked_frozen = frozen_segment 2 2 2 3 (1 ∷ 0 ∷ 0 ∷ 1 ∷ 0 ∷ 0 ∷ [])

-- what three deltas of the mounted segment took: two units of 1, one of 0, and nothing
abbrev pub three_deltas : List Taken
three_deltas = taken_at 2 ((pos 1, 2) ∷ []) (pos 2) ∷ taken_at 3 ((pos 0, 1) ∷ []) (pos 0) ∷ taken_at 3 [] (pos 0) ∷ []

-- ---- two takers of a packed word

-- the mounted segment after one more sample of 1: of two deltas one took all, and the other nothing
abbrev pub taken_once : List ℕ
taken_once = mounted_segment 9223372036854775809 3 3 3 4 (1 ∷ 3 ∷ 0 ∷ 1 ∷ 0 ∷ 0 ∷ [])

-- the same in version 2
abbrev pub taken_once_frozen : List ℕ
taken_once_frozen = frozen_segment 3 3 3 4 (1 ∷ 1 ∷ 0 ∷ 1 ∷ 0 ∷ 0 ∷ [])

-- ---- runs of one actor

-- A sample of 1 is packed: the call begins and holds a unit, finds the single word empty, packs, adds the amount, notes the unit
-- and ends. Then the entry is in the log, and the unit is spent.
abbrev pub sampler : Actor
sampler = next (noted (maker []) (begins letter_a 1 (one 1 ∷ []))) (packing_event (load_single 16)) 0

abbrev pub sampled : Actor
sampled = noted (next (next (next sampler (packing_event (pack 16 0 4294967297)) 0) (counting_event (add_sum 16 (pos 1))) 0) (counting_event (add_redundant 16 1)) 0) ends

-- an `add` that packs ends with its entry in the log
abbrev pub PackedRun : Type 0
PackedRun =
    Ready sampler (packing_event (pack 16 0 4294967297))
    × (sampled.entries.log ≡ whole (one 1) ∷ []) × (sampled.entries.running ≡ []) × (sampled.units.share ≡ 4294967294)
    × (units_of sampled ≡ 4294967295) × (units_of sampler ≡ 4294967295)

-- events one after the other, each with the number that it found: the actor may do each in its turn
abbrev pub AreReady : Actor → List (Event × ℕ) → Type 0
AreReady a [] = Unit {0}
AreReady a (e ∷ rest) = Ready a e.0 × AreReady (next a e.0 e.1) rest

-- an actor after events, each with the number that it found
abbrev pub run : Actor → List (Event × ℕ) → Actor
run a [] = a
run a (e ∷ rest) = run (next a e.0 e.1) rest

-- A sample of 0 finds two units of bucket 1 packed, and no counts. It claims a counts block and mounts it, disables the word, moves the
-- two units, and counts its own.
abbrev pub mounting : List (Event × ℕ)
mounting =
    (packing_event (load_single 16), 4294967298) ∷ (counting_event (load_counts 16), 0) ∷ (allocating_event load_flags, 0) ∷ (allocating_event load_free, 32) ∷ (allocating_event (exchange_free 32 42 10), 32)
    ∷ (allocating_event (store_size 32 10), 0) ∷ (allocating_event (store_cookie 32 0xC8799269), 0) ∷ (allocating_event (store_type 32 2), 0) ∷ (packing_event (mount_counts 16 32), 0)
    ∷ (packing_event (load_single 16), 4294967298) ∷ (packing_event (disable 16 4294967298), 4294967298) ∷ (packing_event (add_moved 32 1 2), 0) ∷ (counting_event (add_count 36 1), 0)
    ∷ (counting_event (add_redundant 16 1), 2) ∷ []

abbrev pub mounts : Actor
mounts = noted (maker (1 ∷ 1 ∷ [])) (begins letter_a 1 (one 0 ∷ []))

-- an `add` that mounts counts may do each event in its turn
abbrev pub MountingRun : Type 0
MountingRun =
    AreReady mounts mounting
    × ((noted (run mounts mounting) ends).entries.log ≡ (mounter (1 ∷ 1 ∷ 0 ∷ [])).entries.log)
    × ((run mounts mounting).done.claimed ≡ (mounter (1 ∷ 1 ∷ 0 ∷ [])).done.claimed)
    × ((run mounts mounting).hand.own ≡ [])
    × ((run mounts mounting).seen.free ≡ 42)

-- A taker has loaded the single word (1, 2). If the mark was 0 it takes two units and the sum 2; if another taker has raised the mark to 3
-- and swapped in the sum 3 before, it takes nothing.
abbrev pub taker : Actor
taker = next (noted (maker (1 ∷ 1 ∷ [])) (takes letter_a)) (packing_event (load_single 16)) 4294967298

abbrev pub took : ℕ → ℕ → ℕ → Actor
took mark sum sum_mark =
    next (next (next taker (taking_event (raise_single_mark 16 2)) mark) (taking_event (load_sum 16)) sum) (taking_event (swap_sum_mark 16 (pos sum))) sum_mark

-- what a delta takes of a packed word: all of it, or nothing if another delta came first
abbrev pub TakerRuns : Type 0
TakerRuns =
    (map (λ t. t.counts) (took 0 2 0).deltas.taken ≡ ((pos 1, 2) ∷ []) ∷ []) × (map (λ t. t.sum) (took 0 2 0).deltas.taken ≡ pos 2 ∷ [])
    × (map (λ t. t.counts) (took 3 3 3).deltas.taken ≡ [] ∷ []) × (map (λ t. t.sum) (took 3 3 3).deltas.taken ≡ pos 0 ∷ [])

-- the events of that delta, each of which may be done; after them the delta has taken all, and may end
abbrev pub taking : List (Event × ℕ)
taking = (packing_event (load_single 16), 4294967298) ∷ (taking_event (raise_single_mark 16 2), 0) ∷ (taking_event (load_sum 16), 2) ∷ (taking_event (swap_sum_mark 16 (pos 2)), 0) ∷ []

-- an actor whose delta begins
abbrev pub takes_all : Actor
takes_all = noted (maker (1 ∷ 1 ∷ [])) (takes letter_a)

-- a delta of a packed histogram took all that it saw
abbrev pub TakingRun : Type 0
TakingRun = AreReady takes_all taking × MayNote (run takes_all taking) has_taken

-- ---- sparse samples

-- the name `S`
abbrev pub letter_s : List ℕ
letter_s = 83 ∷ []

-- a sparse histogram `S` at 16 with a sample of -5 at 32 and one of 7 at 40, of which a delta has taken all
abbrev pub sparse_segment : List ℕ
sparse_segment =
    head_words 48 40 16
    ++ 16 ∷ 0xC8799269 ∷ 1 ∷ 32 ∷ 4 ∷ 0 ∷ 0 ∷ 0 ∷ 0 ∷ 0 ∷ 0 ∷ 18446744073709551613 ∷ 18446744073709551613 ∷ 3 ∷ 1 ∷ 83
    ∷ 8 ∷ 0xC8799269 ∷ 3 ∷ 40 ∷ 16 ∷ 18446744073709551611 ∷ 2 ∷ 2
    ∷ 8 ∷ 0xC8799269 ∷ 3 ∷ 12 ∷ 16 ∷ 7 ∷ 1 ∷ 1 ∷ replicate 80 0

-- ---- batches

-- items of amount 0, then the sum; an empty batch with sum 0 has no entries; a sum costs one unit for each 2^31 of its size, rounded up
abbrev pub BatchExamples : Type 0
BatchExamples =
    (batch_entries letter_a boolean ((pos 0, 2) ∷ (pos 1, 3) ∷ []) (pos 3)
    ≡ record { name = letter_a; key = pos 0; units = 2; amount = pos 0 }
    ∷ record { name = letter_a; key = pos 1; units = 3; amount = pos 0 }
    ∷ record { name = letter_a; key = pos 0; units = 0; amount = pos 3 } ∷ [])
    × (batch_cost ((pos 0, 2) ∷ (pos 1, 3) ∷ []) (pos 3) ≡ 5) × (batch_cost [] (pos (2 ^ 31 * 4 + 1)) ≡ 5)
    × (batch_entries letter_a boolean [] (pos 0) ≡ []) × (batch_cost [] (pos 0) ≡ 0)
