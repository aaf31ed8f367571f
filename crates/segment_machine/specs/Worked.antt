-- A worked run from a new segment to the joins, in both versions: two recorders with packed, moved and sparse samples, a batch and
-- deltas, then a third with a final delta.
use Rattle.std.specs.Prelude.{◌≡◌, ℕ, ◌+◌, ℤ, pos, negsuc, List, [], ◌∷◌, ◌++◌, map, length, take, drop, replicate, slice_set, ◌==◌, if◌then◌else◌}
use mathlib.Core.Option.{some, none}
use lib.ListN.{get_elem?}
use Rattle.segment_image.specs.Words.{word_at}
use Rattle.bucket_ranges.specs.declared.spec.Spec.TheVariants as spec
use Rattle.segment_machine.specs.declared.actor.Actor.{Actor}
use Rattle.segment_machine.specs.declared.actor.Known.{Known}
use Rattle.segment_machine.specs.declared.actor.Made.TheVariants as made
use Rattle.segment_machine.specs.declared.entry.Entry.{Entry}
use Rattle.segment_machine.specs.Entry.{sample_entry, item_entry, sum_entry, tally_units, tally_sum, tally_noted}
use Rattle.segment_machine.specs.declared.actor.Taken.{Taken}
use Rattle.segment_machine.specs.Actor.{log_of, units_of, taken_of, taken_units, taken_sum, IsFinal, made_of}
use Rattle.segment_machine.specs.Event.{Event, allocating_event, publishing_event, walking_event, counting_event, packing_event, taking_event, spot, after, next}
use Rattle.segment_machine.specs.Allocating.{load_flags, load_free, exchange_free, store_size, store_cookie, store_type, store_payload}
use Rattle.segment_machine.specs.Publishing.{store_own_next, load_tail, link, move_tail}
use Rattle.segment_machine.specs.Walking.{load_next, load_published}
use Rattle.segment_machine.specs.Counting.{load_counts, add_count, add_sum, add_redundant}
use Rattle.segment_machine.specs.Packing.{load_single, pack, mount_counts, disable, add_moved}
use Rattle.segment_machine.specs.Taking.{load_count, raise_mark, raise_single_mark, load_sum, swap_sum_mark}
use Rattle.segment_machine.specs.Note.{Note, noted, begins, goes_on, asks, knows, takes, has_taken, ends}
use Rattle.segment_machine.specs.Seats.{offering, parent, newcomer, joined, spent}
use Rattle.segment_machine.specs.State.{State, memory}
use Rattle.segment_machine.specs.Reached.{new_state, IsState, IsJoined}
use Rattle.segment_machine.specs.Examples.{shape, letter_a, letter_s, boolean, one, known_a, head_words, boolean_words, counts_words}

-- ---- runs

-- An action of a run: a recorder does an event, with notes before and after it; the opener offers units to its next recorder, makes that
-- one, or joins one.
pub data RunAction : Type 0 where
  acts : (id : ℕ) (before : List Note) (event : Event) (behind : List Note) → RunAction
  offers : (units : ℕ) → RunAction
  makes : RunAction
  joins : (id : ℕ) → RunAction

-- an actor after notes
abbrev pub noted_by : Actor → List Note → Actor
noted_by a [] = a
noted_by a (note ∷ rest) = noted_by (noted a note) rest

-- the actor of a number
abbrev pub actor_of : State → ℕ → Actor
actor_of state id = elim (get_elem? state.actors id) [ some a ↦ a | none ↦ spent ]

-- the state after an action
abbrev pub done : ℕ → State → RunAction → State
done version state (acts id before event behind) =
    let size = length state.words in
    let words = after size version event (memory state) in
    let a = next (noted_by (actor_of state id) before) event (word_at (memory state) (spot size event)) in
    record { words = take size words; cursors = drop size words; actors = slice_set state.actors id (noted_by a behind) }
done version state (offers units) = record state { actors = slice_set state.actors 0 (offering (actor_of state 0) units) }
done version state makes = record state { actors = slice_set state.actors 0 (parent (actor_of state 0)) ++ newcomer (actor_of state 0) ∷ [] }
done version state (joins id) =
    record state { actors = slice_set (slice_set state.actors 0 (joined (actor_of state 0) (actor_of state id))) id spent }

-- the state after actions, one after the other
abbrev pub played : ℕ → State → List RunAction → State
played version state [] = state
played version state (deed ∷ rest) = played version (done version state deed) rest

-- ---- parts of calls

-- events of one actor, one after the other
abbrev pub by : ℕ → List Event → List RunAction
by id events = map (λ event. acts id [] event []) events

-- a block of `size` words is claimed at the free pointer
abbrev pub claims : ℕ → ℕ → ℕ → List Event
claims at size tag = map allocating_event
    (load_flags ∷ load_free ∷ exchange_free at (at + size) size ∷ store_size at size ∷ store_cookie at 0xC8799269 ∷ store_type at tag ∷ [])

-- payload words are stored
abbrev pub fills : ℕ → List (ℕ × ℕ) → List Event
fills at words = map (λ word. allocating_event (store_payload at word.0 word.1)) words

-- a block is published after the tail
abbrev pub publishes : ℕ → ℕ → List Event
publishes tail at = map publishing_event (load_tail ∷ link tail at ∷ move_tail tail at ∷ [])

-- words of a record are loaded
abbrev pub meets : ℕ → List ℕ → List Event
meets at words = map (λ i. walking_event (load_published at i)) words

-- ---- the run

abbrev pub known_s : Known
known_s = record { name = letter_s; spec = spec.Sparse; reference = 42 }

-- a `hist` makes a record of 16 words after the tail, finds it, and returns it
abbrev pub hist : ℕ → ℕ → Known → List (ℕ × ℕ) → List RunAction
hist id tail known words =
    let at = known.reference in
    by id (walking_event (load_next tail) ∷ claims at 16 1 ++ fills at words)
    ++ acts id (asks at (made.Histogram known.name known.spec) ∷ []) (publishing_event (store_own_next at)) []
    ∷ by id (publishes tail at ++ walking_event (load_next tail) ∷ meets at (2 ∷ 14 ∷ 15 ∷ 4 ∷ 5 ∷ 6 ∷ []))
    ++ acts id [] (walking_event (load_published at 7)) (knows known ∷ []) ∷ []

-- a `hist` finds the record after a block
abbrev pub hist_found : ℕ → ℕ → Known → List RunAction
hist_found id behind known =
    by id (walking_event (load_next behind) ∷ meets known.reference (2 ∷ 14 ∷ 15 ∷ 4 ∷ 5 ∷ 6 ∷ []))
    ++ acts id [] (walking_event (load_published known.reference 7)) (knows known ∷ []) ∷ []

-- a sample of 1 is packed
abbrev pub packs_one : ℕ → ℕ → List RunAction
packs_one old new =
    acts 1 (begins letter_a 1 (one 1 ∷ []) ∷ []) (packing_event (load_single 16)) []
    ∷ by 1 (packing_event (pack 16 old new) ∷ counting_event (add_sum 16 (pos 1)) ∷ [])
    ++ acts 1 [] (counting_event (add_redundant 16 1)) (ends ∷ []) ∷ []

-- two recorders are made, with ten units each
abbrev pub two_recorders : List RunAction
two_recorders = offers 10 ∷ makes ∷ offers 10 ∷ makes ∷ []

-- two samples of 1 are packed
abbrev pub two_packed : List RunAction
two_packed =
    two_recorders ++ hist 1 12 known_a ((0, 2) ∷ (1, 1) ∷ (2, 2) ∷ (3, 3) ∷ (10, 1) ∷ (11, 65) ∷ [])
    ++ packs_one 0 4294967297 ++ packs_one 4294967297 4294967298

-- a delta takes both
abbrev pub packing : List RunAction
packing =
    two_packed
    ++ acts 1 (takes letter_a ∷ []) (packing_event (load_single 16)) []
    ∷ by 1 (taking_event (raise_single_mark 16 2) ∷ taking_event (load_sum 16) ∷ [])
    ++ acts 1 [] (taking_event (swap_sum_mark 16 (pos 2))) (has_taken ∷ []) ∷ []

-- the units of a disabled word are moved; a frozen word keeps them
abbrev pub moves : ℕ → List Event
moves version = if version == 1 then packing_event (add_moved 32 1 2) ∷ [] else []

-- a delta with mounted counts: of all three buckets, then of the sum
abbrev pub delta : ℕ → ℕ → ℕ → ℤ → List RunAction
delta id least ones sum =
    acts id (takes letter_a ∷ []) (packing_event (load_single 16)) []
    ∷ by id (counting_event (load_counts 16)
    ∷ map taking_event (load_count 36 ∷ raise_mark 39 least ∷ load_count 37 ∷ raise_single_mark 16 ones ∷ load_count 38 ∷ load_sum 16 ∷ []))
    ++ acts id [] (taking_event (swap_sum_mark 16 sum)) (has_taken ∷ []) ∷ []

-- A sample of 0 mounts a counts block, disables the word, moves its units and counts its own. A delta takes it.
abbrev pub mounting : ℕ → List RunAction
mounting version =
    hist_found 2 12 known_a
    ++ acts 2 (begins letter_a 1 (one 0 ∷ []) ∷ []) (packing_event (load_single 16)) []
    ∷ by 2 (counting_event (load_counts 16) ∷ claims 32 10 2
    ++ packing_event (mount_counts 16 32) ∷ packing_event (load_single 16) ∷ packing_event (disable 16 4294967298) ∷ moves version
    ++ counting_event (add_count 36 1) ∷ [])
    ++ acts 2 [] (counting_event (add_redundant 16 1)) (ends ∷ [])
    ∷ delta 2 1 2 (pos 2)

-- the entry of a sample of two units of -5
abbrev pub minus_five : Entry
minus_five = sample_entry letter_s [] (negsuc 4, 2)

-- `S` is made; a sample of two units of -5 finds no room in its page, wastes the rest, and is published in the next page
abbrev pub sampling : List RunAction
sampling =
    hist 1 16 known_s ((0, 4) ∷ (10, 1) ∷ (11, 83) ∷ [])
    ++ acts 1 (begins letter_s 2 (minus_five ∷ []) ∷ []) (walking_event (load_next 42)) []
    ∷ by 1 (map allocating_event
    (load_flags ∷ load_free ∷ exchange_free 58 64 8 ∷ store_size 58 6 ∷ store_cookie 58 0xFFFFFFFFFFFFFFFF ∷ [])
    ++ claims 64 8 3 ++ fills 64 ((0, 42) ∷ (1, 18446744073709551611) ∷ []))
    ++ acts 1 (asks 64 (made.Sample 42 (negsuc 4)) ∷ []) (publishing_event (store_own_next 64)) []
    ∷ by 1 (publishes 42 64 ++ walking_event (load_next 42) ∷ meets 64 (2 ∷ 4 ∷ 5 ∷ [])
    ++ counting_event (add_count 70 2) ∷ counting_event (add_sum 42 (negsuc 9)) ∷ [])
    ++ acts 1 [] (counting_event (add_redundant 42 2)) (ends ∷ []) ∷ []

-- the entry of an item of a batch of `A`
abbrev pub item : ℕ → ℕ → Entry
item value units = item_entry letter_a boolean (pos value, units)

-- a batch of two units of 0 and three of 1, with a sum of 3, goes item by item, then the sum; then both recorders are joined
abbrev pub batching : List RunAction
batching =
    acts 2 (begins letter_a 2 (item 0 2 ∷ []) ∷ []) (packing_event (load_single 16)) []
    ∷ by 2 (map counting_event (load_counts 16 ∷ add_count 36 2 ∷ add_redundant 16 2 ∷ []))
    ++ acts 2 (goes_on (item 1 3) 3 ∷ []) (packing_event (load_single 16)) []
    ∷ by 2 (map counting_event (load_counts 16 ∷ add_count 37 3 ∷ add_redundant 16 3 ∷ []))
    ++ acts 2 (goes_on (sum_entry letter_a (pos 3)) 0 ∷ []) (counting_event (add_sum 16 (pos 3))) (ends ∷ []) ∷ joins 1 ∷ joins 2 ∷ []

-- a delta of `S`, whose sample is at 64
abbrev pub sparse_delta : ℕ → List RunAction
sparse_delta id =
    acts id (takes letter_s ∷ []) (taking_event (load_count 70)) []
    ∷ by id (map taking_event (raise_mark 71 2 ∷ load_sum 42 ∷ []))
    ++ acts id [] (taking_event (swap_sum_mark 42 (negsuc 9))) (has_taken ∷ []) ∷ []

-- a third recorder is made when none is outstanding, takes the rest, and is joined
abbrev pub last_delta : List RunAction
last_delta = makes ∷ hist_found 3 16 known_s ++ sparse_delta 3 ++ hist_found 3 12 known_a ++ delta 3 3 5 (pos 5) ++ joins 3 ∷ []

-- the worked run, played in a version
abbrev pub worked : ℕ → State
worked version = played version (new_state shape version 7 0) (packing ++ mounting version ++ sampling ++ batching ++ last_delta)

-- ---- what it comes to

-- its words: `A` at 16 with its counts at 32, `S` at 42, the waste at 58, and the sample at 64. The single word and the count of bucket 1
-- differ by version.
abbrev pub worked_words : ℕ → ℕ → ℕ → List ℕ
worked_words version single ones =
    slice_set (head_words 72 64 16) 1 version
    ++ slice_set (boolean_words 32 single 5 5 5 8) 3 42
    ++ counts_words (3 ∷ ones ∷ 0 ∷ 3 ∷ 0 ∷ 0 ∷ [])
    ++ 16 ∷ 0xC8799269 ∷ 1 ∷ 64 ∷ 4 ∷ 0 ∷ 0 ∷ 0 ∷ 0 ∷ 0 ∷ 0 ∷ 18446744073709551606 ∷ 18446744073709551606 ∷ 2 ∷ 1 ∷ 83
    ∷ 6 ∷ 0xFFFFFFFFFFFFFFFF ∷ 0 ∷ 0 ∷ 0 ∷ 0
    ∷ 8 ∷ 0xC8799269 ∷ 3 ∷ 12 ∷ 42 ∷ 18446744073709551611 ∷ 2 ∷ 2 ∷ replicate 56 0

-- The opener has joined all. Its log has three units of 0, five of 1, and two of -5; its deltas took all, the last one, which is final, two
-- of 0 and three of 1; and no unit is lost.
pub record IsWorked (version : ℕ) (a : Actor) : Type 0 where
  pub reached : IsState shape version 7 0 (worked version)
  pub joined : IsJoined (worked version) a
  pub counted : map (λ key. tally_units (log_of a) letter_a (pos key)) (0 ∷ 1 ∷ 2 ∷ []) ≡ 3 ∷ 5 ∷ 0 ∷ []
  pub sparse : tally_units (log_of a) letter_s (negsuc 4) ≡ 2
  pub summed : (tally_sum (log_of a) letter_a ≡ pos 5) × (tally_sum (log_of a) letter_s ≡ negsuc 9)
  pub noted : (tally_noted (log_of a) letter_a ≡ 8) × (tally_noted (log_of a) letter_s ≡ 2)
  pub taken : (map (λ key. taken_units (taken_of a) letter_a (pos key)) (0 ∷ 1 ∷ 2 ∷ []) ≡ 3 ∷ 5 ∷ 0 ∷ []) × (taken_units (taken_of a) letter_s (negsuc 4) ≡ 2)
  pub taken_sums : (taken_sum (taken_of a) letter_a ≡ pos 5) × (taken_sum (taken_of a) letter_s ≡ negsuc 9)
  pub last : (before : List Taken) × (delta : Taken) × (a.deltas.taken ≡ before ++ delta ∷ []) × (delta.counts ≡ (pos 0, 2) ∷ (pos 1, 3) ∷ []) × (delta.sum ≡ pos 3)
      × IsFinal (made_of a.role) (log_of a) letter_a delta.moment
  pub units : (units_of a ≡ 4294967295) × (a.units.share ≡ 4294967285)

-- in version 1 the counts have the units of the disabled word
abbrev pub WorkedRun : Type 0
WorkedRun = IsWorked 1 (actor_of (worked 1) 0) × ((worked 1).words ≡ worked_words 1 9223372036854775809 5)

-- in version 2 the frozen word keeps them
abbrev pub FrozenRun : Type 0
FrozenRun = IsWorked 2 (actor_of (worked 2) 0) × ((worked 2).words ≡ worked_words 2 9223372041149743106 3)
