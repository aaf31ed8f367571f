-- Worked runs in which two recorders meet: one stops in transit, one stalls while another takes, both mount counts, and both make a
-- sample of one value. In both versions, except for the lost block.
use Rattle.std.specs.Prelude.{◌≡◌, ℕ, pos, negsuc, List, [], ◌∷◌, ◌++◌, map, replicate, slice_set}
use Rattle.bucket_ranges.specs.declared.spec.Spec.TheVariants as spec
use Rattle.segment_machine.specs.declared.actor.Known.{Known}
use Rattle.segment_machine.specs.declared.actor.Made.TheVariants as made
use Rattle.segment_machine.specs.declared.entry.Entry.{Entry}
use Rattle.segment_machine.specs.Entry.{sample_entry}
use Rattle.segment_machine.specs.Actor.{transit_of}
use Rattle.segment_machine.specs.Event.{Event, publishing_event, walking_event, counting_event, packing_event, taking_event}
use Rattle.segment_machine.specs.Publishing.{store_own_next, load_tail, link, move_tail}
use Rattle.segment_machine.specs.Walking.{load_next}
use Rattle.segment_machine.specs.Counting.{load_counts, add_count, add_sum, add_redundant}
use Rattle.segment_machine.specs.Packing.{load_single, mount_counts, purge_block, disable, add_moved}
use Rattle.segment_machine.specs.Taking.{raise_single_mark, load_sum, swap_sum_mark}
use Rattle.segment_machine.specs.Note.{begins, asks, takes, has_taken, ends}
use Rattle.segment_machine.specs.State.{State}
use Rattle.segment_machine.specs.Reached.{new_state, IsState}
use Rattle.segment_machine.specs.Examples.{shape, letter_a, letter_s, one, known_a, head_words, boolean_words, counts_words, in_transit, stopped_frozen, taken_once, taken_once_frozen}
use Rattle.segment_machine.specs.Worked.{RunAction, acts, played, actor_of, by, claims, fills, meets, moves, hist, hist_found, two_recorders, two_packed, delta}

-- the state after actions, from a new segment
abbrev pub after : ℕ → List RunAction → State
after version deeds = played version (new_state shape version 7 0) deeds

-- ---- stopped in transit

-- a call of a sample begins and finds the packed word, and no counts
abbrev pub finds_packed : ℕ → ℕ → List RunAction
finds_packed id value =
    acts id (begins letter_a 1 (one value ∷ []) ∷ []) (packing_event (load_single 16)) [] ∷ by id (counting_event (load_counts 16) ∷ [])

-- counts are mounted, and the word of two units of 1 is disabled
abbrev pub disables : List Event
disables = packing_event (mount_counts 16 32) ∷ packing_event (load_single 16) ∷ packing_event (disable 16 4294967298) ∷ []

-- the call of a sample of 0 ends
abbrev pub counts_zero : ℕ → List RunAction
counts_zero id = by id (counting_event (add_count 36 1) ∷ []) ++ acts id [] (counting_event (add_redundant 16 1)) (ends ∷ []) ∷ []

abbrev pub stopping : List RunAction
stopping = two_packed ++ hist_found 2 12 known_a ++ finds_packed 2 0 ++ by 2 (claims 32 10 2 ++ disables)

-- it stops with these words, and with these units of each bucket in transit
abbrev pub StopsInTransit : ℕ → List ℕ → List ℕ → Type 0
StopsInTransit version words transit =
    IsState shape version 7 0 (after version stopping) × ((after version stopping).words ≡ words)
    × (map (transit_of (after version stopping).actors 16) (0 ∷ 1 ∷ 2 ∷ []) ≡ transit)

-- in version 1 two units are in transit, in version 2 none
abbrev pub StoppedRun : Type 0
StoppedRun = StopsInTransit 1 in_transit (0 ∷ 2 ∷ 0 ∷ []) × StopsInTransit 2 stopped_frozen (0 ∷ 0 ∷ 0 ∷ [])

-- ---- two takers of a packed word

-- The second recorder begins a delta and stalls. The first counts 0, which mounts the counts, then 1, and takes all; then the second
-- continues.
abbrev pub stalling : ℕ → List RunAction
stalling version =
    two_packed ++ hist_found 2 12 known_a ++ acts 2 (takes letter_a ∷ []) (packing_event (load_single 16)) []
    ∷ finds_packed 1 0 ++ by 1 (claims 32 10 2 ++ disables ++ moves version) ++ counts_zero 1
    ++ acts 1 (begins letter_a 1 (one 1 ∷ []) ∷ []) (packing_event (load_single 16)) []
    ∷ by 1 (map counting_event (load_counts 16 ∷ add_count 37 1 ∷ add_sum 16 (pos 1) ∷ []))
    ++ acts 1 [] (counting_event (add_redundant 16 1)) (ends ∷ [])
    ∷ delta 1 1 3 (pos 3)
    ++ by 2 (map taking_event (raise_single_mark 16 2 ∷ load_sum 16 ∷ []))
    ++ acts 2 [] (taking_event (swap_sum_mark 16 (pos 3))) (has_taken ∷ []) ∷ []

-- its words; the first took all, the other nothing
abbrev pub IsStalled : ℕ → List ℕ → Type 0
IsStalled version words =
    let state = after version (stalling version) in
    IsState shape version 7 0 state × (state.words ≡ words)
    × (map (λ t. t.counts) (actor_of state 1).deltas.taken ≡ ((pos 0, 1) ∷ (pos 1, 3) ∷ []) ∷ []) × (map (λ t. t.sum) (actor_of state 1).deltas.taken ≡ pos 3 ∷ [])
    × (map (λ t. t.counts) (actor_of state 2).deltas.taken ≡ [] ∷ []) × (map (λ t. t.sum) (actor_of state 2).deltas.taken ≡ pos 0 ∷ [])

-- two takers of the same packed units, one of which stalls, in both versions
abbrev pub StalledRun : Type 0
StalledRun = IsStalled 1 taken_once × IsStalled 2 taken_once_frozen

-- ---- a lost counts block

-- Both recorders count a 0, find no counts, and claim a block. The first mounts its own; the second purges its own, and counts in that of
-- the first.
abbrev pub losing : List RunAction
losing =
    two_packed ++ hist_found 2 12 known_a ++ finds_packed 1 0 ++ finds_packed 2 0
    ++ by 1 (claims 32 10 2) ++ by 2 (claims 42 10 2) ++ by 1 disables
    ++ by 2 (packing_event (mount_counts 16 42) ∷ packing_event (purge_block 42) ∷ packing_event (load_single 16) ∷ []) ++ counts_zero 2
    ++ by 1 (packing_event (add_moved 32 1 2) ∷ []) ++ counts_zero 1

-- a counts block that was made too late is purged
abbrev pub LostRun : Type 0
LostRun =
    IsState shape 1 7 0 (after 1 losing)
    × ((after 1 losing).words
    ≡ head_words 52 16 16 ++ boolean_words 32 9223372036854775809 0 2 0 4 ++ counts_words (2 ∷ 2 ∷ 0 ∷ 0 ∷ 0 ∷ 0 ∷ [])
    ++ 10 ∷ 0xC8799269 ∷ replicate 84 0)

-- ---- a race for a value

-- the sparse histogram `S`, at 16 here
abbrev pub known_s : Known
known_s = record { name = letter_s; spec = spec.Sparse; reference = 16 }

abbrev pub minus_five : ℕ → Entry
minus_five units = sample_entry letter_s [] (negsuc 4, units)

-- a call that counts units of -5 finds no sample, and claims a block for one
abbrev pub finds_none : ℕ → ℕ → ℕ → List RunAction
finds_none id units at =
    acts id (begins letter_s units (minus_five units ∷ []) ∷ []) (walking_event (load_next 16)) []
    ∷ by id (claims at 8 3 ++ fills at ((0, 16) ∷ (1, 18446744073709551611) ∷ []))
    ++ acts id (asks at (made.Sample 16 (negsuc 4)) ∷ []) (publishing_event (store_own_next at)) [] ∷ by id (publishing_event load_tail ∷ [])

-- it finds the sample at 40, and counts there
abbrev pub counts_first : ℕ → ℕ → List RunAction
counts_first id units =
    let entry = minus_five units in
    by id (walking_event (load_next 16) ∷ meets 40 (2 ∷ 4 ∷ 5 ∷ []) ++ counting_event (add_count 46 units) ∷ counting_event (add_sum 16 entry.amount) ∷ [])
    ++ acts id [] (counting_event (add_redundant 16 units)) (ends ∷ []) ∷ []

-- Both make a sample of -5. The second links its own first; the first finds it after the tail, moves the tail, and tries again.
abbrev pub racing : List RunAction
racing =
    two_recorders ++ hist 1 12 known_s ((0, 4) ∷ (10, 1) ∷ (11, 83) ∷ []) ++ hist_found 2 12 known_s
    ++ finds_none 1 2 32 ++ finds_none 2 1 40
    ++ by 2 (map publishing_event (link 16 40 ∷ []))
    ++ by 1 (map publishing_event (link 16 32 ∷ move_tail 16 40 ∷ load_tail ∷ link 40 32 ∷ move_tail 40 32 ∷ []))
    ++ by 2 (map publishing_event (move_tail 16 40 ∷ [])) ++ counts_first 1 2 ++ counts_first 2 1

-- its words: `S` at 16, the sample of the first at 32, which counts nothing, and that of the second at 40, which comes before it on the list
abbrev pub race_words : ℕ → List ℕ
race_words version =
    slice_set (head_words 48 32 16) 1 version
    ++ 16 ∷ 0xC8799269 ∷ 1 ∷ 40 ∷ 4 ∷ 0 ∷ 0 ∷ 0 ∷ 0 ∷ 0 ∷ 0 ∷ 18446744073709551601 ∷ 0 ∷ 3 ∷ 1 ∷ 83
    ∷ 8 ∷ 0xC8799269 ∷ 3 ∷ 12 ∷ 16 ∷ 18446744073709551611 ∷ 0 ∷ 0
    ∷ 8 ∷ 0xC8799269 ∷ 3 ∷ 32 ∷ 16 ∷ 18446744073709551611 ∷ 3 ∷ 0 ∷ replicate 80 0

abbrev pub IsRaced : ℕ → Type 0
IsRaced version = IsState shape version 7 0 (after version racing) × ((after version racing).words ≡ race_words version)

-- two actors make the sample of one value, in both versions
abbrev pub RaceRun : Type 0
RaceRun = IsRaced 1 × IsRaced 2
