-- Worked runs of what only looks: a snapshot, and a cursor that two recorders share.
use Rattle.std.specs.Prelude.{◌≡◌, ℕ, pos, List, [], ◌∷◌, ◌++◌, map}
use Rattle.bucket_ranges.specs.declared.spec.Spec.TheVariants as spec
use Rattle.segment_machine.specs.declared.actor.Answered.{Answered}
use Rattle.segment_machine.specs.declared.actor.Known.{Known}
use Rattle.segment_machine.specs.declared.place.Place.TheVariants.{Idle}
use Rattle.segment_machine.specs.Event.{walking_event, counting_event, packing_event, taking_event, cursor_event}
use Rattle.segment_machine.specs.Walking.{load_next}
use Rattle.segment_machine.specs.Counting.{load_counts}
use Rattle.segment_machine.specs.Packing.{load_single}
use Rattle.segment_machine.specs.Taking.{load_count, load_sum, load_redundant}
use Rattle.segment_machine.specs.Cursors.{load_cursor, move_cursor}
use Rattle.segment_machine.specs.Note.{looks, answers}
use Rattle.segment_machine.specs.State.{State}
use Rattle.segment_machine.specs.Reached.{new_state, IsState}
use Rattle.segment_machine.specs.Examples.{shape, letter_a, known_a, mounted, frozen}
use Rattle.segment_machine.specs.Worked.{RunAction, acts, played, actor_of, by, claims, moves, hist, hist_found, two_recorders, two_packed}
use Rattle.segment_machine.specs.Races.{finds_packed, disables, counts_zero}

-- ---- a snapshot

-- one unit of 0, two of 1 and none of 2, with the sum 2; its recorder was made first, and has accepted two samples
abbrev pub snapshot : Answered
snapshot = record {
  name = letter_a;
  counts = (pos 0, 1) ∷ (pos 1, 2) ∷ (pos 2, 0) ∷ [];
  sum = pos 2;
  redundant = 3;
  moment = record { log = 2; before = 0; outstanding = 0 };
}

-- two samples of 1 are packed, and one of 0 mounts the counts; then a snapshot looks at all buckets, the sum and the redundant count
abbrev pub snapping : ℕ → List RunAction
snapping version =
    two_packed ++ hist_found 2 12 known_a ++ finds_packed 2 0 ++ by 2 (claims 32 10 2 ++ disables ++ moves version) ++ counts_zero 2
    ++ acts 1 (looks ∷ []) (packing_event (load_single 16)) []
    ∷ by 1 (counting_event (load_counts 16) ∷ map taking_event (load_count 36 ∷ load_count 37 ∷ load_count 38 ∷ load_sum 16 ∷ []))
    ++ acts 1 [] (taking_event (load_redundant 16)) (answers snapshot ∷ []) ∷ []

abbrev pub snapped : ℕ → State
snapped version = played version (new_state shape version 7 0) (snapping version)

-- in version 1 the counts have the two units, in version 2 the frozen word has them
abbrev pub SnapshotRun : Type 0
SnapshotRun =
    (IsState shape 1 7 0 (snapped 1) × ((actor_of (snapped 1) 1).deltas.snapshots ≡ snapshot ∷ [])
    × ((snapped 1).words ≡ mounted))
    × (IsState shape 2 7 0 (snapped 2) × ((actor_of (snapped 2) 1).deltas.snapshots ≡ snapshot ∷ [])
    × ((snapped 2).words ≡ frozen))

-- ---- a shared cursor

abbrev pub known_b : Known
known_b = record { name = 66 ∷ []; spec = spec.Boolean; reference = 32 }

-- the records `A` and `B` are made; then two recorders ask one cursor in turn, and the first asks once more
abbrev pub sharing : List RunAction
sharing =
    two_recorders ++ hist 1 12 known_a ((0, 2) ∷ (1, 1) ∷ (2, 2) ∷ (3, 3) ∷ (10, 1) ∷ (11, 65) ∷ [])
    ++ hist 1 16 known_b ((0, 2) ∷ (1, 1) ∷ (2, 2) ∷ (3, 3) ∷ (10, 1) ∷ (11, 66) ∷ [])
    ++ by 1 (cursor_event (load_cursor 0) ∷ walking_event (load_next 12) ∷ cursor_event (move_cursor 0 12 16) ∷ [])
    ++ by 2 (cursor_event (load_cursor 0) ∷ walking_event (load_next 16) ∷ cursor_event (move_cursor 0 16 32) ∷ [])
    ++ by 1 (cursor_event (load_cursor 0) ∷ walking_event (load_next 32) ∷ [])

abbrev pub shared : State
shared = played 1 (new_state shape 1 7 1) sharing

-- the first is given 16, the second 32, and then there is none
abbrev pub CursorRun : Type 0
CursorRun =
    IsState shape 1 7 1 shared × (shared.cursors ≡ 32 ∷ []) × (map (λ g. g.reference) (actor_of shared 1).done.given ≡ 16 ∷ [])
    × (map (λ g. g.reference) (actor_of shared 2).done.given ≡ 32 ∷ []) × ((actor_of shared 1).hand.place ≡ Idle)
