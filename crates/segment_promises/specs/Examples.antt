-- Worked examples: what a link makes of the chain, and what a delta and a snapshot saw.
use Rattle.std.specs.Prelude.{◌≡◌, ℕ, pos, List, [], ◌∷◌}
use Rattle.segment_machine.specs.declared.actor.Actor.{Actor}
use Rattle.segment_machine.specs.declared.actor.Answered.{Answered}
use Rattle.segment_machine.specs.Entry.{tally_units, tally_noted}
use Rattle.segment_machine.specs.Actor.{units_listed, taken_of, taken_units, accepted_by}
use Rattle.segment_machine.specs.Event.{Event, allocating_event, publishing_event, packing_event, taking_event}
use Rattle.segment_machine.specs.Allocating.{load_flags}
use Rattle.segment_machine.specs.Publishing.{link}
use Rattle.segment_machine.specs.Packing.{load_single}
use Rattle.segment_machine.specs.Taking.{load_sum, load_redundant}
use Rattle.segment_machine.specs.Note.{MayNote, looks, answers, noted, TookAll}
use Rattle.segment_promises.specs.Lists.{chain_behind}
use Rattle.segment_promises.specs.Deltas.{IsWhole}
use Rattle.segment_machine.specs.Examples.{letter_a, maker, AreReady, run, takes_all, taking, known_a}
use Rattle.segment_machine.specs.declared.actor.Role.TheVariants.{Recorder}

-- ---- what a link makes of the chain

-- a link that finds the end of the list adds its record to the chain, any other event leaves the chain unchanged
abbrev pub LinksLengthen : Type 0
LinksLengthen = (chain_behind (publishing_event (link 12 16)) 12 [] ≡ 16 ∷ []) × (chain_behind (publishing_event (link 12 32)) 16 (16 ∷ []) ≡ 16 ∷ []) × (chain_behind (allocating_event load_flags) 12 [] ≡ [])

-- ---- what a delta and a snapshot saw

-- a delta of a packed word: it took what its recorder had accepted, of a bucket of which nothing can be in transit
abbrev pub DeltaOwes : Type 0
DeltaOwes =
    TookAll (run takes_all taking) known_a × IsWhole (run takes_all taking) known_a 1
    × (tally_units (accepted_by (run takes_all taking)) letter_a (pos 1) ≡ 2)
    × (taken_units (taken_of (run takes_all taking)) letter_a (pos 1) ≡ 2)

-- a snapshot of the same word: it loads the single word, the sum and the redundant count, and may return what it saw
abbrev pub snapping : List (Event × ℕ)
snapping = (packing_event (load_single 16), 4294967298) ∷ (taking_event (load_sum 16), 2) ∷ (taking_event (load_redundant 16), 2) ∷ []

abbrev pub snaps : Actor
snaps = noted (record (maker (1 ∷ 1 ∷ [])) { role = Recorder 0 0 }) looks

abbrev pub snapshot : Answered
snapshot = record {
  name = letter_a;
  counts = (pos 0, 0) ∷ (pos 1, 2) ∷ (pos 2, 0) ∷ [];
  sum = pos 2;
  redundant = 2;
  moment = record { log = 2; before = 0; outstanding = 0 };
}

-- a snapshot owes what its recorder had accepted
abbrev pub SnapshotOwes : Type 0
SnapshotOwes =
    AreReady snaps snapping × MayNote (run snaps snapping) (answers snapshot)
    × (units_listed snapshot.counts (pos 1) ≡ tally_units (accepted_by snaps) letter_a (pos 1))
    × (snapshot.redundant ≡ tally_noted (accepted_by snaps) letter_a)
