-- Worked examples of a recorder from its making to its join.
use Rattle.std.specs.Prelude.{◌≡◌, List, [], ◌∷◌, map}
use Rattle.segment_machine.specs.declared.actor.Actor.{Actor}
use Rattle.segment_machine.specs.Actor.{units_of, made_of}
use Rattle.segment_machine.specs.Allocating.{load_flags}
use Rattle.segment_machine.specs.Event.{allocating_event, cursor_event, next}
use Rattle.segment_machine.specs.Cursors.{load_cursor}
use Rattle.segment_machine.specs.Seats.{opener_of, parent, newcomer, offering, giver, getter, joined, spent}
use Rattle.segment_machine.specs.State.{State}
use Rattle.segment_machine.specs.Reached.{new_state, IsState, IsJoined}
use Rattle.segment_machine.specs.Examples.{shape}

-- a new segment with one shared cursor; below, its opener offers five units, makes a recorder with them, lends it three more, and gets one
-- back
abbrev pub opened : State
opened = new_state shape 1 7 1

abbrev pub with_actors : List Actor → State
with_actors actors = record opened { actors = actors }

abbrev pub offers : Actor
offers = offering (opener_of shape 1 1) 5

abbrev pub split_opener : Actor
split_opener = parent offers

abbrev pub recorder : Actor
recorder = newcomer offers

abbrev pub lent : Actor
lent = giver (getter recorder 3) 1

-- it loads the flags, and then the shared cursor
abbrev pub looked : Actor
looked = next (next lent (allocating_event load_flags) 0) (cursor_event (load_cursor 0)) 12

abbrev pub last_opener : Actor
last_opener = joined (getter (giver split_opener 3) 1) looked

abbrev pub joined_state : State
joined_state = with_actors (last_opener ∷ spent ∷ [])

-- the state after its join is reached from a new segment, no recorder is outstanding, and the opener has all units again and has seen what
-- the recorder saw
abbrev pub RecorderIsJoined : Type 0
RecorderIsJoined =
    IsState shape 1 7 1 joined_state × IsJoined joined_state last_opener
    × (units_of split_opener ≡ 4294967290) × (units_of lent ≡ 7) × (last_opener.units.share ≡ 4294967295) × (made_of last_opener.role ≡ 1)
    × (map (λ s. s.word) last_opener.seen.cursors ≡ 12 ∷ [])
