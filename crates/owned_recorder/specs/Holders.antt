-- Which segment a recorder that keeps it alive records into, what it has done and seen, and what an opener does with it.
use Rattle.std.specs.Prelude.{◌≡◌, ℕ, MatchResult, Result}
use Rattle.std.specs.declared.sync.Arc.{Arc}
use Rattle.std.specs.declared.alloc.Global.{Global}
use Rattle.segment_calls.specs.declared.refusal.Refusal.{Refusal}
use Rattle.segment_machine.specs.Seats.{getter}
use Rattle.segment_machine.specs.declared.actor.Actor.{Actor}
use Rattle.live_segment.specs.declared.opener.Opener.{Opener}
use Rattle.live_segment.specs.declared.segment.Segment.{Segment}
use Rattle.live_segment.specs.Holders.{table_of}
use Rattle.owned_recorder.specs.declared.owned.OwnedRecorder.{OwnedRecorder}
use Rattle.live_segment.specs.Opener.{AnswersNew, IsNewcomer}
use Rattle.live_segment.specs.RecorderState.{IsSameRecorder, view_of_state}

-- what it has done and seen
abbrev pub view_of_owned : OwnedRecorder → Actor
view_of_owned owned = view_of_state owned.state

-- it is one of the segment that an opener was made with
abbrev pub IsRecorderOf : OwnedRecorder → Opener → Type 0
IsRecorderOf owned opener = owned.state.seat.table_id ≡ opener.seat.table_id

-- it records into a segment: an opener that was made with the segment may join it
abbrev pub RecordsInto : Segment → OwnedRecorder → Type 0
RecordsInto segment owned = owned.state.seat.table_id ≡ table_of segment

-- an opener returns the fault of the first check that fails; else a new recorder that keeps the segment alive
abbrev pub AnswersOwned : Arc Segment Global → ℕ → Opener → Result OwnedRecorder Refusal → Type 0
AnswersOwned segment units opener = AnswersNew (λ owned. (owned.segment ≡ segment) × IsNewcomer units opener owned.state) units opener

-- it has got this many units; or it is unchanged
abbrev pub OwnedGetsUnits : {A : Type 0} → ℕ → OwnedRecorder → Result A Refusal → OwnedRecorder → Type 0
OwnedGetsUnits units old result new =
    MatchResult result (λ _. IsSameRecorder old.state new.state × (view_of_owned new ≡ getter (view_of_owned old) units)) (λ _. new ≡ old)
