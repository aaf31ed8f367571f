-- What a call by a handle returns, and what the handle holds after it.
use Rattle.std.specs.Prelude.{◌≡◌, ℕ, Option, Some, None, Result, Ok, Err}
use Rattle.segment_machine.specs.Actor.{outstanding_of}
use Rattle.live_segment.specs.Holders.{view_of_opener}
use Rattle.live_segment.specs.RecorderState.{view_of_state}
use Rattle.owned_recorder.specs.declared.owned.OwnedRecorder.{OwnedRecorder}
use Rattle.povundiri_c.specs.declared.contents.Contents.{Contents}
use Rattle.povundiri_c.specs.declared.contents.Contents.TheVariants as contents
use Rattle.povundiri_c.specs.declared.status.Refused.{Refused}
use Rattle.povundiri_c.specs.declared.joinable_recorder.JoinableRecorder.{JoinableRecorder}
use Rattle.povundiri_c.specs.Recorders.{refused_with}

-- ---- calls that only ask

-- the units that a segment has left to give, or that a recorder may still spend
abbrev pub units_of : Contents → Result ℕ ℕ
units_of (contents.Segment owned) = Ok (view_of_opener owned.opener).units.share
units_of (contents.Recorder joinable) = Ok (view_of_state joinable.owned.state).units.share
units_of (contents.Sums sums) = Err 5
units_of (contents.Follower held) = Err 5
units_of contents.Nothing = Err 5

-- how many recorders of a segment were made and not joined
abbrev pub outstanding_in : Contents → Result ℕ ℕ
outstanding_in (contents.Segment owned) = Ok (outstanding_of (view_of_opener owned.opener).role)
outstanding_in (contents.Recorder joinable) = Err 5
outstanding_in (contents.Sums sums) = Err 5
outstanding_in (contents.Follower held) = Err 5
outstanding_in contents.Nothing = Err 5

-- the same of a handle, which may be empty
abbrev pub asked_of : (Contents → Result ℕ ℕ) → Option Contents → Result ℕ ℕ
asked_of ask None = Err 3
asked_of ask (Some held) = ask held

-- what is returned is written where C asked for it; or the status says why not, and what was there is unchanged
abbrev pub IsWritten : {A : Type 0} → Result A ℕ → ℕ → A → A → Type 0
IsWritten (Ok found) status old new = (status ≡ 0) × (new ≡ found)
IsWritten (Err why) status old new = (status ≡ why) × (new ≡ old)

-- ---- what a call does

-- An empty handle returns that, and stays empty; else the call is of what it holds.
abbrev pub ByHandle : {A : Type 0} → A → (Contents → A → Contents → Type 0) → Option Contents → A → Option Contents → Type 0
ByHandle empty Calls None answer new = (answer ≡ empty) × (new ≡ None)
ByHandle empty Calls (Some held) answer new = (after : Contents) × (new ≡ Some after) × Calls held answer after

-- What is no recorder returns that, and is unchanged; else the call is of what C has of the recorder.
abbrev pub OnRecorder : {A : Type 0} → A → (JoinableRecorder → A → JoinableRecorder → Type 0) → Contents → A → Contents → Type 0
OnRecorder other Calls (contents.Recorder joinable) answer new = (after : JoinableRecorder) × (new ≡ contents.Recorder after) × Calls joinable answer after
OnRecorder other Calls (contents.Segment owned) answer new = (answer ≡ other) × (new ≡ contents.Segment owned)
OnRecorder other Calls (contents.Sums sums) answer new = (answer ≡ other) × (new ≡ contents.Sums sums)
OnRecorder other Calls (contents.Follower held) answer new = (answer ≡ other) × (new ≡ contents.Follower held)
OnRecorder other Calls contents.Nothing answer new = (answer ≡ other) × (new ≡ contents.Nothing)

-- What is no recorder returns that, and is unchanged; else the call is of the recorder, which keeps its mailbox.
abbrev pub ByRecorder : {A : Type 0} → A → (OwnedRecorder → A → OwnedRecorder → Type 0) → Contents → A → Contents → Type 0
ByRecorder other Calls (contents.Recorder joinable) answer new =
    (after : JoinableRecorder) × (new ≡ contents.Recorder after) × (after.mailbox ≡ joinable.mailbox) × Calls joinable.owned answer after.owned
ByRecorder other Calls (contents.Segment owned) answer new = (answer ≡ other) × (new ≡ contents.Segment owned)
ByRecorder other Calls (contents.Sums sums) answer new = (answer ≡ other) × (new ≡ contents.Sums sums)
ByRecorder other Calls (contents.Follower held) answer new = (answer ≡ other) × (new ≡ contents.Follower held)
ByRecorder other Calls contents.Nothing answer new = (answer ≡ other) × (new ≡ contents.Nothing)

-- a call that returns a status
abbrev pub OfRecorder : (OwnedRecorder → ℕ → OwnedRecorder → Type 0) → Option Contents → ℕ → Option Contents → Type 0
OfRecorder Calls = ByHandle 3 (ByRecorder 5 Calls)

-- one that returns a value or a status
abbrev pub GivesOfRecorder : {A : Type 0} → (OwnedRecorder → Result A ℕ → OwnedRecorder → Type 0) → Option Contents → Result A ℕ → Option Contents → Type 0
GivesOfRecorder Calls = ByHandle (Err 3) (ByRecorder (Err 5) Calls)

-- one that returns a value, or a status with a length
abbrev pub SizesOfRecorder : {A : Type 0} → (OwnedRecorder → Result A Refused → OwnedRecorder → Type 0) → Option Contents → Result A Refused → Option Contents → Type 0
SizesOfRecorder Calls = ByHandle (Err (refused_with 3)) (ByRecorder (Err (refused_with 5)) Calls)
