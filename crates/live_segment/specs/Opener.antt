-- What the calls of an opener return and change: the clauses of each call, of the opener before it, its result, and the opener after it.
use Rattle.std.specs.Prelude.{◌≡◌, ◌<◌, ◌≤◌, ℕ, Err, MatchOption, MatchResult, Result}
use Rattle.std.specs.Borrow.{Bor}
use Rattle.segment_image.specs.Checks.{first_fault}
use Rattle.segment_calls.specs.declared.refusal.Refusal.{Refusal}
use Rattle.segment_calls.specs.declared.refusal.Refusal.TheVariants.{NoUnits}
use Rattle.segment_machine.specs.declared.actor.Actor.{Actor}
use Rattle.segment_machine.specs.Seats.{getter, giver, joined, newcomer, offering, parent}
use Rattle.live_segment.specs.declared.opener.Opener.{Opener}
use Rattle.live_segment.specs.declared.recorder.Recorder.{Recorder}
use Rattle.live_segment.specs.declared.recorder.state.RecorderState.{RecorderState}
use Rattle.live_segment.specs.declared.segment.Segment.{Segment}
use Rattle.live_segment.specs.Holders.{IsMadeWith, IsSameOpener, view_of_opener, view_of_recorder}
use Rattle.live_segment.specs.RecorderState.{given_fresh, IsSameRecorder, view_of_state}
use Rattle.live_segment.specs.Steps.{recorder_checks}

-- it stays the opener of the segment that it was made with
abbrev pub IsMadeWithSame : Opener → Opener → Type 0
IsMadeWithSame old new = (segment : Segment) → IsMadeWith segment old → IsMadeWith segment new

-- a recorder's state is one of the segment that an opener was made with
abbrev pub IsStateOf : RecorderState → Opener → Type 0
IsStateOf state opener = state.seat.table_id ≡ opener.seat.table_id

-- ---- `recorder`

-- it has made a recorder with this many units, and has them no longer; or it is unchanged
abbrev pub MakesRecorder : {A : Type 0} → ℕ → Opener → Result A Refusal → Opener → Type 0
MakesRecorder units old result new =
    MatchResult result (λ _. IsSameOpener old new × (view_of_opener new ≡ parent (offering (view_of_opener old) units))) (λ _. new ≡ old)

-- A recorder's state is new, with this many units: it has done nothing, was given no record, and has seen what the opener has.
abbrev pub IsNewcomer : ℕ → Opener → RecorderState → Type 0
IsNewcomer units opener state = (view_of_state state ≡ newcomer (offering (view_of_opener opener) units)) × (given_fresh state ≡ 0)

-- it returns the fault of the first check that fails; else something like this
abbrev pub AnswersNew : {A : Type 0} → (A → Type 0) → ℕ → Opener → Result A Refusal → Type 0
AnswersNew like units opener result =
    MatchOption (first_fault (recorder_checks (view_of_opener opener) units)) (MatchResult result like (λ _. ⊥)) (λ why. result ≡ Err why)

-- it returns the fault of the first check that fails; else the state of a new recorder
abbrev pub AnswersState : ℕ → Opener → Result RecorderState Refusal → Type 0
AnswersState units opener = AnswersNew (IsNewcomer units opener) units opener

-- it returns the fault of the first check that fails; else a new recorder of the segment
abbrev pub AnswersRecorder : Bor Segment → ℕ → Opener → Result Recorder Refusal → Type 0
AnswersRecorder segment units opener =
    AnswersNew (λ recorder. (recorder.segment ≡ segment) × IsNewcomer units opener recorder.state) units opener

-- ---- `lend`

-- it has this many units or more, and lends them; or it has fewer, and returns `NoUnits`
abbrev pub LendsUnits : {A : Type 0} → ℕ → Actor → Result A Refusal → Type 0
LendsUnits units opener result = MatchResult result (λ _. units ≤ opener.units.share) (λ why. (why ≡ NoUnits) × (opener.units.share < units))

-- it has given this many units and has them no longer; or it is unchanged
abbrev pub GivesUnits : {A : Type 0} → ℕ → Opener → Result A Refusal → Opener → Type 0
GivesUnits units old result new =
    MatchResult result (λ _. IsSameOpener old new × (view_of_opener new ≡ giver (view_of_opener old) units)) (λ _. new ≡ old)

-- a recorder's state has got this many units; or it is unchanged
abbrev pub GetsUnits : {A : Type 0} → ℕ → RecorderState → Result A Refusal → RecorderState → Type 0
GetsUnits units old result new =
    MatchResult result (λ _. IsSameRecorder old new × (view_of_state new ≡ getter (view_of_state old) units)) (λ _. new ≡ old)

-- a recorder has got this many units; or it is unchanged
abbrev pub RecorderGetsUnits : {A : Type 0} → ℕ → Recorder → Result A Refusal → Recorder → Type 0
RecorderGetsUnits units old result new =
    MatchResult result (λ _. IsSameRecorder old.state new.state × (view_of_recorder new ≡ getter (view_of_recorder old) units)) (λ _. new ≡ old)

-- ---- `join`

-- it has taken back a recorder that has done and seen this
abbrev pub TakesBack : Opener → Actor → Opener → Type 0
TakesBack old recorder new = IsSameOpener old new × (view_of_opener new ≡ joined (view_of_opener old) recorder)
