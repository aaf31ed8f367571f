-- What a call of a recorder that C holds returns, and what it makes of the recorder: the clauses of `OwnedRecorder`, with a status instead
-- of a refusal.
use Rattle.std.specs.Prelude.{◌≡◌, ◌≤◌, ◌<◌, ℕ, ℤ, List, length, Option, Some, None, Result, Ok, Err, ◌++◌, IfOk}
use Rattle.std.specs.declared.vec.Vec.{Vec}
use Rattle.std.specs.declared.alloc.Global.{Global}
use Rattle.std.specs.Arc.{arc_value}
use Rattle.bucket_ranges.specs.declared.spec.Spec.{Spec}
use Rattle.segment_calls.specs.declared.answer.Delta.{Delta}
use Rattle.segment_calls.specs.declared.answer.Snapshot.{Snapshot}
use Rattle.segment_calls.specs.declared.refusal.BatchRefusal.{BatchRefusal}
use Rattle.segment_calls.specs.declared.refusal.Refusal.{Refusal}
use Rattle.segment_machine.specs.declared.actor.Known.{Known}
use Rattle.live_segment.specs.Alloc.Allocation.{spoiled}
use Rattle.live_segment.specs.List.SharedCursors.{AnswersNext, gift}
use Rattle.live_segment.specs.List.Values.{AreMostKeys}
use Rattle.live_segment.specs.declared.recorder.Hist.{Hist}
use Rattle.live_segment.specs.Answers.{AnswersAdd, AnswersBatch, AnswersDelta, AnswersFirst, AnswersFront, AnswersHist, AnswersList, AnswersRecords, AnswersSnapshot, ClaimsAdd, ClaimsBatch, ClaimsHist, ShowsEnough, ShowsFewKeys, ShowsNoMore, ShowsUnits, TakesEnough, TakesFewKeys}
use Rattle.live_segment.specs.RecorderState.{HasLimit, IsNamed, IsSameRecorder, KnowsOn, Means, view_of_state}
use Rattle.owned_recorder.specs.declared.owned.OwnedRecorder.{OwnedRecorder}
use Rattle.povundiri_c.specs.declared.status.Refused.{Refused}
use Rattle.povundiri_c.specs.Status.{status_of_refusal}

-- ---- what is unchanged after a call

-- it keeps its segment, knows the same histograms, and was given no fresh records
abbrev pub IsSameOwned : OwnedRecorder → OwnedRecorder → Type 0
IsSameOwned old new = (new.segment ≡ old.segment) × IsSameRecorder old.state new.state

-- how many histograms it knows
abbrev pub known_by : OwnedRecorder → ℕ
known_by owned = length (view_of_state owned.state).answers.names

-- how many shared cursors its segment has
abbrev pub cursors_by : OwnedRecorder → ℕ
cursors_by owned = (view_of_state owned.state).segment.cursors

-- ---- answers as C has them

-- the status of an answer: 0, or that of the refusal
abbrev pub status_of_answer : Result (Unit {0}) Refusal → ℕ
status_of_answer (Ok _) = 0
status_of_answer (Err why) = status_of_refusal why

-- an answer with a status instead of a refusal
abbrev pub with_status : {A : Type 0} → Result A Refusal → Result A ℕ
with_status (Ok value) = Ok value
with_status (Err why) = Err (status_of_refusal why)

-- the place of the histogram that is returned
abbrev pub place_of_answer : Result Hist Refusal → Result ℕ ℕ
place_of_answer (Ok histogram) = Ok histogram.index
place_of_answer (Err why) = Err (status_of_refusal why)

-- a status that no length goes with
abbrev pub refused_with : ℕ → Refused
refused_with status = record { status = status; length = 0 }

-- an answer with such a status instead of a refusal
abbrev pub with_refused : {A : Type 0} → Result A Refusal → Result A Refused
with_refused (Ok value) = Ok value
with_refused (Err why) = Err (refused_with (status_of_refusal why))

-- the answer of a batch, for which the length is how many items are counted all the same
abbrev pub with_refused_batch : Result (Unit {0}) BatchRefusal → Result (Unit {0}) Refused
with_refused_batch (Ok value) = Ok value
with_refused_batch (Err refusal) = Err (record { status = status_of_refusal refusal.why; length = refusal.added })

-- a record, or the status that the list ends
abbrev pub next_of : Option ℕ → Result ℕ ℕ
next_of (Some next) = Ok next
next_of None = Err 12

-- ---- calls that name a histogram by its place

-- If it knows none there, that is returned, and it is unchanged; else the call is of the histogram there.
abbrev pub AtPlace : {A : Type 0} → A → (Hist → OwnedRecorder → A → OwnedRecorder → Type 0) → ℕ → OwnedRecorder → A → OwnedRecorder → Type 0
AtPlace unknown Calls place old answer new =
    (known_by old ≤ place → (answer ≡ unknown) × (new ≡ old))
    × (place < known_by old → (histogram : Hist) × (histogram.index ≡ place) × Calls histogram old answer new)

-- a sample is added as `OwnedRecorder::add` says
abbrev pub Adds : ℤ → ℕ → Hist → OwnedRecorder → ℕ → OwnedRecorder → Type 0
Adds value count histogram old status new =
    (answer : Result (Unit {0}) Refusal) × (status ≡ status_of_answer answer) × IsSameOwned old new
    × AnswersAdd histogram value count old.state answer new.state × ClaimsAdd histogram value old.state answer new.state

-- a batch is counted as `OwnedRecorder::batch` says
abbrev pub Batches : List (ℤ × ℕ) → ℤ → Hist → OwnedRecorder → Result (Unit {0}) Refused → OwnedRecorder → Type 0
Batches items sum histogram old given new =
    (answer : Result (Unit {0}) BatchRefusal) × (given ≡ with_refused_batch answer) × IsSameOwned old new
    × AnswersBatch histogram items sum old.state answer new.state × ClaimsBatch histogram items old.state answer new.state

-- ---- those that need room for all keys of the histogram

-- how many keys the histogram may have
abbrev pub AreMost : Hist → OwnedRecorder → ℕ → Type 0
AreMost histogram owned most = (known : Known) → Means owned.state histogram known → AreMostKeys (arc_value owned.segment) known most

-- If there is too little room, how much is needed is returned, and it is unchanged; else the call is made.
abbrev pub InRoom : {A : Type 0} → ℕ → (Hist → OwnedRecorder → Result A Refused → OwnedRecorder → Type 0)
    → Hist → OwnedRecorder → Result A Refused → OwnedRecorder → Type 0
InRoom room Calls histogram old given new =
    (most : ℕ) × AreMost histogram old most
    × (room < most → (given ≡ Err (record { status = 7; length = most })) × (new ≡ old))
    × (most ≤ room → Calls histogram old given new)

-- a call of the histogram at a place, if there is room for all of its keys
abbrev pub AtPlaceInRoom : {A : Type 0} → ℕ → ℕ → (Hist → OwnedRecorder → Result A Refused → OwnedRecorder → Type 0)
    → OwnedRecorder → Result A Refused → OwnedRecorder → Type 0
AtPlaceInRoom place room Calls = AtPlace (Err (refused_with 8)) (InRoom room Calls) place

-- the histogram itself is returned, and nothing else happens
abbrev pub Finds : Hist → OwnedRecorder → Result Hist Refused → OwnedRecorder → Type 0
Finds histogram old given new = (given ≡ Ok histogram) × (new ≡ old)

-- a delta is taken as `OwnedRecorder::delta` says
abbrev pub TakesDelta : Hist → OwnedRecorder → Result Delta Refused → OwnedRecorder → Type 0
TakesDelta histogram old given new =
    (answer : Result Delta Refusal) × (given ≡ with_refused answer) × IsSameOwned old new
    × AnswersDelta histogram old.state answer new.state × TakesEnough (arc_value new.segment) histogram old.state answer new.state
    × TakesFewKeys (arc_value old.segment) histogram old.state answer

-- a snapshot is taken as `OwnedRecorder::snapshot` says
abbrev pub TakesSnapshot : Hist → OwnedRecorder → Result Snapshot Refused → OwnedRecorder → Type 0
TakesSnapshot histogram old given new =
    (answer : Result Snapshot Refusal) × (given ≡ with_refused answer) × IsSameOwned old new
    × AnswersSnapshot histogram old.state answer new.state × ShowsEnough histogram old.state answer new.state
    × ShowsNoMore (arc_value new.segment) histogram old.state answer new.state
    × ShowsUnits histogram old.state answer × ShowsFewKeys (arc_value old.segment) histogram old.state answer

-- ---- other calls

-- the histogram of a name is found or made as `OwnedRecorder::hist` says
abbrev pub FindsHist : List ℕ → Spec → OwnedRecorder → Result ℕ ℕ → OwnedRecorder → Type 0
FindsHist name spec old place new =
    (answer : Result Hist Refusal) × (place ≡ place_of_answer answer) × (new.segment ≡ old.segment) × KnowsOn old.state new.state
    × IfOk answer (IsNamed name spec new.state) × AnswersHist name spec old.state answer new.state × ClaimsHist name spec old.state answer new.state
    × AnswersFirst (arc_value new.segment) answer new.state

-- the segment is marked as corrupt
abbrev pub Marks : OwnedRecorder → ℕ → OwnedRecorder → Type 0
Marks old status new = (status ≡ 0) × IsSameOwned old new × (view_of_state new.state ≡ spoiled (view_of_state old.state))

-- its indexes may have this many entries now, and all else is unchanged
abbrev pub Limits : ℕ → OwnedRecorder → ℕ → OwnedRecorder → Type 0
Limits entries old status new =
    (status ≡ 0) × IsSameOwned old new × (view_of_state new.state ≡ view_of_state old.state) × HasLimit entries new.state

-- the references of all records of the list
abbrev pub WalksAll : OwnedRecorder → Result (Vec ℕ Global) ℕ → OwnedRecorder → Type 0
WalksAll old given new =
    (answer : Result (Vec ℕ Global) Refusal) × (given ≡ with_status answer) × IsSameOwned old new × AnswersRecords old.state answer new.state
    × AnswersList (arc_value new.segment) answer new.state

-- the next record of a shared cursor, if the segment has that cursor
abbrev pub TakesNext : ℕ → OwnedRecorder → Result ℕ ℕ → OwnedRecorder → Type 0
TakesNext cursor old given new =
    (cursors_by old ≤ cursor → (given ≡ Err 9) × (new ≡ old))
    × (cursor < cursors_by old → (answer : Option ℕ) × (given ≡ next_of answer) × IsSameOwned old new
    × AnswersNext cursor (view_of_state old.state) answer (view_of_state new.state)
    × ((view_of_state new.state).done.given ≡ (view_of_state old.state).done.given ++ gift cursor answer)
    × AnswersFront (arc_value new.segment) cursor answer new.state)
