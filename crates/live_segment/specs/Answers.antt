-- What the calls of a recorder return and change: the clauses of each call, of the recorder's state before it, its result, and the state
-- after it.
use Rattle.std.specs.Prelude.{◌≡◌, ℕ, ℤ, List, Option, Result, Err, IfOk, MatchOption, MatchResult}
use Rattle.std.specs.declared.vec.Vec.{Vec}
use Rattle.std.specs.declared.alloc.Global.{Global}
use Rattle.bucket_ranges.specs.declared.spec.Spec.{Spec}
use Rattle.bucket_ranges.specs.declared.spec.Spec.TheVariants.{Sparse}
use Rattle.segment_image.specs.Checks.{first_fault}
use Rattle.segment_calls.specs.Blocks.{record_words}
use Rattle.segment_calls.specs.declared.refusal.Refusal.{Refusal}
use Rattle.segment_calls.specs.declared.refusal.Refusal.TheVariants.{NoMemory, OtherSpec}
use Rattle.segment_calls.specs.declared.refusal.BatchRefusal.{BatchRefusal}
use Rattle.segment_calls.specs.declared.answer.Delta.{Delta}
use Rattle.segment_calls.specs.declared.answer.Snapshot.{Snapshot}
use Rattle.segment_machine.specs.declared.actor.Known.{Known}
use Rattle.live_segment.specs.declared.recorder.Hist.{Hist}
use Rattle.live_segment.specs.declared.recorder.state.RecorderState.{RecorderState}
use Rattle.live_segment.specs.declared.segment.Segment.{Segment}
use Rattle.live_segment.specs.Alloc.Claims.{ClaimsFor, ClaimsForAll, NamesAtMostOne}
use Rattle.live_segment.specs.Add.Sample.{add_checks, AnswersSample}
use Rattle.live_segment.specs.Add.Batch.{batch_checks, IsBatched, IsCutShort}
use Rattle.live_segment.specs.Holders.{opened_with}
use Rattle.live_segment.specs.List.Records.{HasWalked}
use Rattle.live_segment.specs.Hist.Answer.{IsAnsweredWith, IsRefusedWith}
use Rattle.live_segment.specs.Hist.Opened.{OpensRecord, OpensAs}
use Rattle.live_segment.specs.Hist.Search.{HasSearched}
use Rattle.live_segment.specs.Delta.Outcome.{AreUnits, HasTaken}
use Rattle.live_segment.specs.Delta.Owed.{HasEnough, HasNoMore, TookEnough}
use Rattle.live_segment.specs.Snapshot.Outcome.{HasSnapshot}
use Rattle.live_segment.specs.List.Values.{AreFewKeys, AreMostKeys}
use Rattle.live_segment.specs.Standing.{HasFirst, HasList, HasShared, Standing}
use Rattle.live_segment.specs.RecorderState.{GivesFresh, IsSameIfBucketed, Means, view_of_state}

-- ---- `most_keys`

-- a histogram that the recorder knows may have this many keys
abbrev pub AreMostKeysOf : Segment → RecorderState → Hist → ℕ → Type 0
AreMostKeysOf segment state histogram keys = (known : Known) → Means state histogram known → AreMostKeys segment known keys

-- ---- `hist`

-- it returns a histogram of the name, or is refused
abbrev pub AnswersHist : List ℕ → Spec → RecorderState → Result Hist Refusal → RecorderState → Type 0
AnswersHist name spec old result new =
    MatchResult result (λ histogram. IsAnsweredWith name spec histogram (view_of_state old) (view_of_state new))
    (λ why. IsRefusedWith name spec why (view_of_state old) (view_of_state new))

-- it has claimed one block at most, for the record of the name
abbrev pub ClaimsHist : List ℕ → Spec → RecorderState → Result Hist Refusal → RecorderState → Type 0
ClaimsHist name spec old result new =
    MatchResult result (λ _. NamesAtMostOne name spec (record_words name spec) (view_of_state old) (view_of_state new))
    (λ why. why ≡ OtherSpec → NamesAtMostOne name spec (record_words name spec) (view_of_state old) (view_of_state new))

-- the histogram that it returns is the first of its name on the list
abbrev pub AnswersFirst : Segment → Result Hist Refusal → RecorderState → Type 0
AnswersFirst segment result new =
    IfOk result (λ histogram. (known : Known) → Means new histogram known → HasFirst (opened_with segment) new.seat.id (view_of_state new) known)

-- ---- `open`

-- it returns the histogram of the record, or none; or there was no memory, and it may have looked along the list and read the record
abbrev pub AnswersOpen : ℕ → RecorderState → Result (Option Hist) Refusal → RecorderState → Type 0
AnswersOpen reference old result new =
    MatchResult result (λ found. OpensRecord reference (view_of_state old) found (view_of_state new))
    (λ why. (why ≡ NoMemory) × HasSearched (view_of_state old) (view_of_state new))

-- the same for a record with a name and a spec; if there was no memory, nothing has happened
abbrev pub AnswersOpenAs : List ℕ → Spec → ℕ → RecorderState → Result (Option Hist) Refusal → RecorderState → Type 0
AnswersOpenAs name spec reference old result new =
    MatchResult result (λ found. OpensAs name spec reference (view_of_state old) found (view_of_state new))
    (λ why. (why ≡ NoMemory) × (view_of_state new ≡ view_of_state old))

-- Unless there was no memory, the segment came to a state in which the recorder has done and seen this; a histogram that is returned is the
-- first of its name on the list there.
abbrev pub OpensFirst : Segment → Result (Option Hist) Refusal → RecorderState → Type 0
OpensFirst segment result new =
    IfOk result (λ found. MatchOption found (Standing (opened_with segment) new.seat.id (view_of_state new))
    (λ histogram. (known : Known) → Means new histogram known → HasFirst (opened_with segment) new.seat.id (view_of_state new) known))

-- ---- `add`

-- it returns the fault of the first check that fails, and the state is the same; else the sample is counted, or refused
abbrev pub AnswersAdd : Hist → ℤ → ℕ → RecorderState → Result (Unit {0}) Refusal → RecorderState → Type 0
AnswersAdd histogram value count old result new =
    MatchOption (first_fault (add_checks (view_of_state old) count))
    ((known : Known) → Means old histogram known → AnswersSample known value count (view_of_state old) result (view_of_state new))
    (λ why. (result ≡ Err why) × (new ≡ old))

-- it has claimed one block at most, for the sample or the counts
abbrev pub ClaimsAdd : Hist → ℤ → RecorderState → Result (Unit {0}) Refusal → RecorderState → Type 0
ClaimsAdd histogram value old result new =
    IfOk result (λ _. (known : Known) → Means old histogram known → ClaimsFor known value (view_of_state old) (view_of_state new))

-- ---- `batch`

-- it returns the fault of the first check that fails, and the state is the same; else all is counted, or the items before one
abbrev pub AnswersBatch : Hist → List (ℤ × ℕ) → ℤ → RecorderState → Result (Unit {0}) BatchRefusal → RecorderState → Type 0
AnswersBatch histogram items sum old result new =
    MatchOption (first_fault (batch_checks (view_of_state old) items sum))
    ((known : Known) → Means old histogram known
    → MatchResult result (λ _. IsBatched known items sum (view_of_state old) (view_of_state new))
    (λ refusal. IsCutShort known items refusal (view_of_state old) (view_of_state new)))
    (λ why. (result ≡ Err (record { added = 0; why = why })) × (new ≡ old))

-- it has claimed what it may for each item
abbrev pub ClaimsBatch : Hist → List (ℤ × ℕ) → RecorderState → Result (Unit {0}) BatchRefusal → RecorderState → Type 0
ClaimsBatch histogram items old result new =
    IfOk result (λ _. (known : Known) → Means old histogram known → ClaimsForAll known items (view_of_state old) (view_of_state new))

-- ---- `delta`

-- the delta is what it has taken; or there was no memory, and of a sparse histogram it may have looked along the list
abbrev pub AnswersDelta : Hist → RecorderState → Result Delta Refusal → RecorderState → Type 0
AnswersDelta histogram old result new =
    MatchResult result
    (λ delta. (known : Known) → Means old histogram known
    → HasTaken known delta.counts.items delta.sum (view_of_state old) (view_of_state new))
    (λ why. (why ≡ NoMemory) × HasSearched (view_of_state old) (view_of_state new) × IsSameIfBucketed histogram old new)

-- it has no more keys than the histogram may have
abbrev pub TakesFewKeys : Segment → Hist → RecorderState → Result Delta Refusal → Type 0
TakesFewKeys segment histogram old result =
    IfOk result (λ delta. (known : Known) → Means old histogram known → AreFewKeys segment known delta.counts.items)

-- all deltas together have taken enough, and no more than was counted
abbrev pub TakesEnough : Segment → Hist → RecorderState → Result Delta Refusal → RecorderState → Type 0
TakesEnough segment histogram old result new =
    IfOk result (λ delta. (known : Known) → Means old histogram known
    → TookEnough (opened_with segment) new.seat.id known delta.counts.items (view_of_state old) (view_of_state new))

-- ---- `snapshot`

-- the snapshot is what it saw; or there was no memory, and of a sparse histogram it may have looked along the list
abbrev pub AnswersSnapshot : Hist → RecorderState → Result Snapshot Refusal → RecorderState → Type 0
AnswersSnapshot histogram old result new =
    MatchResult result
    (λ snapshot. (known : Known) → Means old histogram known → HasSnapshot known (view_of_state old) snapshot (view_of_state new))
    (λ why. (why ≡ NoMemory) × HasSearched (view_of_state old) (view_of_state new) × IsSameIfBucketed histogram old new)

-- it has no more keys than the histogram may have
abbrev pub ShowsFewKeys : Segment → Hist → RecorderState → Result Snapshot Refusal → Type 0
ShowsFewKeys segment histogram old result =
    IfOk result (λ snapshot. (known : Known) → Means old histogram known → AreFewKeys segment known snapshot.counts.items)

-- the snapshot has enough
abbrev pub ShowsEnough : Hist → RecorderState → Result Snapshot Refusal → RecorderState → Type 0
ShowsEnough histogram old result new =
    IfOk result
    (λ snapshot. (known : Known) → Means old histogram known → HasEnough known (view_of_state old) snapshot (view_of_state new))

-- the snapshot has no more than was counted and noted
abbrev pub ShowsNoMore : Segment → Hist → RecorderState → Result Snapshot Refusal → RecorderState → Type 0
ShowsNoMore segment histogram old result new =
    IfOk result
    (λ snapshot. (known : Known) → Means old histogram known → HasNoMore (opened_with segment) new.seat.id known snapshot (view_of_state new))

-- values of a sparse histogram ascend, each once and with units
abbrev pub ShowsUnits : Hist → RecorderState → Result Snapshot Refusal → Type 0
ShowsUnits histogram old result =
    IfOk result (λ snapshot. (known : Known) → Means old histogram known → known.spec ≡ Sparse → AreUnits snapshot.counts.items)

-- ---- `records` and `fresh_records`

-- the records are all of the list; or there was no memory, and the state is the same
abbrev pub AnswersRecords : RecorderState → Result (Vec ℕ Global) Refusal → RecorderState → Type 0
AnswersRecords old result new =
    MatchResult result (λ records. HasWalked (view_of_state old) records.items (view_of_state new)) (λ why. (why ≡ NoMemory) × (new ≡ old))

-- the list has exactly these
abbrev pub AnswersList : Segment → Result (Vec ℕ Global) Refusal → RecorderState → Type 0
AnswersList segment result new = IfOk result (λ records. HasList (opened_with segment) new.seat.id (view_of_state new) records.items)

-- the records are those that it was not given before; or there was no memory, and the state is the same
abbrev pub AnswersFresh : RecorderState → Result (Vec ℕ Global) Refusal → RecorderState → Type 0
AnswersFresh old result new =
    MatchResult result (λ records. GivesFresh old records.items new) (λ why. (why ≡ NoMemory) × (new ≡ old))

-- ---- `next_shared`

-- what the cursor gave to all is a front of the list
abbrev pub AnswersFront : Segment → ℕ → Option ℕ → RecorderState → Type 0
AnswersFront segment cursor result new = HasShared (opened_with segment) new.seat.id (view_of_state new) cursor result
