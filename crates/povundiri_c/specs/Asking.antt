-- What C passes in addition to a handle, and what a call returns.
use Rattle.std.specs.Prelude.{◌≡◌, ◌≢◌, ◌+◌, ◌<◌, ◌≤◌, ◌⊎◌, ◌==◌, ◌++◌, if◌then◌else◌, ℕ, ℤ, List, length, map, drop, Option, Some, None, is_none, Result, Ok, Err}
use Rattle.std.specs.declared.vec.Vec.{Vec}
use Rattle.std.specs.declared.alloc.Global.{Global}
use Rattle.bucket_ranges.specs.declared.spec.Spec.{Spec}
use Rattle.bucket_ranges.specs.declared.spec.Spec.TheVariants.{Linear, Boolean, Custom, Sparse}
use Rattle.bucket_ranges.specs.declared.spec.SpecFault.{SpecFault}
use Rattle.bucket_ranges.specs.Fault.{spec_fault_number}
use Rattle.bucket_ranges.specs.Scale.{scale_fault, scale_values}
use Rattle.segment_calls.specs.declared.answer.Delta.{Delta}
use Rattle.segment_calls.specs.declared.answer.Snapshot.{Snapshot}
use Rattle.image_reader.specs.declared.reading.Reading.{Reading}
use Rattle.segment_merge.specs.declared.merging.MergeReport.{MergeReport}
use Rattle.povundiri_c.specs.declared.contents.Contents.{Contents}
use Rattle.povundiri_c.specs.declared.status.Refused.{Refused}
use Rattle.povundiri_c.specs.declared.types.Count.{Count}
use Rattle.povundiri_c.specs.declared.types.HistSpec.{HistSpec}
use Rattle.povundiri_c.specs.declared.types.Item.{Item}
use Rattle.povundiri_c.specs.declared.types.MergeTotals.{MergeTotals}
use Rattle.povundiri_c.specs.declared.types.Totals.{Totals}
use Rattle.povundiri_c.specs.Calls.{GivesOfRecorder, IsWritten, SizesOfRecorder}
use Rattle.povundiri_c.specs.Merging.{IsMergeReturned, AreNotRead, IsReadWithin, MergesForCost, cost_of_reading}
use Rattle.povundiri_c.specs.Recorders.{AtPlace, AtPlaceInRoom, Batches, FindsHist, refused_with, TakesDelta, TakesNext, TakesSnapshot, WalksAll}

-- ---- `hist`

-- the custom spec of a scale that has no fault
abbrev pub scale_asked : ℕ → ℕ → ℕ → Option Spec
scale_asked minimum maximum bits =
    if is_none (scale_fault minimum maximum bits) then Some (Custom (scale_values minimum maximum bits)) else None

-- the status of a fault of a scale
abbrev pub status_of_scale_fault : Option SpecFault → ℕ
status_of_scale_fault (Some fault) = 400 + spec_fault_number fault
status_of_scale_fault None = 10

-- the status of a scale that has a fault
abbrev pub scale_status : ℕ → ℕ → ℕ → ℕ
scale_status minimum maximum bits = status_of_scale_fault (scale_fault minimum maximum bits)

-- the spec that C asks for, if there is such a kind, and it is no scale with a fault
abbrev pub spec_asked : HistSpec → List ℕ → Option Spec
spec_asked asked values =
    if asked.kind == 1 then Some (Linear asked.minimum asked.maximum asked.buckets)
    else (if asked.kind == 2 then Some Boolean else (if asked.kind == 3 then Some (Custom values) else (if asked.kind == 4 then Some Sparse
    else (if asked.kind == 5 then scale_asked asked.minimum asked.maximum asked.buckets else None))))

-- the status if there is no such spec: that of the fault of a scale, or that there is no such kind
abbrev pub no_spec_status : HistSpec → ℕ
no_spec_status asked = if asked.kind == 5 then scale_status asked.minimum asked.maximum asked.buckets else 10

-- The handle is empty, there is no such spec, or memory ran out for the values.
abbrev pub IsNoHist : Option Contents → Option Spec → ℕ → ℕ → Type 0
IsNoHist held spec none status = ((held ≡ None) × (status ≡ 3)) ⊎ (((spec ≡ None) × (status ≡ none)) ⊎ (status ≡ 13))

-- The place of a histogram of that spec is returned, or the status says why not. Or nothing was called, and all is unchanged.
abbrev pub AnswersHistCall : List ℕ → Option Spec → ℕ → Option Contents → ℕ → ℕ → ℕ → Option Contents → Type 0
AnswersHistCall name asked none held status place place' held' =
    ((spec : Spec) × (asked ≡ Some spec) × (answer : Result ℕ ℕ) × GivesOfRecorder (FindsHist name spec) held answer held' × IsWritten answer status place place')
    ⊎ ((held' ≡ held) × (place' ≡ place) × IsNoHist held asked none status)

-- ---- `batch`

-- an item as the library has it
abbrev pub pair_of : Item → ℤ × ℕ
pair_of item = (item.value, item.count)

-- All items are counted; or the status says why not, and comes with how many are counted all the same.
abbrev pub IsBatchStatus : ℕ → Result (Unit {0}) Refused → ℕ → ℕ → Type 0
IsBatchStatus all (Ok _) status added = (status ≡ 0) × (added ≡ all)
IsBatchStatus all (Err refused) status added = (status ≡ refused.status) × (added ≡ refused.length)

-- The batch is counted, or the status says why not. Or nothing was called, since the handle is empty or memory ran out for the items, and
-- all is unchanged.
abbrev pub AnswersBatchCall : ℕ → List Item → ℤ → Option Contents → ℕ → ℕ → ℕ → Option Contents → Type 0
AnswersBatchCall place items sum held status added added' held' =
    ((answer : Result (Unit {0}) Refused) × (held ≢ None)
    × SizesOfRecorder (AtPlace (Err (refused_with 8)) (Batches (map pair_of items) sum) place) held answer held'
    × IsBatchStatus (length items) answer status added')
    ⊎ ((held' ≡ held) × (added' ≡ added) × (((held ≡ None) × (status ≡ 3)) ⊎ ((held ≢ None) × (status ≡ 13))))

-- ---- `delta` and `snapshot`

-- a count as C has it
abbrev pub count_of : ℤ × ℕ → Count
count_of given = record { key = given.0; count = given.1 }

-- all counts are at the front of the array, which has room for them; what comes after them is unchanged
abbrev pub AreGiven : List (ℤ × ℕ) → List Count → List Count → Type 0
AreGiven counts old new = (length counts ≤ length old) × (new ≡ map count_of counts ++ drop (length counts) old)

-- The status says why a call is refused, and its length is returned; all else is unchanged.
abbrev pub IsRefusalStatus : Refused → ℕ → Totals → Totals → List Count → List Count → Type 0
IsRefusalStatus refused status totals totals' old new =
    (status ≡ refused.status) × (totals' ≡ record totals { length = refused.length }) × (new ≡ old)

-- the counts of a delta and how many they are, and its sum; or why there is none
abbrev pub IsDeltaGiven : Result Delta Refused → ℕ → Totals → Totals → List Count → List Count → Type 0
IsDeltaGiven (Ok delta) status totals totals' old new =
    (status ≡ 0) × (totals' ≡ record { length = length delta.counts.items; sum = delta.sum; redundant = 0 })
    × AreGiven delta.counts.items old new
IsDeltaGiven (Err refused) status totals totals' old new = IsRefusalStatus refused status totals totals' old new

-- the counts of a snapshot and how many they are, its sum, and its redundant count; or why there is none
abbrev pub IsSnapshotGiven : Result Snapshot Refused → ℕ → Totals → Totals → List Count → List Count → Type 0
IsSnapshotGiven (Ok snapshot) status totals totals' old new =
    (status ≡ 0) × (totals' ≡ record { length = length snapshot.counts.items; sum = snapshot.sum; redundant = snapshot.redundant })
    × AreGiven snapshot.counts.items old new
IsSnapshotGiven (Err refused) status totals totals' old new = IsRefusalStatus refused status totals totals' old new

-- a delta of the histogram at a place is returned, if the array has room for all of its keys; or the status says why not
abbrev pub AnswersDeltaCall : ℕ → Option Contents → ℕ → Totals → Totals → List Count → List Count → Option Contents → Type 0
AnswersDeltaCall place held status totals totals' old new held' =
    (answer : Result Delta Refused) × SizesOfRecorder (AtPlaceInRoom place (length old) TakesDelta) held answer held'
    × IsDeltaGiven answer status totals totals' old new

-- a snapshot of it is returned in the same way
abbrev pub AnswersSnapshotCall : ℕ → Option Contents → ℕ → Totals → Totals → List Count → List Count → Option Contents → Type 0
AnswersSnapshotCall place held status totals totals' old new held' =
    (answer : Result Snapshot Refused) × SizesOfRecorder (AtPlaceInRoom place (length old) TakesSnapshot) held answer held'
    × IsSnapshotGiven answer status totals totals' old new

-- ---- `records`

-- How many there are is returned. If there is room for all, they are at the front of the array; else the array is unchanged. If there are
-- none for another reason, the status says why, and all is unchanged.
abbrev pub AreListed : Result (Vec ℕ Global) ℕ → ℕ → ℕ → ℕ → List ℕ → List ℕ → Type 0
AreListed (Ok found) status needed needed' old new =
    (needed' ≡ length found.items)
    × (length found.items ≤ length old → (status ≡ 0) × (new ≡ found.items ++ drop (length found.items) old))
    × (length old < length found.items → (status ≡ 7) × (new ≡ old))
AreListed (Err why) status needed needed' old new = (status ≡ why) × (needed' ≡ needed) × (new ≡ old)

-- the records of the list are returned in this way
abbrev pub AnswersRecordsCall : Option Contents → ℕ → ℕ → ℕ → List ℕ → List ℕ → Option Contents → Type 0
AnswersRecordsCall held status needed needed' old new held' =
    (answer : Result (Vec ℕ Global) ℕ) × GivesOfRecorder WalksAll held answer held' × AreListed answer status needed needed' old new

-- ---- `next_shared`

-- the next record of the cursor is returned, or the status says why not
abbrev pub AnswersNextCall : ℕ → Option Contents → ℕ → ℕ → ℕ → Option Contents → Type 0
AnswersNextCall cursor held status next next' held' =
    (answer : Result ℕ ℕ) × GivesOfRecorder (TakesNext cursor) held answer held' × IsWritten answer status next next'

-- ---- `merge`

-- all is unchanged
abbrev pub IsUntouched : Option Contents → MergeTotals → List ℕ → MergeTotals → List ℕ → Option Contents → Type 0
IsUntouched held totals name totals' name' held' = (held' ≡ held) × (totals' ≡ totals) × (name' ≡ name)

-- The reading of the words is added by the recorder, or the status says why not. Or the handle is empty, or the words are not read: the
-- status says so, and all is unchanged.
abbrev pub AnswersMergeCall : List ℕ → ℕ → Option Contents → ℕ → MergeTotals → MergeTotals → List ℕ → List ℕ → Option Contents → Type 0
AnswersMergeCall words most held status totals totals' name name' held' =
    (((held ≡ None) × (status ≡ 3)) × IsUntouched held totals name totals' name' held')
    ⊎ (((held ≢ None) × AreNotRead words most status) × IsUntouched held totals name totals' name' held')
    ⊎ ((reading : Reading) × IsReadWithin words most reading × (answer : Result MergeReport ℕ)
    × GivesOfRecorder (MergesForCost reading (cost_of_reading reading)) held answer held' × IsMergeReturned reading answer status totals' name name')
