-- What a merge by a handle adds, and what it returns.
use Rattle.std.specs.Prelude.{◌≡◌, ◌⊎◌, ◌<◌, ◌≤◌, ◌-◌, ◌++◌, true, false, min, ℕ, List, drop, length, sum_by, take, Result, Ok, Err, MatchOption, MatchResult}
use Rattle.segment_image.specs.Head.{header_of}
use Rattle.segment_image.specs.declared.head.SegmentHead.{SegmentHead}
use Rattle.segment_calls.specs.declared.refusal.Refusal.{Refusal}
use Rattle.segment_calls.specs.declared.refusal.Refusal.TheVariants.{NoMemory}
use Rattle.bucket_ranges.specs.Reading.{IsReading}
use Rattle.image_reader.specs.Keys.{HasMoreKeys}
use Rattle.image_reader.specs.Views.{histogram_view, reading_view}
use Rattle.image_reader.specs.declared.reading.HistReading.{HistReading}
use Rattle.image_reader.specs.declared.reading.Reading.{Reading}
use Rattle.image_rules.specs.Adoption.{used_by}
use Rattle.bucket_ranges.specs.declared.limits.TheConstants.{MAX_UNITS}
use Rattle.live_segment.specs.RecorderState.{KnowsOn, view_of_state}
use Rattle.owned_recorder.specs.Holders.{view_of_owned}
use Rattle.owned_recorder.specs.declared.owned.OwnedRecorder.{OwnedRecorder}
use Rattle.segment_merge.specs.Merge.{Reports, cost_left, units_left}
use Rattle.segment_merge.specs.declared.merging.MergeReport.{MergeReport}
use Rattle.povundiri_c.specs.declared.types.MergeTotals.{MergeTotals}
use Rattle.povundiri_c.specs.Reports.{SayKeys}
use Rattle.povundiri_c.specs.Status.{status_of_image_fault, status_of_refusal}

-- ---- the words

-- what the words read as, which is no more than this many keys
pub record IsReadWithin (words : List ℕ) (most : ℕ) (reading : Reading) : Type 0 where
  pub head : SegmentHead
  pub head_is : header_of words ≡ Ok head
  pub reading_is : IsReading words head (reading_view reading)
  pub few : SayKeys words most false

-- Why words are not read: their header has this fault; or they read as more keys; or memory ran out.
abbrev pub AreNotRead : List ℕ → ℕ → ℕ → Type 0
AreNotRead words most status =
    MatchResult (header_of words) (λ head. ((status ≡ 17) × HasMoreKeys words head most true) ⊎ (status ≡ 513))
    (λ fault. status ≡ status_of_image_fault fault)

-- ---- what a reading has

-- the units that no delta took of its histograms, and what it costs to add them, or the greatest `u64` if these are more
abbrev pub units_of_reading : Reading → ℕ
units_of_reading reading = min (sum_by (λ h. units_left (histogram_view h)) reading.hists.items) 18446744073709551615

abbrev pub cost_of_reading : Reading → ℕ
cost_of_reading reading = min (sum_by (λ h. cost_left (histogram_view h)) reading.hists.items) 18446744073709551615

-- the units that its histograms have not used, as adoption counts them
abbrev pub units_unspent : List HistReading → ℕ
units_unspent hists = MAX_UNITS - min (sum_by (λ h. used_by (histogram_view h)) hists) 18446744073709551615

-- what is returned of it: so many units were added, and the merge stopped after so many items of a histogram whose name is so long
abbrev pub merge_totals : Reading → ℕ → ℕ → ℕ → MergeTotals
merge_totals reading added items length = record {
  added = added;
  left = units_of_reading reading - added;
  cost = cost_of_reading reading;
  unspent = units_unspent reading.hists.items;
  items = items;
  passed = 0;
  name_length = length;
  full = reading.full;
  corrupt = reading.corrupt;
}

-- ---- what a recorder does

-- A recorder adds what no delta took of a reading, as `segment_merge::merge` says; or memory ran out, and it is unchanged.
abbrev pub MergesReading : Reading → OwnedRecorder → Result MergeReport Refusal → OwnedRecorder → Type 0
MergesReading reading old answer new =
    (new.segment ≡ old.segment) × KnowsOn old.state new.state
    × MatchResult answer (λ report. Reports (reading_view reading).hists report (view_of_owned old) (view_of_owned new))
    (λ why. (why ≡ NoMemory) × (new.state ≡ old.state))

-- an answer of it with the status that memory ran out
abbrev pub with_no_memory : {A : Type 0} → Result A Refusal → Result A ℕ
with_no_memory (Ok value) = Ok value
with_no_memory (Err why) = Err 13

-- If a recorder may spend fewer units than this, that is returned, and it is unchanged; else it adds the reading.
abbrev pub MergesForCost : Reading → ℕ → OwnedRecorder → Result MergeReport ℕ → OwnedRecorder → Type 0
MergesForCost reading cost old given new =
    ((view_of_state old.state).units.share < cost → (given ≡ Err 104) × (new ≡ old))
    × (cost ≤ (view_of_state old.state).units.share
    → (answer : Result MergeReport Refusal) × (given ≡ with_no_memory answer) × MergesReading reading old answer new)

-- ---- what is returned

-- the units that were added to the histograms that were reached, or the greatest `u64` if these are more
abbrev pub units_added : MergeReport → ℕ
units_added report = min (sum_by (λ line. line.1) report.added.items) 18446744073709551615

-- as much of a name as an array has room for is at its front, and what comes after that is unchanged
abbrev pub IsNamePut : List ℕ → List ℕ → List ℕ → Type 0
IsNamePut name old new = (n : ℕ) × (n ≡ min (length name) (length old)) × (new ≡ take n name ++ drop n old)

-- A report is returned: 0, or the status of what stopped the merge, with the name of the histogram and how many of its items were counted.
abbrev pub IsMergeReported : Reading → MergeReport → ℕ → MergeTotals → List ℕ → List ℕ → Type 0
IsMergeReported reading report status totals name name' =
    MatchOption report.stopped ((status ≡ 0) × (totals ≡ merge_totals reading (units_added report) 0 0) × (name' ≡ name))
    (λ stop. (status ≡ status_of_refusal stop.why)
    × (totals ≡ merge_totals reading (units_added report) stop.items (length stop.name.items)) × IsNamePut stop.name.items name name')

-- The same of a merge that may not have begun: then the status says why, and nothing was added.
abbrev pub IsMergeReturned : Reading → Result MergeReport ℕ → ℕ → MergeTotals → List ℕ → List ℕ → Type 0
IsMergeReturned reading (Ok report) status totals name name' = IsMergeReported reading report status totals name name'
IsMergeReturned reading (Err why) status totals name name' = (status ≡ why) × (totals ≡ merge_totals reading 0 0 0) × (name' ≡ name)
