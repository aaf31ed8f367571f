-- The word that the next event of an actor loads, if it is a load.
use Rattle.std.specs.Prelude.{ℕ, ◌+◌, ◌^◌, ◌&&◌, nat_lt, if◌then◌else◌, Option, Some, None}
use mathlib.Core.Option as maybe
use mathlib.Core.Option.{some, none}
use lib.ListN.{get_elem?}
use Rattle.segment_image.specs.declared.layout.TheConstants.{BLOCK_HEADER, BLOCK_NEXT, BLOCK_TYPE, HISTOGRAM_COUNTS, HISTOGRAM_REDUNDANT, HISTOGRAM_SINGLE, HISTOGRAM_SUM, SAMPLE_COUNT, SAMPLE_HISTOGRAM, SAMPLE_VALUE}
use Rattle.alloc_core.specs.Event.Access.{load}
use Rattle.alloc_core.specs.Load.{load_of}
use Rattle.alloc_core.specs.Alloc as alloc
use Rattle.list_core.specs.Publish as publish
use Rattle.hist_core.specs.declared.new_record.NewRecordStage.{NewRecordStage}
use Rattle.hist_core.specs.declared.new_record.NewRecordStage.TheVariants as new_record
use Rattle.hist_core.specs.declared.sample_search.SampleSearch.{SampleSearch}
use Rattle.hist_core.specs.declared.sample_search.SampleSearchStage.{SampleSearchStage}
use Rattle.hist_core.specs.declared.sample_search.SampleSearchStage.TheVariants as sample_search
use Rattle.hist_core.specs.declared.add.Add.{Add}
use Rattle.hist_core.specs.declared.add.AddStage.{AddStage}
use Rattle.hist_core.specs.declared.add.AddStage.TheVariants as adding
use Rattle.hist_core.specs.declared.hist.Hist.{Hist}
use Rattle.hist_core.specs.declared.hist.HistStage.{HistStage}
use Rattle.hist_core.specs.declared.hist.HistStage.TheVariants as asking
use Rattle.hist_core.specs.declared.delta_call.DeltaStage.{DeltaStage}
use Rattle.hist_core.specs.declared.delta_call.DeltaStage.TheVariants as taking
use Rattle.hist_core.specs.declared.snapshot_call.SnapshotStage.{SnapshotStage}
use Rattle.hist_core.specs.declared.snapshot_call.SnapshotStage.TheVariants as viewing
use Rattle.hist_core.specs.declared.actor_run.Running.{Running}
use Rattle.hist_core.specs.declared.actor_run.Running.TheVariants as runs
use Rattle.hist_core.specs.declared.actor_run.ActorRun.{ActorRun}
use Rattle.hist_core.specs.declared.world_state.WorldState.{WorldState}
use Rattle.hist_core.specs.Hist.{compared_index}
use Rattle.hist_core.specs.Walk.{spot_of}

-- a load of this word
abbrev pub loads : ℕ → Option ℕ
loads at = load_of (Some (load at))

-- the word that is loaded next for a new record, when its words are claimed or when it is put on the list
abbrev pub new_record_load : NewRecordStage → Option ℕ
new_record_load (new_record.Allocating allocation) = load_of (alloc.next_event allocation)
new_record_load (new_record.Filling at index) = None
new_record_load (new_record.Publishing publishing) = load_of (publish.next_event publishing)

-- the word that a search for a sample loads next: the next of the block where its walk is; the type, the histogram or the value of a
-- record; or a word for the sample that it makes
abbrev pub sample_search_load : SampleSearch → SampleSearchStage → Option ℕ
sample_search_load s sample_search.Walking = loads (s.walk + BLOCK_NEXT)
sample_search_load s (sample_search.LoadingType at) = loads (at + BLOCK_TYPE)
sample_search_load s (sample_search.LoadingHistogram at) = loads (at + SAMPLE_HISTOGRAM)
sample_search_load s (sample_search.LoadingValue at of) = loads (at + SAMPLE_VALUE)
sample_search_load s (sample_search.Making m) = new_record_load m.stage

-- the word that an `add` loads next: the single word, the counts reference, or a word of its claim or of its search for a sample
abbrev pub add_load : Add → AddStage → Option ℕ
add_load add adding.LoadingSingle = loads (add.histogram + HISTOGRAM_SINGLE)
add_load add adding.LoadingCounts = loads (add.histogram + HISTOGRAM_COUNTS)
add_load add adding.SeekingCounts = loads (add.histogram + HISTOGRAM_COUNTS)
add_load add (adding.LoadingAgain counts) = loads (add.histogram + HISTOGRAM_SINGLE)
add_load add (adding.Allocating allocation) = load_of (alloc.next_event allocation)
add_load add (adding.Sampling s) = sample_search_load s s.stage
add_load add _ = None

-- the word of a record that is compared as number k, if k and the number of words of the name are below 2^60, as in every record
abbrev pub compared_load : Hist → ℕ → Option ℕ
compared_load hist k =
    if nat_lt k (2 ^ 60) && nat_lt hist.letters (2 ^ 60) then loads (hist.reference + compared_index hist.letters k) else None

-- the word that a `hist` loads next: the next of the block where its walk is, a word of the record there, or a word for the record that it
-- makes
abbrev pub hist_load : Hist → HistStage → Option ℕ
hist_load hist asking.Walking = loads (hist.walk + BLOCK_NEXT)
hist_load hist (asking.Comparing same) = compared_load hist same
hist_load hist (asking.Making m) = new_record_load m.stage

-- the word that a `delta` of a histogram loads next: the single word, the counts reference, a count, a word of its walk, the count of a
-- sample, or the sum
abbrev pub delta_load : ℕ → DeltaStage → Option ℕ
delta_load histogram taking.LoadingSingle = loads (histogram + HISTOGRAM_SINGLE)
delta_load histogram (taking.LoadingCounts packed kept) = loads (histogram + HISTOGRAM_COUNTS)
delta_load histogram (taking.LoadingCount mounted bucket) = loads (mounted.counts + (BLOCK_HEADER + bucket))
delta_load histogram (taking.Walking walk) = loads (spot_of histogram walk)
delta_load histogram (taking.LoadingSample at value) = loads (at + SAMPLE_COUNT)
delta_load histogram taking.LoadingSum = loads (histogram + HISTOGRAM_SUM)
delta_load histogram _ = None

-- the word that a `snapshot` of a histogram loads next: the single word, the counts reference, a count, a word of its walk, the count of a
-- sample, the sum, or the redundant count
abbrev pub snapshot_load : ℕ → SnapshotStage → Option ℕ
snapshot_load histogram viewing.LoadingSingle = loads (histogram + HISTOGRAM_SINGLE)
snapshot_load histogram (viewing.LoadingCounts packed kept) = loads (histogram + HISTOGRAM_COUNTS)
snapshot_load histogram (viewing.LoadingCount mounted bucket) = loads (mounted.counts + (BLOCK_HEADER + bucket))
snapshot_load histogram (viewing.Walking walk) = loads (spot_of histogram walk)
snapshot_load histogram (viewing.LoadingSample at value) = loads (at + SAMPLE_COUNT)
snapshot_load histogram viewing.LoadingSum = loads (histogram + HISTOGRAM_SUM)
snapshot_load histogram (viewing.LoadingRedundant sum) = loads (histogram + HISTOGRAM_REDUNDANT)

-- the word that a `batch` loads next: that of the item that it counts next
abbrev pub item_load : maybe.Option Add → Option ℕ
item_load none = None
item_load (some add) = add_load add add.stage

-- the word that a running call loads next
abbrev pub running_load : Option Running → Option ℕ
running_load (Some (runs.Hist hist)) = hist_load hist hist.stage
running_load (Some (runs.Add add)) = add_load add add.stage
running_load (Some (runs.Batch batch)) = item_load (get_elem? batch.items.items batch.added)
running_load (Some (runs.Delta delta_call fresh)) = delta_load delta_call.histogram delta_call.stage
running_load (Some (runs.Snapshot snapshot_call)) = snapshot_load snapshot_call.histogram snapshot_call.stage
running_load (Some runs.SetCorrupt) = None
running_load None = None

-- the word that an actor loads next; one that is not there loads none
abbrev pub run_load : maybe.Option ActorRun → Option ℕ
run_load none = None
run_load (some actor_run) = running_load actor_run.running

-- the word that an actor of a world loads next
abbrev pub next_load : WorldState → ℕ → Option ℕ
next_load world_state actor = run_load (get_elem? world_state.actor_runs.items actor)
