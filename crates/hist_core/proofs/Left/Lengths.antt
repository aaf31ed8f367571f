-- What is left of a call are six numbers, and does not become less for ever.
use Rattle.segment_invariant.proofs.Prelude.Std.{◌≡◌, ℕ, suc, true, false, List, length, refl, ap, Option, Some, None, get_elem?}
use mathlib.Core.Option as maybe
use mathlib.Core.Option.{some, none}
use Rattle.alloc_core.specs.declared.alloc.AllocStage.{AllocStage}
use Rattle.alloc_core.specs.declared.alloc.AllocStage.TheVariants.{LoadFlags, LoadFree, ExchangeFree, StoreSize, StoreCookie, StoreType, SetFull, Claimed, Full, Corrupt}
use Rattle.list_core.specs.declared.publish.PubStage.{PubStage}
use Rattle.list_core.specs.declared.publish.PubStage.TheVariants.{StoreOwnNext, LoadTail, Link, MoveTail, Published, Strayed}
use Rattle.hist_core.specs.declared.new_record.NewRecordStage.{NewRecordStage}
use Rattle.hist_core.specs.declared.new_record.NewRecordStage.TheVariants.{Allocating, Filling, Publishing}
use Rattle.hist_core.specs.declared.hist.Hist.{Hist as HistCall}
use Rattle.hist_core.specs.declared.hist.HistStage.{HistStage}
use Rattle.hist_core.specs.declared.hist.HistStage.TheVariants as asking
use Rattle.hist_core.specs.declared.sample_search.SampleSearch.{SampleSearch}
use Rattle.hist_core.specs.declared.sample_search.SampleSearchStage.{SampleSearchStage}
use Rattle.hist_core.specs.declared.sample_search.SampleSearchStage.TheVariants as searching
use Rattle.hist_core.specs.declared.add.Add.{Add as AddCall}
use Rattle.hist_core.specs.declared.add.AddStage.{AddStage}
use Rattle.hist_core.specs.declared.add.AddStage.TheVariants as adding
use Rattle.hist_core.specs.declared.walk.SampleWalk.{SampleWalk}
use Rattle.hist_core.specs.declared.walk.SampleWalk.TheVariants as along
use Rattle.hist_core.specs.declared.delta_call.DeltaCall.{DeltaCall}
use Rattle.hist_core.specs.declared.delta_call.DeltaStage.{DeltaStage}
use Rattle.hist_core.specs.declared.delta_call.DeltaStage.TheVariants as taking
use Rattle.hist_core.specs.declared.snapshot_call.SnapshotCall.{SnapshotCall}
use Rattle.hist_core.specs.declared.snapshot_call.SnapshotStage.{SnapshotStage}
use Rattle.hist_core.specs.declared.snapshot_call.SnapshotStage.TheVariants as looking
use Rattle.hist_core.specs.declared.actor_run.ActorRun.{ActorRun}
use Rattle.hist_core.specs.declared.actor_run.Running.{Running}
use Rattle.hist_core.specs.declared.actor_run.Running.TheVariants.{SetCorrupt, Hist, Add, Delta, Snapshot, Batch}
use Rattle.hist_core.specs.SampleSearch.{wanted_of}
use Rattle.hist_core.specs.Left.{add_left, alloc_left, delta_left, hist_left, item_left, left_of, LeftEnds, publish_left, record_left, run_left, running_left, search_left, snapshot_left, walk_left}
use Rattle.hist_core.proofs.Left.Less.{ends}

alloc_long : (words : List ℕ) (seen : ℕ) (stage : AllocStage) → length (alloc_left words seen stage) ≡ 3
alloc_long words seen LoadFlags = refl
alloc_long words seen LoadFree = refl
alloc_long words seen (ExchangeFree next purpose) = refl
alloc_long words seen (StoreSize at size purpose) = refl
alloc_long words seen (StoreCookie at size purpose) = refl
alloc_long words seen (StoreType at size) = refl
alloc_long words seen SetFull = refl
alloc_long words seen (Claimed at size) = refl
alloc_long words seen Full = refl
alloc_long words seen Corrupt = refl

publish_long : (words : List ℕ) (stage : PubStage) → length (publish_left words stage) ≡ 2
publish_long words StoreOwnNext = refl
publish_long words LoadTail = refl
publish_long words (Link tail) = refl
publish_long words (MoveTail old new true) = refl
publish_long words (MoveTail old new false) = refl
publish_long words Published = refl
publish_long words Strayed = refl

record_long : (words payload : List ℕ) (stage : NewRecordStage) → length (record_left words payload stage) ≡ 3
record_long words payload (Allocating x) = alloc_long words x.seen x.stage
record_long words payload (Filling at index) = refl
record_long words payload (Publishing x) = ap suc (publish_long words x.stage)

hist_long : (words : List ℕ) (h : HistCall) (stage : HistStage) → length (hist_left words h stage) ≡ 4
hist_long words h asking.Walking = refl
hist_long words h (asking.Comparing same) = refl
hist_long words h (asking.Making m) = ap suc (record_long words h.payload.items m.stage)

search_long : (words : List ℕ) (s : SampleSearch) (stage : SampleSearchStage) → length (search_left words s stage) ≡ 4
search_long words s searching.Walking = refl
search_long words s (searching.LoadingType at) = refl
search_long words s (searching.LoadingHistogram at) = refl
search_long words s (searching.LoadingValue at of) = refl
search_long words s (searching.Making m) = ap suc (record_long words (wanted_of s).payload m.stage)

add_long : (words : List ℕ) (call : AddCall) (stage : AddStage) → length (add_left words call stage) ≡ 5
add_long words call (adding.Sampling s) = ap suc (search_long words s s.stage)
add_long words call (adding.Allocating x) = ap (λ (n : ℕ). suc (suc n)) (alloc_long words x.seen x.stage)
add_long words call adding.LoadingSingle = refl
add_long words call (adding.Packing old new) = refl
add_long words call adding.LoadingCounts = refl
add_long words call adding.SeekingCounts = refl
add_long words call (adding.Mounting at) = refl
add_long words call (adding.Purging at counts) = refl
add_long words call (adding.LoadingAgain counts) = refl
add_long words call (adding.Disabling counts old) = refl
add_long words call (adding.Moving counts bucket units) = refl
add_long words call (adding.Counting at) = refl
add_long words call adding.Summing = refl
add_long words call adding.Noting = refl

item_long : (words : List ℕ) (item : maybe.Option AddCall) → length (item_left words item) ≡ 5
item_long words none = refl
item_long words (some item) = add_long words item item.stage

walk_long : (words : List ℕ) (histogram : ℕ) (walk : SampleWalk) → length (walk_left words histogram walk) ≡ 2
walk_long words histogram along.LoadingFirst = refl
walk_long words histogram (along.LoadingType at) = refl
walk_long words histogram (along.LoadingHistogram at) = refl
walk_long words histogram (along.LoadingValue at of) = refl
walk_long words histogram (along.LoadingNext at) = refl

delta_long : (words : List ℕ) (call : DeltaCall) (stage : DeltaStage) → length (delta_left words call stage) ≡ 3
delta_long words call taking.LoadingSingle = refl
delta_long words call (taking.LoadingCounts packed kept) = refl
delta_long words call (taking.TakingPacked bucket units) = refl
delta_long words call (taking.LoadingCount mounted bucket) = refl
delta_long words call (taking.Raising mounted bucket total) = refl
delta_long words call (taking.Walking walk) = ap suc (walk_long words call.histogram walk)
delta_long words call (taking.LoadingSample at value) = refl
delta_long words call (taking.RaisingSample at value count) = refl
delta_long words call taking.LoadingSum = refl
delta_long words call (taking.Swapping sum) = refl

snapshot_long : (words : List ℕ) (call : SnapshotCall) (stage : SnapshotStage) → length (snapshot_left words call stage) ≡ 3
snapshot_long words call looking.LoadingSingle = refl
snapshot_long words call (looking.LoadingCounts packed kept) = refl
snapshot_long words call (looking.LoadingCount mounted bucket) = refl
snapshot_long words call (looking.Walking walk) = ap suc (walk_long words call.histogram walk)
snapshot_long words call (looking.LoadingSample at value) = refl
snapshot_long words call looking.LoadingSum = refl
snapshot_long words call (looking.LoadingRedundant sum) = refl

running_long : (words : List ℕ) (running : Option Running) → length (running_left words running) ≡ 6
running_long words None = refl
running_long words (Some SetCorrupt) = refl
running_long words (Some (Hist h)) = ap (λ (n : ℕ). suc (suc n)) (hist_long words h h.stage)
running_long words (Some (Add call)) = ap suc (add_long words call call.stage)
running_long words (Some (Batch call)) = ap suc (item_long words (get_elem? call.items.items call.added))
running_long words (Some (Delta call fresh)) = ap (λ (n : ℕ). suc (suc (suc n))) (delta_long words call call.stage)
running_long words (Some (Snapshot call)) = ap (λ (n : ℕ). suc (suc (suc n))) (snapshot_long words call call.stage)

run_long : (words : List ℕ) (actor_run : maybe.Option ActorRun) → length (run_left words actor_run) ≡ 6
run_long words none = refl
run_long words (some r) = running_long words r.running

pub left_ends : LeftEnds
left_ends worlds actor less =
    ends 6 (λ n. left_of (worlds n) actor) (λ n. run_long (worlds n).words.items (get_elem? (worlds n).actor_runs.items actor)) less
