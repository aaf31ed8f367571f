-- What is left of a running call: numbers that each event of the call makes less, as long as the call continues. They are read off the words
-- and the call alone. So only an event of another actor can make them more, by a word that it changes.
use Rattle.std.specs.Prelude.{◌≡◌, ◌≢◌, ℕ, zero, suc, ◌+◌, ◌-◌, ◌<◌, ◌==◌, ◌||◌, ◌&&◌, nat_lt, Bool, true, false, List, [], ◌∷◌, length, Option, Some, None, if◌then◌else◌, ⊤}
use mathlib.Core.Option as maybe
use mathlib.Core.Option.{some, none}
use lib.ListN.{get_elem?}
use Rattle.segment_image.specs.Words.{word_at}
use Rattle.segment_image.specs.declared.layout.TheConstants.{BLOCK_NEXT, FREE_WORD, HISTOGRAM_SINGLE, QUEUE, SAMPLE_MARK, TAIL_WORD}
use Rattle.alloc_core.specs.declared.alloc.AllocStage.{AllocStage}
use Rattle.alloc_core.specs.declared.alloc.AllocStage.TheVariants.{LoadFlags, LoadFree, ExchangeFree, StoreSize, StoreCookie, StoreType, SetFull}
use Rattle.list_core.specs.Chain.{is_reference, AreNeighbours, IsLinked, IsStop}
use Rattle.list_core.specs.declared.publish.PubStage.{PubStage}
use Rattle.list_core.specs.declared.publish.PubStage.TheVariants.{StoreOwnNext, LoadTail, Link, MoveTail}
use Rattle.hist_core.specs.declared.new_record.NewRecord.{NewRecord}
use Rattle.hist_core.specs.declared.new_record.NewRecordStep.{NewRecordStep}
use Rattle.hist_core.specs.declared.new_record.NewRecordStep.TheVariants as made
use Rattle.hist_core.specs.declared.new_record.NewRecordStage.{NewRecordStage}
use Rattle.hist_core.specs.declared.new_record.NewRecordStage.TheVariants.{Allocating, Filling, Publishing}
use Rattle.hist_core.specs.declared.hist.Hist.{Hist as HistCall}
use Rattle.hist_core.specs.declared.hist.HistStep.{HistStep}
use Rattle.hist_core.specs.declared.hist.HistStep.TheVariants as hist
use Rattle.hist_core.specs.declared.hist.HistStage.{HistStage}
use Rattle.hist_core.specs.declared.hist.HistStage.TheVariants as asking
use Rattle.hist_core.specs.declared.sample_search.SampleSearch.{SampleSearch}
use Rattle.hist_core.specs.declared.sample_search.SampleSearchStep.{SampleSearchStep}
use Rattle.hist_core.specs.declared.sample_search.SampleSearchStep.TheVariants as search
use Rattle.hist_core.specs.declared.sample_search.SampleSearchStage.{SampleSearchStage}
use Rattle.hist_core.specs.declared.sample_search.SampleSearchStage.TheVariants as searching
use Rattle.hist_core.specs.declared.add.Add.{Add as AddCall}
use Rattle.hist_core.specs.declared.add.AddStep.{AddStep}
use Rattle.hist_core.specs.declared.add.AddStep.TheVariants as add
use Rattle.hist_core.specs.declared.add.AddStage.{AddStage}
use Rattle.hist_core.specs.declared.add.AddStage.TheVariants as adding
use Rattle.hist_core.specs.declared.batch.Batch.{Batch as BatchCall}
use Rattle.hist_core.specs.declared.batch.BatchStep.{BatchStep}
use Rattle.hist_core.specs.declared.batch.BatchStep.TheVariants as batch
use Rattle.hist_core.specs.declared.walk.SampleWalk.{SampleWalk}
use Rattle.hist_core.specs.declared.walk.SampleWalk.TheVariants as along
use Rattle.hist_core.specs.declared.delta_call.DeltaCall.{DeltaCall}
use Rattle.hist_core.specs.declared.delta_call.DeltaCallStep.{DeltaCallStep}
use Rattle.hist_core.specs.declared.delta_call.DeltaCallStep.TheVariants as take_step
use Rattle.hist_core.specs.declared.delta_call.DeltaStage.{DeltaStage}
use Rattle.hist_core.specs.declared.delta_call.DeltaStage.TheVariants as taking
use Rattle.hist_core.specs.declared.snapshot_call.SnapshotCall.{SnapshotCall}
use Rattle.hist_core.specs.declared.snapshot_call.SnapshotCallStep.{SnapshotCallStep}
use Rattle.hist_core.specs.declared.snapshot_call.SnapshotCallStep.TheVariants as look
use Rattle.hist_core.specs.declared.snapshot_call.SnapshotStage.{SnapshotStage}
use Rattle.hist_core.specs.declared.snapshot_call.SnapshotStage.TheVariants as looking
use Rattle.hist_core.specs.declared.call.Stepped.{Stepped}
use Rattle.hist_core.specs.declared.call.Stepped.TheVariants.{More, Done}
use Rattle.hist_core.specs.declared.actor_run.Running.{Running}
use Rattle.hist_core.specs.declared.actor_run.Running.TheVariants.{Hist, Add, Delta, Snapshot, Batch}
use Rattle.hist_core.specs.declared.actor_run.ActorRun.{ActorRun}
use Rattle.hist_core.specs.declared.world_state.WorldState.{WorldState}
use Rattle.hist_core.specs.Hist.{comparisons}
use Rattle.hist_core.specs.SampleSearch.{wanted_of}

-- ---- numbers that are less

-- of two lists of numbers one is less if it has the smaller number where they first differ
abbrev pub is_less : List ℕ → List ℕ → Bool
is_less [] list = false
is_less (x ∷ xs) [] = false
is_less (x ∷ xs) (y ∷ ys) = nat_lt x y || ((x == y) && is_less xs ys)

-- ---- what is left of the segment

-- the words from the free pointer to the end of the segment
abbrev pub room : List ℕ → ℕ
room words = length words - word_at words FREE_WORD

-- how many records come after a block until the end of the list, or `most` if that is less
abbrev pub ahead_of : ℕ → List ℕ → ℕ → ℕ
ahead_of zero words at = 0
ahead_of (suc most) words at = if word_at words (at + BLOCK_NEXT) == QUEUE then 0 else suc (ahead_of most words (word_at words (at + BLOCK_NEXT)))

-- how many records come after a block until the end of the list, which are fewer than the words
abbrev pub ahead : List ℕ → ℕ → ℕ
ahead words at = ahead_of (length words) words at

-- ---- what is left of a new record: the part of the call, and two numbers in that part

-- Of an allocation that loaded this free pointer: it stores the header of the words that it took (5), or it tries to take words (1). Four
-- events are left if the exchange of the free pointer will come too late.
abbrev pub alloc_left : List ℕ → ℕ → AllocStage → List ℕ
alloc_left words seen LoadFlags = 1 ∷ 3 ∷ 0 ∷ []
alloc_left words seen LoadFree = 1 ∷ 2 ∷ 0 ∷ []
alloc_left words seen (ExchangeFree next purpose) = 1 ∷ (if word_at words FREE_WORD == seen then 1 else 4) ∷ 0 ∷ []
alloc_left words seen SetFull = 1 ∷ 0 ∷ 0 ∷ []
alloc_left words seen (StoreSize at size purpose) = 5 ∷ 2 ∷ 0 ∷ []
alloc_left words seen (StoreCookie at size purpose) = 5 ∷ 1 ∷ 0 ∷ []
alloc_left words seen (StoreType at size) = 5 ∷ 0 ∷ 0 ∷ []
alloc_left words seen _ = 0 ∷ 0 ∷ 0 ∷ []

-- Of a publish: the records after the tail, and the events until it has moved the tail, of which more are left if the tail is no longer the
-- one that it loaded. At first more is left than there can be records, and nothing once its record is linked.
abbrev pub publish_left : List ℕ → PubStage → List ℕ
publish_left words StoreOwnNext = suc (length words) ∷ 0 ∷ []
publish_left words LoadTail = ahead words (word_at words TAIL_WORD) ∷ 2 ∷ []
publish_left words (Link tail) = ahead words (word_at words TAIL_WORD) ∷ (if word_at words TAIL_WORD == tail then 1 else 4) ∷ []
publish_left words (MoveTail old new false) = ahead words (word_at words TAIL_WORD) ∷ (if word_at words TAIL_WORD == old then 0 else 3) ∷ []
publish_left words _ = 0 ∷ 0 ∷ []

-- of a record with such a payload: it claims its words, stores the payload there (4), and publishes it (3)
abbrev pub record_left : List ℕ → List ℕ → NewRecordStage → List ℕ
record_left words payload (Allocating allocation) = alloc_left words allocation.seen allocation.stage
record_left words payload (Filling at index) = 4 ∷ (length payload - index) ∷ 0 ∷ []
record_left words payload (Publishing publish) = 3 ∷ publish_left words publish.stage

-- ---- what is left of a call

-- Of a `hist`: the room in the segment; then its part. After it has made a record and before it takes words for another it walks (2): the
-- records ahead, and the words of the record where it is that it has not compared.
abbrev pub hist_left : List ℕ → HistCall → HistStage → List ℕ
hist_left words h asking.Walking = room words ∷ 2 ∷ ahead words h.walk ∷ 0 ∷ []
hist_left words h (asking.Comparing same) = room words ∷ 2 ∷ ahead words h.walk ∷ suc (comparisons h - same) ∷ []
hist_left words h (asking.Making new_record) = room words ∷ record_left words h.payload.items new_record.stage

-- of a search for a sample: in the same way
abbrev pub search_left : List ℕ → SampleSearch → SampleSearchStage → List ℕ
search_left words s searching.Walking = room words ∷ 2 ∷ ahead words s.walk ∷ 0 ∷ []
search_left words s (searching.LoadingType at) = room words ∷ 2 ∷ ahead words s.walk ∷ 3 ∷ []
search_left words s (searching.LoadingHistogram at) = room words ∷ 2 ∷ ahead words s.walk ∷ 2 ∷ []
search_left words s (searching.LoadingValue at of) = room words ∷ 2 ∷ ahead words s.walk ∷ 1 ∷ []
search_left words s (searching.Making new_record) = room words ∷ record_left words (wanted_of s).payload new_record.stage

-- Of an `add`: its stage, from a search or the single word on to the redundant count; and the numbers of the search or of the claim of the
-- counts. Where it packs its units or disables the single word, it tries again if that is no more what it loaded.
abbrev pub add_left : List ℕ → AddCall → AddStage → List ℕ
add_left words call (adding.Sampling sample_search) = 10 ∷ search_left words sample_search sample_search.stage
add_left words call adding.LoadingSingle = 9 ∷ 2 ∷ 0 ∷ 0 ∷ 0 ∷ []
add_left words call (adding.Packing old new) = 9 ∷ (if word_at words (call.histogram + HISTOGRAM_SINGLE) == old then 1 else 3) ∷ 0 ∷ 0 ∷ 0 ∷ []
add_left words call adding.LoadingCounts = 8 ∷ 0 ∷ 0 ∷ 0 ∷ 0 ∷ []
add_left words call adding.SeekingCounts = 8 ∷ 0 ∷ 0 ∷ 0 ∷ 0 ∷ []
add_left words call (adding.Allocating allocation) = 7 ∷ room words ∷ alloc_left words allocation.seen allocation.stage
add_left words call (adding.Mounting at) = 6 ∷ 0 ∷ 0 ∷ 0 ∷ 0 ∷ []
add_left words call (adding.Purging at counts) = 5 ∷ 0 ∷ 0 ∷ 0 ∷ 0 ∷ []
add_left words call (adding.LoadingAgain counts) = 4 ∷ 2 ∷ 0 ∷ 0 ∷ 0 ∷ []
add_left words call (adding.Disabling counts old) = 4 ∷ (if word_at words (call.histogram + HISTOGRAM_SINGLE) == old then 1 else 3) ∷ 0 ∷ 0 ∷ 0 ∷ []
add_left words call (adding.Moving counts bucket units) = 3 ∷ 0 ∷ 0 ∷ 0 ∷ 0 ∷ []
add_left words call (adding.Counting at) = 2 ∷ 0 ∷ 0 ∷ 0 ∷ 0 ∷ []
add_left words call adding.Summing = 1 ∷ 0 ∷ 0 ∷ 0 ∷ 0 ∷ []
add_left words call adding.Noting = 0 ∷ 0 ∷ 0 ∷ 0 ∷ 0 ∷ []

-- of an item of a batch, if there is one more
abbrev pub item_left : List ℕ → maybe.Option AddCall → List ℕ
item_left words none = 0 ∷ 0 ∷ 0 ∷ 0 ∷ 0 ∷ []
item_left words (some item) = add_left words item item.stage

-- of a `batch`: the items that are not counted, and what is left of the next one
abbrev pub batch_left : List ℕ → BatchCall → List ℕ
batch_left words call = (length call.items.items - call.added) ∷ item_left words (get_elem? call.items.items call.added)

-- of a walk along the samples of a histogram: the records ahead, and what it still loads of the one where it is
abbrev pub walk_left : List ℕ → ℕ → SampleWalk → List ℕ
walk_left words histogram along.LoadingFirst = ahead words histogram ∷ 0 ∷ []
walk_left words histogram (along.LoadingType at) = ahead words at ∷ 5 ∷ []
walk_left words histogram (along.LoadingHistogram at) = ahead words at ∷ 4 ∷ []
walk_left words histogram (along.LoadingValue at of) = ahead words at ∷ 3 ∷ []
walk_left words histogram (along.LoadingNext at) = ahead words at ∷ 0 ∷ []

-- of a delta: its stage, from the single word or a walk on to the sum; and the buckets that it has not looked at, or what is left of its walk
abbrev pub delta_left : List ℕ → DeltaCall → DeltaStage → List ℕ
delta_left words call taking.LoadingSingle = 5 ∷ 0 ∷ 0 ∷ []
delta_left words call (taking.LoadingCounts packed kept) = 4 ∷ 0 ∷ 0 ∷ []
delta_left words call (taking.TakingPacked bucket units) = 3 ∷ 0 ∷ 0 ∷ []
delta_left words call (taking.LoadingCount mounted bucket) = 3 ∷ (length call.ranges - 1 - bucket) ∷ 1 ∷ []
delta_left words call (taking.Raising mounted bucket total) = 3 ∷ (length call.ranges - 1 - bucket) ∷ 0 ∷ []
delta_left words call (taking.Walking walk) = 2 ∷ walk_left words call.histogram walk
delta_left words call (taking.LoadingSample at value) = 2 ∷ ahead words at ∷ 2 ∷ []
delta_left words call (taking.RaisingSample at value count) = 2 ∷ ahead words at ∷ 1 ∷ []
delta_left words call taking.LoadingSum = 1 ∷ 0 ∷ 0 ∷ []
delta_left words call (taking.Swapping sum) = 0 ∷ 0 ∷ 0 ∷ []

-- of a snapshot: in the same way, to the redundant count
abbrev pub snapshot_left : List ℕ → SnapshotCall → SnapshotStage → List ℕ
snapshot_left words call looking.LoadingSingle = 5 ∷ 0 ∷ 0 ∷ []
snapshot_left words call (looking.LoadingCounts packed kept) = 4 ∷ 0 ∷ 0 ∷ []
snapshot_left words call (looking.LoadingCount mounted bucket) = 3 ∷ (length call.totals.items - bucket) ∷ 0 ∷ []
snapshot_left words call (looking.Walking walk) = 2 ∷ walk_left words call.histogram walk
snapshot_left words call (looking.LoadingSample at value) = 2 ∷ ahead words at ∷ 2 ∷ []
snapshot_left words call looking.LoadingSum = 1 ∷ 0 ∷ 0 ∷ []
snapshot_left words call (looking.LoadingRedundant sum) = 0 ∷ 0 ∷ 0 ∷ []

-- of a running call: six numbers, with zeros in front
abbrev pub running_left : List ℕ → Option Running → List ℕ
running_left words (Some (Hist call)) = 0 ∷ 0 ∷ hist_left words call call.stage
running_left words (Some (Add call)) = 0 ∷ add_left words call call.stage
running_left words (Some (Batch call)) = batch_left words call
running_left words (Some (Delta call fresh)) = 0 ∷ 0 ∷ 0 ∷ delta_left words call call.stage
running_left words (Some (Snapshot call)) = 0 ∷ 0 ∷ 0 ∷ snapshot_left words call call.stage
running_left words _ = 0 ∷ 0 ∷ 0 ∷ 0 ∷ 0 ∷ 0 ∷ []

-- of the call of an actor, if that is there
abbrev pub run_left : List ℕ → maybe.Option ActorRun → List ℕ
run_left words none = running_left words None
run_left words (some actor_run) = running_left words actor_run.running

-- what is left of the call of an actor of a world
abbrev pub left_of : WorldState → ℕ → List ℕ
left_of world_state actor = run_left world_state.words.items (get_elem? world_state.actor_runs.items actor)

-- What is left of a call does not become less for ever.
abbrev pub LeftEnds : Type 0
LeftEnds = (worlds : ℕ → WorldState) (actor : ℕ) → ((n : ℕ) → is_less (left_of (worlds (suc n)) actor) (left_of (worlds n) actor) ≡ true) → ⊥

-- It stays while the words and the actor are the same, whatever other actors do.
abbrev pub LeftStays : Type 0
LeftStays = (old new : WorldState) (actor : ℕ) → new.words.items ≡ old.words.items → get_elem? new.actor_runs.items actor ≡ get_elem? old.actor_runs.items actor
    → left_of new actor ≡ left_of old actor

-- ---- where a call is on the list

-- The words have a list along a chain, which has fewer records than there are words, and whose stops are references.
pub record LeadsAlong (words chain : List ℕ) : Type 0 where
  pub linked : IsLinked words chain
  pub few : length chain < length words
  pub references : (at : ℕ) → IsStop chain at → is_reference (length words) at ≡ true

-- a publish that came too late has found the record after a stop
abbrev pub PublishIsOn : List ℕ → PubStage → Type 0
PublishIsOn chain (MoveTail old new false) = AreNeighbours chain old new
PublishIsOn chain _ = ⊤

-- so has one of a new record
abbrev pub RecordIsOn : List ℕ → NewRecordStage → Type 0
RecordIsOn chain (Publishing publish) = PublishIsOn chain publish.stage
RecordIsOn chain _ = ⊤

-- a `hist` is at a stop, or makes its record
abbrev pub HistIsOn : List ℕ → HistCall → HistStage → Type 0
HistIsOn chain h (asking.Making new_record) = RecordIsOn chain new_record.stage
HistIsOn chain h _ = IsStop chain h.walk

-- a search is at a stop
abbrev pub SearchIsOn : List ℕ → SampleSearch → SampleSearchStage → Type 0
SearchIsOn chain s (searching.Making new_record) = RecordIsOn chain new_record.stage
SearchIsOn chain s _ = IsStop chain s.walk

-- an `add` looks for its sample at a stop
abbrev pub AddIsOn : List ℕ → AddStage → Type 0
AddIsOn chain (adding.Sampling sample_search) = SearchIsOn chain sample_search sample_search.stage
AddIsOn chain _ = ⊤

-- so does the next item of a batch
abbrev pub ItemIsOn : List ℕ → maybe.Option AddCall → Type 0
ItemIsOn chain none = ⊤
ItemIsOn chain (some item) = AddIsOn chain item.stage

-- a walk along samples is at a stop
abbrev pub WalkIsOn : List ℕ → ℕ → SampleWalk → Type 0
WalkIsOn chain histogram along.LoadingFirst = IsStop chain histogram
WalkIsOn chain histogram (along.LoadingType at) = IsStop chain at
WalkIsOn chain histogram (along.LoadingHistogram at) = IsStop chain at
WalkIsOn chain histogram (along.LoadingValue at of) = IsStop chain at
WalkIsOn chain histogram (along.LoadingNext at) = IsStop chain at

-- a delta is at a stop; the mark of a sample is the next of none
abbrev pub DeltaIsOn : List ℕ → ℕ → DeltaStage → Type 0
DeltaIsOn chain histogram (taking.Walking walk) = WalkIsOn chain histogram walk
DeltaIsOn chain histogram (taking.LoadingSample at value) = IsStop chain at
DeltaIsOn chain histogram (taking.RaisingSample at value count) = IsStop chain at × ((stop : ℕ) → IsStop chain stop → stop + BLOCK_NEXT ≢ at + SAMPLE_MARK)
DeltaIsOn chain histogram _ = ⊤

-- a snapshot is at a stop
abbrev pub SnapshotIsOn : List ℕ → ℕ → SnapshotStage → Type 0
SnapshotIsOn chain histogram (looking.Walking walk) = WalkIsOn chain histogram walk
SnapshotIsOn chain histogram (looking.LoadingSample at value) = IsStop chain at
SnapshotIsOn chain histogram _ = ⊤

-- where a running call is on the list
abbrev pub RunningIsOn : List ℕ → Option Running → Type 0
RunningIsOn chain (Some (Hist call)) = HistIsOn chain call call.stage
RunningIsOn chain (Some (Add call)) = AddIsOn chain call.stage
RunningIsOn chain (Some (Batch call)) = ItemIsOn chain (get_elem? call.items.items call.added)
RunningIsOn chain (Some (Delta call fresh)) = DeltaIsOn chain call.histogram call.stage
RunningIsOn chain (Some (Snapshot call)) = SnapshotIsOn chain call.histogram call.stage
RunningIsOn chain _ = ⊤

-- ---- what a step leaves

-- a step for a new record leaves less, also of its call, which walks once the record is made
abbrev pub RecordLowers : List ℕ → NewRecord → List ℕ → NewRecord → List ℕ → NewRecordStep → Type 0
RecordLowers payload old words new new_words made.More =
    (chain : List ℕ) → LeadsAlong words chain → RecordIsOn chain old.stage
    → is_less (room new_words ∷ record_left new_words payload new.stage) (room words ∷ record_left words payload old.stage) ≡ true
RecordLowers payload old words new new_words made.Done =
    (rest : List ℕ) → is_less (room new_words ∷ 2 ∷ rest) (room words ∷ record_left words payload old.stage) ≡ true
RecordLowers payload old words new new_words (made.Refused why) = ⊤

-- a step of a `hist` leaves less, if it continues
abbrev pub HistLowers : HistCall → List ℕ → HistCall → List ℕ → HistStep → Type 0
HistLowers old words new new_words hist.More =
    (chain : List ℕ) → LeadsAlong words chain → HistIsOn chain old old.stage → is_less (hist_left new_words new new.stage) (hist_left words old old.stage) ≡ true
HistLowers old words new new_words said = ⊤

-- a step of a search leaves less, if it continues
abbrev pub SearchLowers : SampleSearch → List ℕ → SampleSearch → List ℕ → SampleSearchStep → Type 0
SearchLowers old words new new_words search.More =
    (chain : List ℕ) → LeadsAlong words chain → SearchIsOn chain old old.stage → is_less (search_left new_words new new.stage) (search_left words old old.stage) ≡ true
SearchLowers old words new new_words said = ⊤

-- a step of an `add` leaves less, if it continues
abbrev pub AddLowers : AddCall → List ℕ → AddCall → List ℕ → AddStep → Type 0
AddLowers old words new new_words add.More =
    (chain : List ℕ) → LeadsAlong words chain → AddIsOn chain old.stage → is_less (add_left new_words new new.stage) (add_left words old old.stage) ≡ true
AddLowers old words new new_words said = ⊤

-- a step of a `batch` leaves less, if it continues
abbrev pub BatchLowers : BatchCall → List ℕ → BatchCall → List ℕ → BatchStep → Type 0
BatchLowers old words new new_words batch.More =
    (chain : List ℕ) → LeadsAlong words chain → ItemIsOn chain (get_elem? old.items.items old.added) → is_less (batch_left new_words new) (batch_left words old) ≡ true
BatchLowers old words new new_words said = ⊤

-- a step of a delta leaves less, if it continues
abbrev pub DeltaLowers : DeltaCall → List ℕ → DeltaCall → List ℕ → DeltaCallStep → Type 0
DeltaLowers old words new new_words (take_step.Done sum) = ⊤
DeltaLowers old words new new_words said =
    (chain : List ℕ) → LeadsAlong words chain → DeltaIsOn chain old.histogram old.stage → is_less (delta_left new_words new new.stage) (delta_left words old old.stage) ≡ true

-- a step of a snapshot leaves less, if it continues
abbrev pub SnapshotLowers : SnapshotCall → List ℕ → SnapshotCall → List ℕ → SnapshotCallStep → Type 0
SnapshotLowers old words new new_words look.More =
    (chain : List ℕ) → LeadsAlong words chain → SnapshotIsOn chain old.histogram old.stage → is_less (snapshot_left new_words new new.stage) (snapshot_left words old old.stage) ≡ true
SnapshotLowers old words new new_words said = ⊤

-- less is left of a running call, if it continues
abbrev pub GoesDown : Option Running → List ℕ → Option Running → List ℕ → Stepped → Type 0
GoesDown old words new new_words More = is_less (running_left new_words new) (running_left words old) ≡ true
GoesDown old words new new_words (Done answered) = ⊤

-- a step of a running call leaves less, wherever on the list the call is
abbrev pub RunningLowers : Option Running → List ℕ → Option Running → List ℕ → Stepped → Type 0
RunningLowers old words new new_words said = (chain : List ℕ) → LeadsAlong words chain → RunningIsOn chain old → GoesDown old words new new_words said

-- A step of an actor of a world leaves less of its call, if that continues.
abbrev pub LeavesLess : ℕ → WorldState → WorldState → Stepped → Type 0
LeavesLess actor old new said = (before behind : ActorRun) → get_elem? old.actor_runs.items actor ≡ some before → get_elem? new.actor_runs.items actor ≡ some behind
    → GoesDown before.running old.words.items behind.running new.words.items said
