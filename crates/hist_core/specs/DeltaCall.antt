-- A running delta.
use Rattle.std.specs.Prelude.{◌≡◌, ◌==◌, true, false, nat_lt, nat_eq, int_lt, ℕ, suc, ◌+◌, ◌-◌, ◌/◌, ◌<◌, ◌≤◌, ◌⊎◌, ℤ, pos, List, [], ◌∷◌, ◌++◌, length, slice_index, vec_capacity, if◌then◌else◌, Some, None, ⊤}
use Rattle.std.specs.List.{Contains, insert}
use Rattle.std.specs.Option.{option_eq}
use Rattle.bucket_ranges.specs.Ranges.{boundaries_of}
use Rattle.bucket_ranges.specs.Single.{packed_bucket, single_of}
use Rattle.bucket_ranges.specs.Spec.{buckets_of, spec_fault}
use Rattle.bucket_ranges.specs.declared.spec.Spec.TheVariants.{Sparse}
use Rattle.segment_image.specs.declared.layout.TheConstants.{BLOCK_HEADER, BLOCK_LEAST, HEADER_WORDS, HISTOGRAM_NAME, HISTOGRAM_SINGLE_MARK, SAMPLE_COUNT}
use Rattle.segment_image.specs.Shape.{Dimensions}
use Rattle.alloc_core.specs.Layout.{IsShape}
use Rattle.list_core.specs.Walk.{IsPrefix}
use Rattle.segment_machine.specs.declared.actor.Actor.{Actor}
use Rattle.segment_machine.specs.declared.actor.Known.{Known}
use Rattle.segment_machine.specs.declared.actor.Taken.{Taken}
use Rattle.segment_machine.specs.declared.place.Place.TheVariants.{SampleLoaded, SumLoaded}
use Rattle.segment_machine.specs.declared.seen.Sighting.{Sighting}
use Rattle.segment_machine.specs.Actor.{SawCount, has_buckets, is_opener, known_at, units_listed}
use Rattle.segment_machine.specs.Calls.{MayTurn}
use Rattle.segment_machine.specs.Form.{is_off, SaysPacked}
use Rattle.segment_machine.specs.Made.{SawSample}
use Rattle.segment_machine.specs.Note.{TookAll, TookBucket, TookSample}
use Rattle.segment_promises.specs.Calls.{AreUnits, AreBelow}
use Rattle.segment_promises.specs.Values.{ListsValues}
use Rattle.hist_core.specs.declared.mounted.Mounted.{Mounted}
use Rattle.hist_core.specs.declared.delta_call.DeltaStage.{DeltaStage}
use Rattle.hist_core.specs.declared.delta_call.DeltaStage.TheVariants.{LoadingSingle, TakingPacked, LoadingCounts, LoadingCount, Raising, Walking, LoadingSample, RaisingSample, LoadingSum, Swapping}
use Rattle.hist_core.specs.declared.delta_call.DeltaCall.{DeltaCall}
use Rattle.hist_core.specs.declared.delta_call.DeltaCallStep.{DeltaCallStep}
use Rattle.hist_core.specs.declared.delta_call.DeltaCallStep.TheVariants.{More, Took, Done}
use Rattle.hist_core.specs.StepsBy.{StepsBy, IsFree, WalksInOrder, LiesWithin}
use Rattle.hist_core.specs.Mounted.{HasWord, AreMounted, HasLoaded}
use Rattle.hist_core.specs.declared.walk.Met.{Met}
use Rattle.hist_core.specs.declared.walk.Met.TheVariants.{Nothing, Sample, End}
use Rattle.hist_core.specs.declared.walk.SampleWalk.{SampleWalk}
use Rattle.hist_core.specs.declared.walk.SampleWalk.TheVariants.{LoadingFirst, LoadingNext}
use Rattle.hist_core.specs.Walk.{HasReachedEnd, HasSetOut, MetSample, WalksAt}

-- ---- what is taken

-- the place of a key among these: that of the first one that is not less
abbrev pub place_of : ℤ → List (ℤ × ℕ) → ℕ
place_of key [] = 0
place_of key (count ∷ rest) = if int_lt count.0 key then suc (place_of key rest) else 0

-- these with units of one more key, at its place
abbrev pub insert_by_key : ℤ × ℕ → List (ℤ × ℕ) → List (ℤ × ℕ)
insert_by_key one counts = insert counts (place_of one.0 counts) one

-- ---- where it is

-- It has begun: it is the last of what its actor's deltas took, after the earlier ones, and has taken the units that it lists of each key.
pub record IsUnderWay (known : Known) (earlier : List Taken) (delta_call : DeltaCall) (a : Actor) : Type 0 where
  pub taking : a.deltas.taking ≡ true
  pub last : Taken
  pub taken : a.deltas.taken ≡ earlier ++ last ∷ []
  pub name : last.name ≡ known.name
  pub counts : (key : ℤ) → units_listed delta_call.counts.items key ≡ units_listed last.counts key
  pub sum : last.sum ≡ pos 0

-- what it saw of each bucket is taken
abbrev pub TookBuckets : Known → Actor → Type 0
TookBuckets known a = (i : ℕ) → i < buckets_of known.spec → TookBucket a known i

-- a histogram with buckets has room for all of them
abbrev pub HasRoomForBuckets : Known → DeltaCall → Type 0
HasRoomForBuckets known delta_call = (has_buckets known.spec ≡ true) × (buckets_of known.spec ≤ vec_capacity delta_call.counts)

-- there is room for as many values as fit in the segment
abbrev pub HoldsValues : Dimensions → DeltaCall → Type 0
HoldsValues shape delta_call = (shape.size - HEADER_WORDS) / BLOCK_LEAST ≤ vec_capacity delta_call.counts

-- of records that it passed it took what it saw of each sample, and it lists values, each once, with units of the first sample of each
abbrev pub ListsTaken : Known → DeltaCall → List ℕ → Actor → Type 0
ListsTaken known delta_call passed a =
    ListsValues (λ value sample. TookSample a sample) (λ sample units. 1 ≤ units) known.reference passed delta_call.counts.items a.seen

-- it saw the count of a sample of a value, which has units, and none of the records that it passed is a sample of that value
pub record HasLoadedSample (shape : Dimensions) (known : Known) (delta_call : DeltaCall) (at : ℕ) (value : ℤ) (count : ℕ) (a : Actor) : Type 0 where
  pub met : MetSample shape known (ListsTaken known delta_call) at value a
  pub place : a.hand.place ≡ SampleLoaded at count
  pub saw : SawCount a (at + SAMPLE_COUNT) count
  pub some : 1 ≤ count
  pub first : (other : ℕ) → Contains met.0.passed other → SawSample a.seen known.reference value other → ⊥

-- what it saw of all buckets is taken, or of all samples
abbrev pub TookEach : Known → DeltaCall → Actor → Type 0
TookEach known delta_call a = ((has_buckets known.spec ≡ true) × TookBuckets known a) ⊎ HasReachedEnd known (ListsTaken known delta_call) a

-- before its first event its actor takes nothing, and it lists nothing
abbrev pub IsBeforeAll : List Taken → DeltaCall → Actor → Type 0
IsBeforeAll earlier delta_call a = (a.deltas.taking ≡ false) × (a.deltas.taken ≡ earlier) × (delta_call.counts.items ≡ [])

-- if its walk has not set out, it is before its first event; else it has begun
abbrev pub TakesOnWalk : Known → List Taken → DeltaCall → Actor → SampleWalk → Type 0
TakesOnWalk known earlier delta_call a walk =
    ((walk ≡ LoadingFirst) × IsBeforeAll earlier delta_call a) ⊎ (HasSetOut walk × IsUnderWay known earlier delta_call a)

-- what it saw of the buckets before one is taken, and it lists units of these alone
pub record HasDrawn (known : Known) (delta_call : DeltaCall) (bucket : ℕ) (a : Actor) : Type 0 where
  pub took : (i : ℕ) → i < bucket → TookBucket a known i
  pub below : AreBelow known bucket delta_call.counts.items
  pub few : length delta_call.counts.items ≤ bucket
  pub inside : bucket < buckets_of known.spec

-- Where its actor is.
abbrev pub StandsAtStage : Dimensions → Known → List Taken → DeltaCall → Actor → DeltaStage → Type 0
StandsAtStage shape known earlier delta_call a LoadingSingle =
    (a.deltas.taking ≡ false) × (a.deltas.taken ≡ earlier) × (delta_call.counts.items ≡ []) × HasRoomForBuckets known delta_call
StandsAtStage shape known earlier delta_call a (TakingPacked bucket units) =
    IsUnderWay known earlier delta_call a × (delta_call.counts.items ≡ [])
    × ((word : ℕ) × HasWord known word a × (is_off word ≡ false) × SaysPacked delta_call.version (buckets_of known.spec) word (Some bucket) units)
    × HasRoomForBuckets known delta_call
StandsAtStage shape known earlier delta_call a (LoadingCounts packed kept) =
    IsUnderWay known earlier delta_call a × (delta_call.counts.items ≡ []) × (kept ≤ 65535)
    × ((word : ℕ) × HasWord known word a × (is_off word ≡ true) × SaysPacked delta_call.version (buckets_of known.spec) word packed kept)
    × HasRoomForBuckets known delta_call
StandsAtStage shape known earlier delta_call a (LoadingCount mounted bucket) =
    IsUnderWay known earlier delta_call a × HasDrawn known delta_call bucket a × ((word : ℕ) × AreMounted known mounted word a) × HasRoomForBuckets known delta_call
StandsAtStage shape known earlier delta_call a (Raising mounted bucket total) =
    IsUnderWay known earlier delta_call a × HasDrawn known delta_call bucket a × (1 ≤ total)
    × ((word : ℕ) × AreMounted known mounted word a × HasLoaded known mounted word bucket total a)
    × HasRoomForBuckets known delta_call
StandsAtStage shape known earlier delta_call a (Walking walk) =
    TakesOnWalk known earlier delta_call a walk × WalksAt shape known (ListsTaken known delta_call) walk a × HoldsValues shape delta_call
StandsAtStage shape known earlier delta_call a (LoadingSample at value) =
    IsUnderWay known earlier delta_call a × MetSample shape known (ListsTaken known delta_call) at value a × HoldsValues shape delta_call
StandsAtStage shape known earlier delta_call a (RaisingSample at value count) =
    IsUnderWay known earlier delta_call a × HasLoadedSample shape known delta_call at value count a × HoldsValues shape delta_call
StandsAtStage shape known earlier delta_call a LoadingSum = IsUnderWay known earlier delta_call a × TookEach known delta_call a
StandsAtStage shape known earlier delta_call a (Swapping sum) =
    IsUnderWay known earlier delta_call a × TookEach known delta_call a × (a.hand.place ≡ SumLoaded known.reference sum)

-- Its actor is a recorder that knows the histogram, as the only one with its reference, and counts nothing. Its deltas took these before.
pub record IsDeltaCall (shape : Dimensions) (known : Known) (earlier : List Taken) (delta_call : DeltaCall) (a : Actor) : Type 0 where
  pub segment : a.segment.shape ≡ shape
  pub version : a.segment.version ≡ delta_call.version
  pub lawful_shape : IsShape shape
  pub recorder : is_opener a.role ≡ false
  pub counts_nothing : a.entries.running ≡ []
  pub turns : MayTurn a
  pub reference : known.reference ≡ delta_call.histogram
  pub within : delta_call.histogram + HISTOGRAM_NAME ≤ shape.size
  pub lawful : spec_fault known.spec ≡ None
  pub ranges : delta_call.ranges ≡ boundaries_of known.spec
  pub knows : Contains a.answers.names known
  pub alone : known_at a.answers.names known.reference ≡ Some known
  pub units : AreUnits delta_call.counts.items
  pub stands : StandsAtStage shape known earlier delta_call a delta_call.stage

-- It begins with the single word if the histogram has buckets, and with a walk if it is sparse. There is room for all keys.
abbrev pub OpensWith : Dimensions → Known → DeltaCall → DeltaStage → Type 0
OpensWith shape known delta_call stage =
    ((stage ≡ LoadingSingle) × HasRoomForBuckets known delta_call) ⊎ ((stage ≡ Walking LoadingFirst) × (known.spec ≡ Sparse) × HoldsValues shape delta_call)

-- it begins: it has taken nothing
pub record IsStarted (shape : Dimensions) (version : ℕ) (known : Known) (delta_call : DeltaCall) : Type 0 where
  pub versioned : delta_call.version ≡ version
  pub reference : delta_call.histogram ≡ known.reference
  pub ranges : delta_call.ranges ≡ boundaries_of known.spec
  pub none : delta_call.counts.items ≡ []
  pub opens : OpensWith shape known delta_call delta_call.stage

-- ---- what a step makes of its actor

-- What it leaves unchanged of its actor: the role, the segment, the units, the entries, the known names, the snapshots, and what it has
-- done to the segment that others can see. Of the chain and of the words of records its actor has seen no less.
pub record FrameOfDelta (a b : Actor) : Type 0 where
  pub role : b.role ≡ a.role
  pub segment : b.segment ≡ a.segment
  pub units : b.units ≡ a.units
  pub entries : b.entries ≡ a.entries
  pub names : b.answers.names ≡ a.answers.names
  pub snapshots : b.deltas.snapshots ≡ a.deltas.snapshots
  pub first : b.deltas.first_taken ≡ a.deltas.first_taken
  pub chain : IsPrefix a.seen.chain b.seen.chain
  pub words : (more : List Sighting) × (b.seen.words ≡ a.seen.words ++ more)
  pub done : b.done ≡ a.done

-- It has ended: it is the last of what its actor's deltas took, with the units that it lists and this of the sum, and took all that its
-- actor saw of the histogram since it began.
pub record DeltaHasEnded (known : Known) (earlier : List Taken) (delta_call : DeltaCall) (sum : ℤ) (a : Actor) : Type 0 where
  pub taking : a.deltas.taking ≡ false
  pub last : Taken
  pub taken : a.deltas.taken ≡ earlier ++ last ∷ []
  pub name : last.name ≡ known.name
  pub counts : (key : ℤ) → units_listed delta_call.counts.items key ≡ units_listed last.counts key
  pub sum_is : last.sum ≡ sum
  pub swapped : last.swapped ≡ true
  pub all : TookAll a known
  pub units : AreUnits delta_call.counts.items

-- What a step says: it continues, and may have taken units; or it has ended, and its actor may turn to another call.
abbrev pub DeltaCallGives : Dimensions → Known → List Taken → DeltaCall → DeltaCallStep → Actor → Actor → Type 0
DeltaCallGives shape known earlier new (Done sum) a b = FrameOfDelta a b × IsFree b × DeltaHasEnded known earlier new sum b
DeltaCallGives shape known earlier new said a b = FrameOfDelta a b × IsDeltaCall shape known earlier new b

-- what a step makes of the words, and of any actor that runs the call
abbrev pub DeltaCallSteps : DeltaCall → List ℕ → DeltaCall → List ℕ → DeltaCallStep → Type 0
DeltaCallSteps old words new new_words said = (shape : Dimensions) (known : Known) (earlier : List Taken) (a : Actor) → length words ≡ shape.size
    → WalksInOrder a → IsDeltaCall shape known earlier old a → StepsBy shape.size old.version a words new_words (DeltaCallGives shape known earlier new said a)

-- a delta that some actor runs, in a segment of `n` words
abbrev pub IsSomeDeltaCall : ℕ → DeltaCall → Type 0
IsSomeDeltaCall n delta_call =
    (shape : Dimensions) × (known : Known) × (earlier : List Taken) × (a : Actor) × (n ≡ shape.size) × IsDeltaCall shape known earlier delta_call a

-- what it lists after a step: what it listed before, with the units that the step took, if any
abbrev pub Lists : DeltaCall → DeltaCall → DeltaCallStep → Type 0
Lists old new (Took key units) = new.counts.items ≡ insert_by_key (key, units) old.counts.items
Lists old new said = new.counts.items ≡ old.counts.items

-- its first event has happened
abbrev pub HasBegun : DeltaStage → Type 0
HasBegun LoadingSingle = ⊥
HasBegun (Walking walk) = HasSetOut walk
HasBegun stage = ⊤

-- it is before its first event
abbrev pub IsFirstStage : DeltaStage → Type 0
IsFirstStage stage = (stage ≡ LoadingSingle) ⊎ (stage ≡ Walking LoadingFirst)

-- a delta that some actor runs is at this stage
pub record IsAtStage (stage : DeltaStage) (n : ℕ) (delta_call : DeltaCall) : Type 0 where
  pub next : delta_call.stage ≡ stage
  pub stands : ∥ IsSomeDeltaCall n delta_call ∥₁
  pub inside : LiesWithin n delta_call.histogram

-- What holds of the call after a step: it lists what the step took, its room is unchanged, its first event has happened, and its histogram
-- is the same.
pub record HasGoneOn (old new : DeltaCall) (said : DeltaCallStep) : Type 0 where
  pub lists : Lists old new said
  pub room : vec_capacity new.counts ≡ vec_capacity old.counts
  pub begun : HasBegun new.stage
  pub of : new.histogram ≡ old.histogram

-- ---- what it does next

-- what a single word leads to: the counts, if they are in use; else the packed units, or the sum if there are none
abbrev pub IsBehindSingle : DeltaCall → ℕ → DeltaStage → Type 0
IsBehindSingle delta_call word (LoadingCounts packed kept) =
    (is_off word ≡ true) × SaysPacked delta_call.version (length delta_call.ranges - 1) word packed kept × (kept ≤ 65535)
IsBehindSingle delta_call word (TakingPacked bucket units) =
    (is_off word ≡ false) × SaysPacked delta_call.version (length delta_call.ranges - 1) word (Some bucket) units
IsBehindSingle delta_call word LoadingSum = (is_off word ≡ false) × (packed_bucket (single_of delta_call.version (length delta_call.ranges - 1) word) ≡ None)
IsBehindSingle delta_call word _ = ⊥

-- after a bucket comes the next, and after the last one the sum
abbrev pub behind_bucket : DeltaCall → Mounted → ℕ → DeltaStage
behind_bucket delta_call mounted bucket = if nat_lt (bucket + 1) (length delta_call.ranges - 1) then LoadingCount mounted (bucket + 1) else LoadingSum

-- after a step of its walk comes the next step, the count of a sample, or at the end of the list the sum
abbrev pub behind_walk : Met → DeltaStage
behind_walk (Nothing walk) = Walking walk
behind_walk (Sample at value) = LoadingSample at value
behind_walk End = LoadingSum

-- after the count of a sample its mark is raised, if it has units
abbrev pub behind_sample : ℕ → ℤ → ℕ → DeltaStage
behind_sample at value count = if count == 0 then Walking (LoadingNext at) else RaisingSample at value count

-- where the mark of a bucket is
abbrev pub mark_of : DeltaCall → Mounted → ℕ → ℕ
mark_of delta_call mounted bucket =
    if option_eq nat_eq mounted.packed (Some bucket) then delta_call.histogram + HISTOGRAM_SINGLE_MARK
    else mounted.counts + BLOCK_HEADER + (length delta_call.ranges - 1) + bucket

-- it lists the units of a key by which its total is above its mark
abbrev pub TakesUnits : ℤ → ℕ → ℕ → DeltaCall → DeltaCall → DeltaCallStep → Type 0
TakesUnits of total mark old new More = (total ≤ mark) × (new ≡ old)
TakesUnits of total mark old new (Took key units) =
    (mark < total) × (key ≡ of) × (units ≡ total - mark) × (new ≡ record old { counts = new.counts })
    × (new.counts.items ≡ insert_by_key (key, units) old.counts.items) × (vec_capacity new.counts ≡ vec_capacity old.counts)
TakesUnits of total mark old new (Done sum) = ⊥

-- it lists the units of a bucket by which its total is above its mark
abbrev pub TakesBucket : ℕ → ℕ → ℕ → DeltaCall → DeltaCall → DeltaCallStep → Type 0
TakesBucket bucket total mark old new said = TakesUnits (pos (slice_index old.ranges bucket)) total mark old new said
