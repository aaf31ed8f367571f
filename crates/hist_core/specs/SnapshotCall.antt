-- A running snapshot.
use Rattle.std.specs.Prelude.{◌≡◌, ◌≢◌, ◌⊎◌, ◌==◌, true, false, nat_lt, ℕ, ◌+◌, ◌-◌, ◌/◌, ◌<◌, ◌≤◌, ℤ, List, [], ◌∷◌, ◌++◌, map, length, if◌then◌else◌, Some, None, vec_capacity}
use Rattle.std.specs.List.{All, Contains, range_with_len}
use mathlib.Core.Option.{some}
use lib.ListN.{get_elem?}
use Rattle.bucket_ranges.specs.Single.{packed_bucket, single_of, units_packed}
use Rattle.bucket_ranges.specs.Ranges.{boundaries_of}
use Rattle.bucket_ranges.specs.Spec.{buckets_of, spec_fault}
use Rattle.bucket_ranges.specs.declared.spec.Spec.TheVariants.{Sparse}
use Rattle.segment_image.specs.declared.layout.TheConstants.{BLOCK_LEAST, HEADER_WORDS, HISTOGRAM_NAME, QUEUE, SAMPLE_COUNT}
use Rattle.segment_image.specs.Shape.{Dimensions}
use Rattle.alloc_core.specs.Layout.{IsShape}
use Rattle.segment_machine.specs.declared.actor.Actor.{Actor}
use Rattle.segment_machine.specs.declared.actor.Answered.{Answered}
use Rattle.segment_machine.specs.declared.actor.Known.{Known}
use Rattle.segment_machine.specs.declared.place.Place.TheVariants.{SumLoaded}
use Rattle.segment_machine.specs.Actor.{SawCount, bucket_key, has_buckets, is_opener, known_at, looking}
use Rattle.segment_promises.specs.Values.{AreSorted, ListsValues, listed_of}
use Rattle.segment_promises.specs.Calls.{AreUnits, BeganBefore}
use Rattle.segment_promises.specs.Totals.{blank_totals}
use Rattle.segment_machine.specs.Calls.{MayTurn}
use Rattle.segment_machine.specs.Form.{is_off, SaysPacked}
use Rattle.segment_machine.specs.Note.{SawAll, SawBucket}
use Rattle.hist_core.specs.declared.mounted.Mounted.{Mounted}
use Rattle.hist_core.specs.declared.snapshot_call.SnapshotCall.{SnapshotCall}
use Rattle.hist_core.specs.declared.snapshot_call.SnapshotCallStep.{SnapshotCallStep}
use Rattle.hist_core.specs.declared.snapshot_call.SnapshotCallStep.TheVariants.{More, Done}
use Rattle.hist_core.specs.declared.snapshot_call.SnapshotStage.{SnapshotStage}
use Rattle.hist_core.specs.declared.snapshot_call.SnapshotStage.TheVariants.{LoadingSingle, LoadingCounts, LoadingCount, Walking, LoadingSample, LoadingSum, LoadingRedundant}
use Rattle.hist_core.specs.StepsBy.{FrameOfStep, StepsBy, IsFree, WalksInOrder, LiesWithin}
use Rattle.hist_core.specs.declared.walk.Met.{Met}
use Rattle.hist_core.specs.declared.walk.Met.TheVariants.{Nothing, Sample, End}
use Rattle.hist_core.specs.declared.walk.SampleWalk.TheVariants.{LoadingFirst}
use Rattle.hist_core.specs.Mounted.{AreMounted, HasWord}
use Rattle.hist_core.specs.Walk.{IsSampleWalkProgress, MetSample, WalksAt}

-- ---- what it sees

-- its actor saw these totals of the buckets before one
abbrev pub SawTotalsBefore : Known → List (ℤ × ℕ) → ℕ → Actor → Type 0
SawTotalsBefore known totals bucket a = (i : ℕ) (total : ℤ × ℕ) → i < bucket → get_elem? totals i ≡ some total → SawBucket a known i total.1

-- its actor saw these totals of all buckets
abbrev pub SawTotals : Known → List (ℤ × ℕ) → Actor → Type 0
SawTotals known totals a = (i : ℕ) (total : ℤ × ℕ) → get_elem? totals i ≡ some total → SawBucket a known i total.1

-- ---- where it is

-- of a histogram with buckets it has a total for each of them, with its key
pub record HasKeys (known : Known) (snapshot_call : SnapshotCall) : Type 0 where
  pub bucketed : has_buckets known.spec ≡ true
  pub keys : map (λ total. total.0) snapshot_call.totals.items ≡ map (bucket_key (Some known)) (range_with_len 0 (buckets_of known.spec))
  pub buckets : length snapshot_call.totals.items ≡ buckets_of known.spec

-- it saw the count of a sample, and has listed its value if that count is not 0
abbrev pub HasListed : List (ℤ × ℕ) → Actor → ℤ → ℕ → Type 0
HasListed listed a value sample =
    (count : ℕ) × SawCount a (sample + SAMPLE_COUNT) count × ((count ≡ 0) ⊎ Contains (map (λ count. count.0) listed) value)

-- it saw the count of a sample, which has units
abbrev pub HasTotal : Actor → ℕ → ℕ → Type 0
HasTotal a sample units = SawCount a (sample + SAMPLE_COUNT) units × (1 ≤ units)

-- it lists the values with units among records that it passed, each once
abbrev pub HasSeenValues : Known → List ℕ → List (ℤ × ℕ) → Actor → Type 0
HasSeenValues known passed listed a = ListsValues (HasListed listed a) (HasTotal a) known.reference passed listed a.seen

-- of a sparse histogram there is room for as many values as fit in the segment
abbrev pub HasRoomForValues : Dimensions → SnapshotCall → Type 0
HasRoomForValues shape snapshot_call = (shape.size - HEADER_WORDS) / BLOCK_LEAST ≤ vec_capacity snapshot_call.totals

-- it lists what it saw of the records that it passed
abbrev pub ListsSeen : Known → SnapshotCall → List ℕ → Actor → Type 0
ListsSeen known snapshot_call passed a = HasSeenValues known passed snapshot_call.totals.items a

-- It has come to the end of the list, and its totals are what it lists, by their keys.
pub record HasSeenAll (known : Known) (totals : List (ℤ × ℕ)) (a : Actor) : Type 0 where
  pub passed : List ℕ
  pub listed : List (ℤ × ℕ)
  pub way : IsSampleWalkProgress known passed QUEUE a
  pub lists : HasSeenValues known passed listed a
  pub sorted : AreSorted listed totals

-- what it saw of all buckets, or of all samples
abbrev pub SawTotalsOf : Known → SnapshotCall → Actor → Type 0
SawTotalsOf known snapshot_call a =
    (HasKeys known snapshot_call × SawTotals known snapshot_call.totals.items a) ⊎ HasSeenAll known snapshot_call.totals.items a

-- Where its actor is.
abbrev pub StandsAtStage : Dimensions → Known → SnapshotCall → Actor → SnapshotStage → Type 0
StandsAtStage shape known snapshot_call a LoadingSingle = HasKeys known snapshot_call × All (λ total. total.1 ≡ 0) snapshot_call.totals.items
StandsAtStage shape known snapshot_call a (LoadingCounts packed kept) =
    HasKeys known snapshot_call × (kept ≤ 65535)
    × ((word : ℕ) × HasWord known word a × (is_off word ≡ true) × SaysPacked snapshot_call.version (buckets_of known.spec) word packed kept)
StandsAtStage shape known snapshot_call a (LoadingCount mounted bucket) =
    HasKeys known snapshot_call × SawTotalsBefore known snapshot_call.totals.items bucket a × (bucket < buckets_of known.spec) × ((word : ℕ) × AreMounted known mounted word a)
StandsAtStage shape known snapshot_call a (Walking walk) = HasRoomForValues shape snapshot_call × WalksAt shape known (ListsSeen known snapshot_call) walk a
StandsAtStage shape known snapshot_call a (LoadingSample at value) = HasRoomForValues shape snapshot_call × MetSample shape known (ListsSeen known snapshot_call) at value a
StandsAtStage shape known snapshot_call a LoadingSum = SawTotalsOf known snapshot_call a × BeganBefore a
StandsAtStage shape known snapshot_call a (LoadingRedundant sum) =
    SawTotalsOf known snapshot_call a × BeganBefore a × (a.hand.place ≡ SumLoaded known.reference sum)

-- Its actor is a recorder that knows the histogram, as the only one with its reference, and counts and takes nothing.
pub record IsSnapshotCall (shape : Dimensions) (known : Known) (snapshot_call : SnapshotCall) (a : Actor) : Type 0 where
  pub segment : a.segment.shape ≡ shape
  pub version : a.segment.version ≡ snapshot_call.version
  pub lawful_shape : IsShape shape
  pub recorder : is_opener a.role ≡ false
  pub counts_nothing : a.entries.running ≡ []
  pub takes_nothing : a.deltas.taking ≡ false
  pub turns : MayTurn a
  pub reference : known.reference ≡ snapshot_call.histogram
  pub within : snapshot_call.histogram + HISTOGRAM_NAME ≤ shape.size
  pub lawful : spec_fault known.spec ≡ None
  pub knows : Contains a.answers.names known
  pub alone : known_at a.answers.names known.reference ≡ Some known
  pub stands : StandsAtStage shape known snapshot_call a snapshot_call.stage

-- ---- how it begins

-- It begins: of a histogram with buckets it has seen no units; of a sparse one it lists nothing, with room for as many values as fit in the
-- segment.
abbrev pub OpensWith : Dimensions → Known → SnapshotCall → SnapshotStage → Type 0
OpensWith shape known snapshot_call stage =
    ((stage ≡ LoadingSingle) × (has_buckets known.spec ≡ true) × (snapshot_call.totals.items ≡ blank_totals (boundaries_of known.spec)))
    ⊎ ((stage ≡ Walking LoadingFirst) × (known.spec ≡ Sparse) × (snapshot_call.totals.items ≡ []) × HasRoomForValues shape snapshot_call)

pub record IsStarted (shape : Dimensions) (version : ℕ) (known : Known) (snapshot_call : SnapshotCall) : Type 0 where
  pub versioned : snapshot_call.version ≡ version
  pub reference : snapshot_call.histogram ≡ known.reference
  pub opens : OpensWith shape known snapshot_call snapshot_call.stage

-- it has done no event yet
abbrev pub HasJustBegun : SnapshotStage → Type 0
HasJustBegun stage = (stage ≡ LoadingSingle) ⊎ (stage ≡ Walking LoadingFirst)

-- ---- what a step makes of its actor

-- Its first event sets since when it looks: what its actor saw before no longer counts. No other event changes that.
abbrev pub LooksAnew : SnapshotStage → Actor → Actor → Type 0
LooksAnew LoadingSingle a b = b.since ≡ (looking a).since
LooksAnew (Walking LoadingFirst) a b = b.since ≡ (looking a).since
LooksAnew stage a b = b.since ≡ a.since

-- It has ended: what its actor saw of the histogram since it began is its answer, and the last of its actor's snapshots; the values of a
-- sparse histogram ascend, each with units. Apart from its snapshots its actor has unchanged what every event leaves unchanged
-- (`FrameOfStep`).
pub record SnapshotHasEnded (known : Known) (snapshot_call : SnapshotCall) (sum : ℤ) (redundant : ℕ) (a b : Actor) : Type 0 where
  pub beside : FrameOfStep a (record b { deltas = a.deltas })
  pub answered : Answered
  pub deltas : b.deltas ≡ record a.deltas { snapshots = a.deltas.snapshots ++ answered ∷ [] }
  pub name : answered.name ≡ known.name
  pub counts : answered.counts ≡ snapshot_call.totals.items
  pub sum_is : answered.sum ≡ sum
  pub redundant_is : answered.redundant ≡ redundant
  pub saw : SawAll b known answered
  pub values : known.spec ≡ Sparse → AreUnits snapshot_call.totals.items

-- What a step says: it continues; or it has ended, and its actor may turn to another call. It does nothing to the segment that others can
-- see.
abbrev pub SnapshotCallGives : Dimensions → Known → SnapshotStage → SnapshotCall → SnapshotCallStep → Actor → Actor → Type 0
SnapshotCallGives shape known stage new More a b = FrameOfStep a b × (b.done ≡ a.done) × LooksAnew stage a b × IsSnapshotCall shape known new b
SnapshotCallGives shape known stage new (Done sum redundant) a b = IsFree b × (b.done ≡ a.done) × LooksAnew stage a b × SnapshotHasEnded known new sum redundant a b

-- what a step makes of the words, and of any actor that runs the call
abbrev pub SnapshotCallSteps : SnapshotCall → List ℕ → SnapshotCall → List ℕ → SnapshotCallStep → Type 0
SnapshotCallSteps old words new new_words said = (shape : Dimensions) (known : Known) (a : Actor) → length words ≡ shape.size
    → WalksInOrder a → IsSnapshotCall shape known old a → StepsBy shape.size old.version a words new_words (SnapshotCallGives shape known old.stage new said a)

-- a snapshot that some actor runs, in a segment of `n` words
abbrev pub IsSomeSnapshotCall : ℕ → SnapshotCall → Type 0
IsSomeSnapshotCall n snapshot_call = (shape : Dimensions) × (known : Known) × (a : Actor) × (n ≡ shape.size) × IsSnapshotCall shape known snapshot_call a

-- a snapshot that some actor runs is at this stage
pub record IsAtStage (stage : SnapshotStage) (n : ℕ) (snapshot_call : SnapshotCall) : Type 0 where
  pub next : snapshot_call.stage ≡ stage
  pub stands : ∥ IsSomeSnapshotCall n snapshot_call ∥₁
  pub inside : LiesWithin n snapshot_call.histogram

-- ---- what it does next

-- the total of a bucket is this now, and all else is unchanged
pub record IsTotalPut (bucket total : ℕ) (old new : SnapshotCall) : Type 0 where
  pub same : new ≡ record old { totals = new.totals }
  pub long : length new.totals.items ≡ length old.totals.items
  pub keys : map (λ total. total.0) new.totals.items ≡ map (λ total. total.0) old.totals.items
  pub units : (i : ℕ) (x : ℤ × ℕ) → get_elem? new.totals.items i ≡ some x
      → ((i ≡ bucket) × (x.1 ≡ total)) ⊎ ((i ≢ bucket) × (get_elem? old.totals.items i ≡ some x))

-- these totals with the units that a single word holds, for those of its bucket
pub record ArePackedTotals (version word : ℕ) (old new : List (ℤ × ℕ)) : Type 0 where
  pub long : length new ≡ length old
  pub keys : map (λ total. total.0) new ≡ map (λ total. total.0) old
  pub units : (i : ℕ) (x : ℤ × ℕ) → get_elem? new i ≡ some x
      → (x.1 ≡ units_packed (single_of version (length old) word) i)
      ⊎ ((packed_bucket (single_of version (length old) word) ≢ Some i) × (get_elem? old i ≡ some x))

-- what a single word leads to: the counts, if they are in use; else the sum, with the units that the word holds
abbrev pub IsBehindSingle : SnapshotCall → ℕ → SnapshotCall → SnapshotStage → Type 0
IsBehindSingle old word new (LoadingCounts packed kept) =
    (is_off word ≡ true) × SaysPacked old.version (length old.totals.items) word packed kept × (kept ≤ 65535)
    × (new ≡ record old { stage = LoadingCounts packed kept })
IsBehindSingle old word new LoadingSum =
    (is_off word ≡ false) × ArePackedTotals old.version word old.totals.items new.totals.items
    × (new ≡ record old { totals = new.totals; stage = LoadingSum })
IsBehindSingle old word new _ = ⊥

-- after a bucket comes the next, and after the last one the sum
abbrev pub behind_bucket : ℕ → Mounted → ℕ → SnapshotStage
behind_bucket buckets mounted bucket = if nat_lt (bucket + 1) buckets then LoadingCount mounted (bucket + 1) else LoadingSum

-- What a step of its walk leads to: the next step, or the count of a sample; at the end of the list the totals are sorted, and the sum is
-- next.
abbrev pub IsBehindWalk : SnapshotCall → Met → SnapshotCall → Type 0
IsBehindWalk old (Nothing walk) new = new ≡ record old { stage = Walking walk }
IsBehindWalk old (Sample at value) new = new ≡ record old { stage = LoadingSample at value }
IsBehindWalk old End new = AreSorted old.totals.items new.totals.items × (new ≡ record old { totals = new.totals; stage = LoadingSum })

-- the units of a value are listed, if it has some
pub record IsValueListed (value : ℤ) (count : ℕ) (old new : SnapshotCall) : Type 0 where
  pub same : new ≡ record old { totals = new.totals }
  pub items : new.totals.items ≡ old.totals.items ++ listed_of (if count == 0 then None else Some (value, count))
  pub room : vec_capacity new.totals ≡ vec_capacity old.totals
