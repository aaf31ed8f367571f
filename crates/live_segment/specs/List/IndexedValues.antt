-- How a recorder goes through the samples of a sparse histogram that its index has, and which values it lists of them.
use Rattle.std.specs.Prelude.{◌≡◌, ℕ, ◌+◌, ◌-◌, ◌*◌, ◌/◌, ◌≤◌, ℤ, List, length}
use Rattle.std.specs.List.{All, AllByRecursion, Contains}
use Rattle.segment_image.specs.declared.layout.TheConstants.{BLOCK_LEAST, HEADER_WORDS}
use Rattle.segment_machine.specs.declared.actor.Actor.{Actor}
use Rattle.segment_machine.specs.declared.actor.Known.{Known}
use Rattle.segment_machine.specs.declared.seen.Seen.{Seen}
use Rattle.segment_machine.specs.Made.{IsFirstSample, SawSample}
use Rattle.segment_promises.specs.Calls.{SamplesStandBehind}
use Rattle.segment_promises.specs.Values.{NoKeyRepeats, NoRepeats, PassesRecord}
use Rattle.list_index.specs.Firsts.{all_of}
use Rattle.live_segment.specs.declared.list.index.KeyKind.TheVariants.{Sample}
use Rattle.live_segment.specs.declared.list.index.RecordIndex.{RecordIndex}
use Rattle.live_segment.specs.declared.segment.Segment.{Segment}
use Rattle.live_segment.specs.List.Index.{IsIndexed}
use Rattle.live_segment.specs.Delta.Outcome.{HasTakenSome}
use Rattle.live_segment.specs.List.Values.{Goes, HasDealtWith, HasUnitsOf, ListsOn, SampleCall}
use Rattle.live_segment.specs.List.Values.SampleCall.{OfDelta, OfSnapshot}
use Rattle.live_segment.specs.Snapshot.Outcome.{HasLooked}
use Rattle.live_segment.specs.Steps.{IsSame, Pass}

-- ---- what the index has

-- An index of samples has passed all records of the list that were seen, and these fit in the segment.
pub record HasPassedAll (size : ℕ) (seen : Seen) (index : RecordIndex) : Type 0 where
  pub indexed : IsIndexed Sample size seen index
  pub all : index.place.given ≡ length seen.chain
  pub few : BLOCK_LEAST * length seen.chain + HEADER_WORDS ≤ size

-- the samples of a histogram that it has
abbrev pub own_samples : RecordIndex → ℕ → List ℕ
own_samples index histogram = all_of index.firsts histogram

-- these are the samples of a histogram, of an index that has passed all
abbrev pub AreOwn : ℕ → Seen → ℕ → List ℕ → Type 0
AreOwn size seen histogram samples = (index : RecordIndex) × HasPassedAll size seen index × (samples ≡ own_samples index histogram)

-- ---- what is listed

-- It saw of each of these records which sample it is, and did something with each sample. What it listed are values, each once, with units
-- that the first sample of the value on the list has.
pub record ListsSamples (Does : ℤ → ℕ → Type 0) (Has : ℕ → ℕ → Type 0) (histogram : ℕ) (passed : List ℕ) (listed : List (ℤ × ℕ)) (seen : Seen) : Type 0 where
  pub passes : AllByRecursion (PassesRecord Does seen histogram) passed
  pub firsts : All (λ count. (sample : ℕ) × Contains passed sample × IsFirstSample seen histogram count.0 sample × Has sample count.1) listed
  pub once : NoKeyRepeats listed
  pub few : length listed ≤ length passed

-- A call on a sparse histogram listed what it saw of the first of these samples of each value. It has seen no more of the list.
pub record ListsIndexed (call : SampleCall) (segment : Segment) (known : Known) (passed : List ℕ) (listed : List (ℤ × ℕ)) (old new : Pass) : Type 0 where
  pub same : IsSame old new
  pub goes : Goes call segment known new
  pub on : ListsOn call listed old.me.0 new.me.0
  pub chain : new.me.0.seen.chain ≡ old.me.0.seen.chain
  pub lists : ListsSamples (HasDealtWith call listed new.me.0) (HasUnitsOf call new.me.0) known.reference passed listed new.me.0.seen

-- ---- all of it

-- it has listed these from records, among which are all samples of the histogram that were visited
pub record HasListedAll (call : SampleCall) (known : Known) (listed : List (ℤ × ℕ)) (a : Actor) : Type 0 where
  pub passed : List ℕ
  pub lists : ListsSamples (HasDealtWith call listed a) (HasUnitsOf call a) known.reference passed listed a.seen
  pub each : (value : ℤ) (sample : ℕ) → Contains a.seen.chain sample → SawSample a.seen known.reference value sample → Contains passed sample

-- what becomes of a recorder whose call began and listed these
abbrev pub HasListedValues : SampleCall → Known → List (ℤ × ℕ) → Actor → Actor → Type 0
HasListedValues OfDelta known listed old new = HasTakenSome known listed old new
HasListedValues OfSnapshot known listed old new = HasLooked old new

-- A call on a sparse histogram has begun and listed these, which fit in the segment. It has listed all, if each sample that was visited
-- comes after the record of its histogram, and no block comes twice.
pub record ListsThrough (call : SampleCall) (segment : Segment) (known : Known) (listed : List (ℤ × ℕ)) (old new : Pass) : Type 0 where
  pub same : IsSame old new
  pub goes : Goes call segment known new
  pub gone : HasListedValues call known listed old.me.0 new.me.0
  pub all : SamplesStandBehind new.me.0 → NoRepeats new.me.0.seen.chain → HasListedAll call known listed new.me.0
  pub few : length listed ≤ (segment.setting.shape.size - HEADER_WORDS) / BLOCK_LEAST
