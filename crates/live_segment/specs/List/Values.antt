-- How a recorder goes through the samples of a sparse histogram, and which values it lists along the list.
use Rattle.std.specs.Prelude.{◌≡◌, ◌⊎◌, true, ℕ, ◌+◌, ◌-◌, ◌/◌, ◌≤◌, ℤ, List, [], length, map, Option, Vec, vec_capacity}
use Rattle.std.specs.List.{Contains}
use Rattle.std.specs.Global.{Global}
use Rattle.segment_image.specs.declared.layout.TheConstants.{BLOCK_LEAST, HEADER_WORDS, SAMPLE_COUNT}
use Rattle.bucket_ranges.specs.declared.spec.Spec.TheVariants.{Sparse}
use Rattle.bucket_ranges.specs.Spec.{buckets_of}
use Rattle.segment_machine.specs.declared.actor.Actor.{Actor}
use Rattle.segment_machine.specs.declared.actor.Known.{Known}
use Rattle.segment_machine.specs.Actor.{SawCount, has_buckets}
use Rattle.segment_machine.specs.Note.{TookSample}
use Rattle.live_segment.specs.declared.recorder.KnownHistogram.{KnownHistogram}
use Rattle.live_segment.specs.declared.segment.Segment.{Segment}
use Rattle.live_segment.specs.Delta.Outcome.{TakesOn, TakesValues}
use Rattle.live_segment.specs.Ready.{LooksAtValues}
use Rattle.segment_promises.specs.Onward.{SeesOn}
use Rattle.segment_promises.specs.Values.{ComesTo, ListsValues, ListsOf, listed_of}
use Rattle.segment_promises.specs.Totals.{blank_totals}
use Rattle.live_segment.specs.Steps.{IsSame, Pass}

-- ---- along the list

-- a histogram may have this many keys: its buckets, or as many values as records fit in a segment
abbrev pub AreMostKeys : Segment → Known → ℕ → Type 0
AreMostKeys segment known many =
    (has_buckets known.spec ≡ true → many ≡ buckets_of known.spec)
    × (known.spec ≡ Sparse → many ≡ (segment.setting.shape.size - HEADER_WORDS) / BLOCK_LEAST)

-- this many places are enough for the keys of a histogram
abbrev pub HoldsKeys : Segment → Known → ℕ → Type 0
HoldsKeys segment known many =
    (has_buckets known.spec ≡ true → buckets_of known.spec ≤ many)
    × (known.spec ≡ Sparse → (segment.setting.shape.size - HEADER_WORDS) / BLOCK_LEAST ≤ many)

-- no more keys are counted of a histogram than it may have
abbrev pub AreFewKeys : Segment → Known → List (ℤ × ℕ) → Type 0
AreFewKeys segment known counts = (many : ℕ) → AreMostKeys segment known many → length counts ≤ many

-- ---- a delta

-- it takes what is new of a record that it visited; it has seen no more of the list
pub record TakesValue (segment : Segment) (known : Known) (at : ℕ) (taken : Option (ℤ × ℕ)) (old new : Pass) : Type 0 where
  pub takes : TakesValues segment known new
  pub on : TakesOn (listed_of taken) old.me.0 new.me.0
  pub chain : new.me.0.seen.chain ≡ old.me.0.seen.chain
  pub lists : ListsOf (λ value sample. TookSample new.me.0 sample) (λ sample units. 1 ≤ units) known.reference at taken new.me.0

-- ---- a snapshot

-- It has seen more and may be at another place; all else is unchanged.
pub record OnlySeesMore (old new : Actor) : Type 0 where
  pub view : new ≡ record old { hand = record old.hand { place = new.hand.place }; seen = new.seen }
  pub seen : SeesOn old.seen new.seen

-- it saw the count of a sample, and has listed it if that is not 0
abbrev pub HasListed : List (ℤ × ℕ) → Actor → ℤ → ℕ → Type 0
HasListed listed a value sample =
    (count : ℕ) × SawCount a (sample + SAMPLE_COUNT) count × ((count ≡ 0) ⊎ Contains (map (λ count. count.0) listed) value)

-- it saw the count of a sample, which has units
abbrev pub HasTotal : Actor → ℕ → ℕ → Type 0
HasTotal a sample units = SawCount a (sample + SAMPLE_COUNT) units × (1 ≤ units)

-- Totals with which a snapshot of a histogram begins: its buckets in order, with no units yet; or none, and room for as many values as fit in
-- a segment.
abbrev pub BeginsWithTotals : Segment → KnownHistogram → Vec (ℤ × ℕ) Global → Type 0
BeginsWithTotals segment known totals =
    (has_buckets known.spec ≡ true → totals.items ≡ blank_totals known.ranges)
    × (known.spec ≡ Sparse → (totals.items ≡ []) × ((segment.setting.shape.size - HEADER_WORDS) / BLOCK_LEAST ≤ vec_capacity totals))

-- ---- either

-- which call goes through the samples of a sparse histogram
pub data SampleCall : Type 0 where
  OfDelta : SampleCall
  OfSnapshot : SampleCall

-- what holds for its seat
abbrev pub Goes : SampleCall → Segment → Known → Pass → Type 0
Goes OfDelta segment known seat = TakesValues segment known seat
Goes OfSnapshot segment known seat = LooksAtValues segment known seat

-- what becomes of its recorder while it lists these
abbrev pub ListsOn : SampleCall → List (ℤ × ℕ) → Actor → Actor → Type 0
ListsOn OfDelta listed old new = TakesOn listed old new
ListsOn OfSnapshot listed old new = OnlySeesMore old new

-- what it did with a sample of a value, once it has listed these
abbrev pub HasDealtWith : SampleCall → List (ℤ × ℕ) → Actor → ℤ → ℕ → Type 0
HasDealtWith OfDelta listed a value sample = TookSample a sample
HasDealtWith OfSnapshot listed a value sample = HasListed listed a value sample

-- what it has of the units that it lists of a sample
abbrev pub HasUnitsOf : SampleCall → Actor → ℕ → ℕ → Type 0
HasUnitsOf OfDelta a sample units = 1 ≤ units
HasUnitsOf OfSnapshot a sample units = HasTotal a sample units

-- It has passed records after that of its histogram, listed what it saw of the first sample of each value, and comes to the next.
pub record ListsAlong (call : SampleCall) (segment : Segment) (known : Known) (passed : List ℕ) (at : ℕ) (listed : List (ℤ × ℕ)) (old new : Pass) : Type 0 where
  pub same : IsSame old new
  pub goes : Goes call segment known new
  pub on : ListsOn call listed old.me.0 new.me.0
  pub comes : ComesTo known.reference passed at new.me.0
  pub lists : ListsValues (HasDealtWith call listed new.me.0) (HasUnitsOf call new.me.0) known.reference passed listed new.me.0.seen
