-- What a recorder sees of the samples of a sparse histogram, which it visits along the list.
use Rattle.std.specs.Prelude.{◌≡◌, ◌≢◌, ◌⊎◌, true, false, ℕ, ◌+◌, ◌*◌, ◌≤◌, ℤ, List, length, Option, Some, None}
use Rattle.std.specs.List.{All, AllPairs, Contains}
use Rattle.segment_image.specs.declared.layout.TheConstants.{HEADER_WORDS, SAMPLE_COUNT, SAMPLE_LEAST}
use Rattle.bucket_ranges.specs.Reading.{is_i32}
use Rattle.segment_machine.specs.declared.actor.Actor.{Actor}
use Rattle.segment_machine.specs.declared.place.Place.TheVariants.{SampleLoaded}
use Rattle.segment_machine.specs.Event.{taking_event}
use Rattle.segment_machine.specs.Made.{SawSample, SawOther}
use Rattle.segment_machine.specs.Actor.{SawCount, is_bound}
use Rattle.segment_machine.specs.Taking.{IsLaterSample, load_count, load_sum}
pub use Rattle.segment_promises.specs.Calls.{SamplesStandBehind}
use Rattle.segment_promises.specs.Onward.{Grows, is_holding}
use Rattle.segment_promises.specs.Values.{NoRepeats}
use Rattle.live_segment.specs.Steps.{DoesAt, Sat}

-- it saw that a record is a sample of this value of a histogram, and lies within the segment; or that it is a sample of no value of it
abbrev pub ShowsSample : ℕ → ℕ → Option ℤ → Actor → Type 0
ShowsSample histogram at (Some value) a = SawSample a.seen histogram value at × (at + SAMPLE_LEAST ≤ a.segment.shape.size)
ShowsSample histogram at None a = (value : ℤ) → is_i32 value ≡ true → SawOther a.seen histogram value at

-- it visited a record, and saw that this is a sample
abbrev pub MeetsSample : Actor → ℕ → Type 0
MeetsSample a at = Contains a.seen.chain at × ((histogram : ℕ) × (value : ℤ) × SawSample a.seen histogram value at)

-- the samples that it visited are few: each has eight words of its own, after those of the header
abbrev pub SamplesAreFew : Actor → Type 0
SamplesAreFew a =
    (samples : List ℕ) → AllPairs (λ x y. x ≢ y) samples → All (MeetsSample a) samples
    → HEADER_WORDS + SAMPLE_LEAST * length samples ≤ a.segment.shape.size

-- the count of a sample is loaded, by a recorder that visited few samples
abbrev pub LoadsCountOfSample : ℕ → Sat → ℕ → Sat → Type 0
LoadsCountOfSample word me found me' = DoesAt (λ at. taking_event (load_count at)) word me found me' × SamplesAreFew me.0

-- The sum of a histogram is loaded: of what its recorder visited, each sample comes after the record of its histogram, and no block comes
-- twice.
abbrev pub LoadsSum : ℕ → Sat → ℕ → Sat → Type 0
LoadsSum word me found me' = DoesAt (λ histogram. taking_event (load_sum histogram)) word me found me' × SamplesStandBehind me.0
    × NoRepeats me.0.seen.chain

-- It has seen more words of published records and more counts, and looks at no histogram with buckets; all else is unchanged.
pub record SeesSample (old new : Actor) : Type 0 where
  pub view : new ≡ record old {
    hand = record old.hand { place = new.hand.place };
    seen = record old.seen { words = new.seen.words; counts = new.seen.counts };
  }
  pub words : Grows old.seen.words new.seen.words
  pub counts : Grows old.seen.counts new.seen.counts
  pub free : is_bound new.hand.place ≡ false
  pub apart : is_holding new.hand.place ≡ false

-- It saw that a record is a sample of a value of a histogram and has units, which it loaded last. So it is not a later sample of its value.
pub record HasUnits (histogram at : ℕ) (value : ℤ) (units : ℕ) (a : Actor) : Type 0 where
  pub saw : SawSample a.seen histogram value at
  pub counted : SawCount a (at + SAMPLE_COUNT) units
  pub some : units ≢ 0
  pub first : ¬ (IsLaterSample a at)
  pub within : at + SAMPLE_LEAST ≤ a.segment.shape.size
  pub loaded : a.hand.place ≡ SampleLoaded at units

-- A record is a sample of a value of a histogram and has these units. Or it is a sample of none, or of a value and has no units.
abbrev pub CountsSample : ℕ → ℕ → Option (ℤ × ℕ) → Actor → Type 0
CountsSample histogram at (Some count) a = HasUnits histogram at count.0 count.1 a
CountsSample histogram at None a =
    ((value : ℤ) → is_i32 value ≡ true → SawOther a.seen histogram value at)
    ⊎ ((value : ℤ) × SawSample a.seen histogram value at × SawCount a (at + SAMPLE_COUNT) 0)
