-- What a delta changes in its recorder: what it takes on its way, and what it has taken when it ends.
use Rattle.std.specs.Prelude.{◌≡◌, ◌≢◌, true, false, ℕ, ◌+◌, ◌<◌, ◌≤◌, ℤ, ◌+ℤ◌, List, [], ◌∷◌, ◌++◌, length, nat_lt, if◌then◌else◌, Some, None}
use Rattle.std.specs.List.{Contains}
use Rattle.segment_image.specs.declared.layout.TheConstants.{HISTOGRAM_COUNTS, HISTOGRAM_SINGLE, SAMPLE_COUNT}
use Rattle.bucket_ranges.specs.declared.spec.Spec.TheVariants as spec
use Rattle.bucket_ranges.specs.Single.{packed_bucket, single_of}
use Rattle.bucket_ranges.specs.Spec.{buckets_of}
use Rattle.segment_machine.specs.declared.actor.Actor.{Actor}
use Rattle.segment_machine.specs.declared.actor.Known.{Known}
use Rattle.segment_machine.specs.declared.actor.Taken.{Taken}
use Rattle.segment_machine.specs.declared.place.Place.TheVariants.{Idle, SampleLoaded}
use Rattle.segment_machine.specs.Actor.{SawCount, SawSingle, has_buckets, is_bound, is_opener, looking, units_listed, word_seen}
use Rattle.segment_machine.specs.Calls.{change_last}
use Rattle.segment_machine.specs.Form.{is_off, units_in}
use Rattle.segment_machine.specs.Made.{SawSample}
use Rattle.segment_machine.specs.Note.{TookAll, TookBucket, TookSample, moment_of, nothing_taken}
use Rattle.segment_machine.specs.Taking.{Takes}
pub use Rattle.segment_promises.specs.Calls.{AreUnits}
use Rattle.segment_promises.specs.Calls.{SamplesStandBehind}
use Rattle.live_segment.specs.declared.delta.buckets.Mounted.{Mounted}
use Rattle.live_segment.specs.declared.segment.Segment.{Segment}
use Rattle.live_segment.specs.Holders.{table_of}
use Rattle.live_segment.specs.Snapshot.Counts.{StandsAt}
use Rattle.segment_promises.specs.Onward.{SeesOn}
use Rattle.segment_promises.specs.Values.{NoRepeats}
use Rattle.live_segment.specs.Ready.{LooksAtValues}
use Rattle.live_segment.specs.Rule.{IsOf}
use Rattle.live_segment.specs.Steps.{Pass}
use Rattle.live_segment.specs.Steps.GhostNotes.{KnowsAlone}
use Rattle.live_segment.specs.Add.Progress.{CountsWithin, LooksAt}

-- ---- what is taken

-- units of a key, if there are any
abbrev pub units_of_key : ℤ → ℕ → List (ℤ × ℕ)
units_of_key key units = if nat_lt 0 units then (key, units) ∷ [] else []

-- a delta took these units too
abbrev pub with_units : List (ℤ × ℕ) → Taken → Taken
with_units more taken = record taken { counts = taken.counts ++ more }

-- A recorder's delta continues and takes these units. The recorder has seen no less, and all else is unchanged.
pub record TakesOn (more : List (ℤ × ℕ)) (old new : Actor) : Type 0 where
  pub view : new ≡ record old {
    hand = record old.hand { place = new.hand.place };
    deltas = record old.deltas { taken = change_last (with_units more) old.deltas.taken };
    seen = new.seen;
  }
  pub seen : SeesOn old.seen new.seen

-- ---- of a histogram with buckets

-- A recorder's seat takes a delta of a histogram with buckets, and has loaded its single word.
pub record TakesWord (segment : Segment) (known : Known) (word : ℕ) (seat : Pass) : Type 0 where
  pub table : seat.table_id ≡ table_of segment
  pub recorder : is_opener seat.me.0.role ≡ false
  pub of : IsOf segment.setting seat.me.0
  pub alone : KnowsAlone seat.me.0 known
  pub bucketed : has_buckets known.spec ≡ true
  pub takes : Takes seat.me.0 known.reference known
  pub saw : SawSingle seat.me.0 (known.reference + HISTOGRAM_SINGLE) word
  pub formed : single_of seat.me.0.segment.version (buckets_of known.spec) word ≢ None
  pub counted : ℕ
  pub stands : LooksAt seat.me.0 known.reference (Some word) counted
  pub singles : seat.me.0.since.singles ≤ length seat.me.0.seen.singles
  pub counts : seat.me.0.since.counts ≤ length seat.me.0.seen.counts

-- ---- at the counts

-- A recorder's seat takes a delta of a histogram whose counts are in use, and is at these: the single word that it loaded is off, and shows
-- which bucket was packed and what it keeps of that.
pub record TakesAt (segment : Segment) (known : Known) (mounted : Mounted) (seat : Pass) : Type 0 where
  pub table : seat.table_id ≡ table_of segment
  pub recorder : is_opener seat.me.0.role ≡ false
  pub of : IsOf segment.setting seat.me.0
  pub alone : KnowsAlone seat.me.0 known
  pub takes : Takes seat.me.0 known.reference known
  pub word : ℕ
  pub saw : SawSingle seat.me.0 (known.reference + HISTOGRAM_SINGLE) word
  pub off : is_off word ≡ true
  pub packed : mounted.packed ≡ packed_bucket (single_of seat.me.0.segment.version (buckets_of known.spec) word)
  pub kept : mounted.kept ≡ units_in (single_of seat.me.0.segment.version (buckets_of known.spec) word)
  pub stands : StandsAt seat.me.0 (record { histogram = known.reference; single = Some word; counts = mounted.counts }) known
  pub there : word_seen seat.me.0.seen.words (known.reference + HISTOGRAM_COUNTS) ≡ Some mounted.counts
  pub within : CountsWithin seat.me.0 known mounted.counts
  pub singles : seat.me.0.since.singles ≤ length seat.me.0.seen.singles
  pub counts : seat.me.0.since.counts ≤ length seat.me.0.seen.counts

-- ---- of a sparse histogram

-- A recorder's seat takes a delta of a sparse histogram.
pub record TakesValues (segment : Segment) (known : Known) (seat : Pass) : Type 0 where
  pub looks : LooksAtValues segment known seat
  pub takes : Takes seat.me.0 known.reference known

-- it may take units of a sample whose count it has loaded
pub record MayTakeSample (segment : Segment) (known : Known) (value : ℤ) (sample count : ℕ) (seat : Pass) : Type 0 where
  pub takes : TakesValues segment known seat
  pub saw : SawSample seat.me.0.seen known.reference value sample
  pub loaded : seat.me.0.hand.place ≡ SampleLoaded sample count
  pub counted : SawCount seat.me.0 (sample + SAMPLE_COUNT) count
  pub some : count ≢ 0

-- it has taken units of the sample, all that it saw; it has seen no more of the list and of records
pub record HasTakenSample (segment : Segment) (known : Known) (value : ℤ) (sample units : ℕ) (old new : Pass) : Type 0 where
  pub takes : TakesValues segment known new
  pub on : TakesOn (units_of_key value units) old.me.0 new.me.0
  pub took : TookSample new.me.0 sample
  pub seen : new.me.0.seen ≡ record old.me.0.seen { counts = new.me.0.seen.counts }

-- ---- what was taken

-- A delta has taken these units from the buckets of a histogram, from no more buckets than there are: all that its recorder saw in them
-- since it began.
pub record HasTakenBuckets (known : Known) (taken : List (ℤ × ℕ)) (old new : Actor) : Type 0 where
  pub on : TakesOn taken old new
  pub free : is_bound new.hand.place ≡ false
  pub took : (bucket : ℕ) → bucket < buckets_of known.spec → TookBucket new known bucket
  pub units : AreUnits taken
  pub few : length taken ≤ buckets_of known.spec

-- A delta has taken all units of a histogram that its recorder saw, and may take what is new of the sum; all units of samples, if each that
-- was visited comes after the record of its histogram, and no block comes twice.
pub record MayTakeSum (segment : Segment) (known : Known) (seat : Pass) : Type 0 where
  pub table : seat.table_id ≡ table_of segment
  pub recorder : is_opener seat.me.0.role ≡ false
  pub free : is_bound seat.me.0.hand.place ≡ false
  pub takes : Takes seat.me.0 known.reference known
  pub buckets : has_buckets known.spec ≡ true → (bucket : ℕ) → bucket < buckets_of known.spec → TookBucket seat.me.0 known bucket
  pub samples : SamplesStandBehind seat.me.0 → NoRepeats seat.me.0.seen.chain → known.spec ≡ spec.Sparse → (value : ℤ) (sample : ℕ)
      → Contains seat.me.0.seen.chain sample → SawSample seat.me.0.seen known.reference value sample → TookSample seat.me.0 sample

-- a delta took this of the sum
abbrev pub with_sum : ℤ → Taken → Taken
with_sum amount taken = record taken { sum = taken.sum +ℤ amount; swapped = true }

-- it has taken this of the sum, and ended
pub record HasTakenSum (known : Known) (amount : ℤ) (old new : Actor) : Type 0 where
  pub view : new ≡ record old {
    hand = record old.hand { place = Idle };
    deltas = record old.deltas { taking = false; taken = change_last (with_sum amount) old.deltas.taken };
  }
  pub all : TookAll new known

-- A delta of a histogram has begun and taken these units. Its recorder has seen no less, and all else that it has is unchanged.
pub record HasTakenSome (known : Known) (units : List (ℤ × ℕ)) (old new : Actor) : Type 0 where
  pub view : new ≡ record (looking old) {
    hand = record old.hand { place = new.hand.place };
    seen = new.seen;
    deltas = record old.deltas { taking = true; taken = old.deltas.taken ++ with_units units (nothing_taken old known.name) ∷ [] };
  }
  pub seen : SeesOn old.seen new.seen

-- what a delta took, as its recorder keeps it
abbrev pub taken_as : Actor → Known → List (ℤ × ℕ) → ℤ → Taken
taken_as a known counts sum = record { name = known.name; counts = counts; sum = sum; swapped = true; moment = moment_of a }

-- A delta of a histogram has taken all that its recorder saw since it began, and is noted after the earlier ones. It returns keys with
-- units, as many of each key as it took. Its recorder has seen no less, and all else that it has is unchanged.
pub record HasTaken (known : Known) (delta : List (ℤ × ℕ)) (sum : ℤ) (old new : Actor) : Type 0 where
  pub counts : List (ℤ × ℕ)
  pub same : new ≡ record (looking old) {
    hand = record old.hand { place = Idle };
    seen = new.seen;
    deltas = record old.deltas { taking = false; taken = old.deltas.taken ++ taken_as old known counts sum ∷ [] };
  }
  pub seen : SeesOn old.seen new.seen
  pub all : TookAll new known
  pub units : AreUnits delta
  pub each : (key : ℤ) → units_listed delta key ≡ units_listed counts key
