-- What a snapshot changes in its recorder: it has looked at a histogram again, and notes what it saw.
use Rattle.std.specs.Prelude.{◌≡◌, false, ℕ, ◌+◌, ℤ, List, [], ◌∷◌, ◌++◌, length, map}
use mathlib.Core.Option.{some}
use lib.ListN.{get_elem?}
use Rattle.segment_image.specs.declared.layout.TheConstants.{HISTOGRAM_REDUNDANT}
use Rattle.bucket_ranges.specs.Single.{single_of, units_packed}
use Rattle.segment_calls.specs.declared.answer.Snapshot.{Snapshot}
use Rattle.segment_machine.specs.declared.actor.Actor.{Actor}
use Rattle.segment_machine.specs.declared.actor.Known.{Known}
use Rattle.segment_machine.specs.declared.place.Place.TheVariants.{SumLoaded}
use Rattle.segment_machine.specs.Actor.{is_bound, looking}
use Rattle.segment_machine.specs.Calls.{sight}
use Rattle.segment_machine.specs.Note.{SawAll, SawBucket}
use Rattle.segment_promises.specs.Calls.{SamplesStandBehind}
use Rattle.segment_promises.specs.Onward.{SeesOn}
use Rattle.segment_promises.specs.Values.{NoRepeats}
use Rattle.live_segment.specs.Steps.Taking.{answered_as}

-- ---- what it begins with

-- these totals with the units that a single word holds, which are added to those of their bucket
pub record HavePacked (version word : ℕ) (old new : List (ℤ × ℕ)) : Type 0 where
  pub keys : map (λ total. total.0) new ≡ map (λ total. total.0) old
  pub units : (bucket : ℕ) (total : ℤ × ℕ) → get_elem? new bucket ≡ some total
      → (was : ℤ × ℕ) × (get_elem? old bucket ≡ some was) × (total.1 ≡ was.1 + units_packed (single_of version (length old) word) bucket)

-- ---- what a call leaves that looks

-- A recorder has looked again: it has seen no less, may be at another place, and all else is unchanged.
pub record HasLooked (old new : Actor) : Type 0 where
  pub same : new ≡ record (looking old) { hand = record old.hand { place = new.hand.place }; seen = new.seen }
  pub free : is_bound new.hand.place ≡ false
  pub seen : SeesOn old.seen new.seen

-- it has seen these totals of the buckets of a histogram
pub record HasSeenBuckets (known : Known) (old : Actor) (totals : List (ℤ × ℕ)) (new : Actor) : Type 0 where
  pub looked : HasLooked old new
  pub saw : (bucket : ℕ) (total : ℤ × ℕ) → get_elem? totals bucket ≡ some total → SawBucket new known bucket total.1

-- it has loaded the sum of a histogram, and then the redundant count
abbrev pub saw_sum : Actor → ℕ → ℤ → ℕ → Actor
saw_sum a histogram sum redundant = record a {
  hand = record a.hand { place = SumLoaded histogram sum };
  seen = record a.seen { counts = a.seen.counts ++ sight (histogram + HISTOGRAM_REDUNDANT) redundant };
}

-- A recorder has looked again, and these are all that a snapshot of the histogram may list, whatever the sum and the redundant count are:
-- of samples, if each that was visited comes after the record of its histogram, and no block comes twice.
pub record HasLookedAtAll (known : Known) (old : Actor) (counts : List (ℤ × ℕ)) (new : Actor) : Type 0 where
  pub looked : HasLooked old new
  pub saw : SamplesStandBehind new → NoRepeats new.seen.chain → (snapshot : Snapshot) → snapshot.counts.items ≡ counts
      → let summed = saw_sum new known.reference snapshot.sum snapshot.redundant in SawAll summed known (answered_as summed known snapshot)

-- ---- what is returned

-- A snapshot of a histogram is what its recorder saw since it began, and is noted after the earlier ones. The recorder has seen no less,
-- and all else that it has is unchanged.
pub record HasSnapshot (known : Known) (old : Actor) (snapshot : Snapshot) (new : Actor) : Type 0 where
  pub same : new ≡ record (looking old) {
    hand = record old.hand { place = new.hand.place };
    seen = new.seen;
    deltas = record old.deltas { snapshots = old.deltas.snapshots ++ answered_as old known snapshot ∷ [] };
  }
  pub free : is_bound new.hand.place ≡ false
  pub seen : SeesOn old.seen new.seen
  pub saw : SawAll new known (answered_as old known snapshot)
