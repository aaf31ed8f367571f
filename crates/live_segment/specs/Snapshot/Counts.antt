-- What a recorder sees as it loads the counts of all buckets of a histogram, one after the other.
use Rattle.std.specs.Prelude.{◌≡◌, ◌⊎◌, false, ℕ, ◌+◌, ◌<◌, ◌≤◌, ℤ, List, length}
use mathlib.Core.Option.{some}
use lib.ListN.{get_elem?}
use Rattle.bucket_ranges.specs.Spec.{buckets_of}
use Rattle.segment_image.specs.declared.layout.TheConstants.{BLOCK_HEADER}
use Rattle.segment_machine.specs.declared.actor.Actor.{Actor}
use Rattle.segment_machine.specs.declared.actor.Known.{Known}
use Rattle.segment_machine.specs.declared.place.Look.{Look}
use Rattle.segment_machine.specs.declared.place.Place.TheVariants.{CountLoaded}
use Rattle.segment_machine.specs.Actor.{Buckets, SawCount, is_opener}
use Rattle.segment_machine.specs.Calls.{IsUnits, LooksOff}
use Rattle.live_segment.specs.declared.segment.Segment.{Segment}
use Rattle.live_segment.specs.Holders.{table_of}
use Rattle.segment_promises.specs.Onward.{Grows}
use Rattle.live_segment.specs.Steps.{Pass}

-- it is at the counts of a histogram that it knows, whose single word it found off: before them, or at one of them
abbrev pub StandsAt : Actor → Look → Known → Type 0
StandsAt a look known =
    LooksOff a look known ⊎ ((bucket count : ℕ) × (a.hand.place ≡ CountLoaded look bucket count) × Buckets a look.histogram known)

-- a recorder's seat may load the counts of this many buckets, which are all, from those at a word
pub record MayLookAt (segment : Segment) (seat : Pass) (counts buckets : ℕ) : Type 0 where
  pub table : seat.table_id ≡ table_of segment
  pub recorder : is_opener seat.me.0.role ≡ false
  pub look : Look
  pub known : Known
  pub stands : StandsAt seat.me.0 look known
  pub where_is : counts ≡ look.counts
  pub all : buckets ≡ buckets_of known.spec
  pub since : seat.me.0.since.counts ≤ length seat.me.0.seen.counts

-- It has seen the counts of the first buckets since it began to look, each next to its key, and is at the same counts. None is more than
-- all units of a segment. It has seen more counts, and all else is unchanged.
pub record HasLookedAt (counts : ℕ) (old : Actor) (passed : ℕ) (totals : List (ℤ × ℕ)) (new : Actor) : Type 0 where
  pub saw : (bucket : ℕ) (total : ℤ × ℕ) → bucket < passed → get_elem? totals bucket ≡ some total → SawCount new (counts + BLOCK_HEADER + bucket) total.1
  pub few : (bucket : ℕ) (total : ℤ × ℕ) → bucket < passed → get_elem? totals bucket ≡ some total → IsUnits total.1
  pub stands : (look : Look) (known : Known) → StandsAt old look known → StandsAt new look known
  pub more : Grows old.seen.counts new.seen.counts
  pub view : new ≡ record old { hand = record old.hand { place = new.hand.place }; seen = record old.seen { counts = new.seen.counts } }
