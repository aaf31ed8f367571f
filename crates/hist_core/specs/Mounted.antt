-- What an actor has loaded of a histogram with buckets since it began to look at it: its single word, and its counts.
use Rattle.std.specs.Prelude.{◌≡◌, ◌≢◌, ◌⊎◌, true, ℕ, ◌+◌, ◌*◌, ◌%◌, ◌^◌, ◌≤◌, if◌then◌else◌, nat_eq, Some, None}
use Rattle.std.specs.Option.{option_eq}
use Rattle.bucket_ranges.specs.Single.{single_of, units_packed}
use Rattle.bucket_ranges.specs.Spec.{buckets_of}
use Rattle.segment_image.specs.declared.layout.TheConstants.{BLOCK_HEADER, HISTOGRAM_COUNTS, HISTOGRAM_SINGLE}
use Rattle.segment_machine.specs.declared.actor.Actor.{Actor}
use Rattle.segment_machine.specs.declared.actor.Known.{Known}
use Rattle.segment_machine.specs.declared.place.Look.{Look}
use Rattle.segment_machine.specs.declared.place.Place.TheVariants.{Looking, CountLoaded}
use Rattle.segment_machine.specs.Actor.{Buckets, SawSingle, word_seen}
use Rattle.segment_machine.specs.Calls.{LooksOff}
use Rattle.segment_machine.specs.Form.{is_off, SaysPacked}
use Rattle.segment_machine.specs.Note.{SawBucket}
use Rattle.segment_promises.specs.Calls.{BeganBefore}
use Rattle.hist_core.specs.declared.mounted.Mounted.{Mounted}

-- ---- what a count says

-- the units of a bucket whose count this is
abbrev pub total_at : Mounted → ℕ → ℕ → ℕ
total_at mounted bucket count = if option_eq nat_eq mounted.packed (Some bucket) then (count + mounted.kept) % 2 ^ 64 else count

-- ---- what it has loaded

-- It has loaded the single word of a histogram, and looks at it.
pub record HasWord (known : Known) (word : ℕ) (a : Actor) : Type 0 where
  pub began : BeganBefore a
  pub saw : SawSingle a (known.reference + HISTOGRAM_SINGLE) word
  pub formed : single_of a.segment.version (buckets_of known.spec) word ≢ None
  pub counts : ℕ
  pub stands : a.hand.place ≡ Looking (record { histogram = known.reference; single = Some word; counts = counts })

-- what it has loaded of a histogram whose counts are in use
abbrev pub look_at : Known → Mounted → ℕ → Look
look_at known mounted word = record { histogram = known.reference; single = Some word; counts = mounted.counts }

-- it is at the counts: before them, or at one of them
abbrev pub StandsAt : Actor → Look → Known → Type 0
StandsAt a look known =
    LooksOff a look known ⊎ ((bucket count : ℕ) × (a.hand.place ≡ CountLoaded look bucket count) × Buckets a look.histogram known)

-- It has loaded the counts reference too, since the single word is off, and is at the counts.
pub record AreMounted (known : Known) (mounted : Mounted) (word : ℕ) (a : Actor) : Type 0 where
  pub began : BeganBefore a
  pub saw : SawSingle a (known.reference + HISTOGRAM_SINGLE) word
  pub off : is_off word ≡ true
  pub says : SaysPacked a.segment.version (buckets_of known.spec) word mounted.packed mounted.kept
  pub few : mounted.kept ≤ 65535
  pub stands : StandsAt a (look_at known mounted word) known
  pub there : word_seen a.seen.words (known.reference + HISTOGRAM_COUNTS) ≡ Some mounted.counts
  pub used : mounted.counts ≢ 0
  pub within : mounted.counts + (BLOCK_HEADER + 2 * buckets_of known.spec) ≤ a.segment.shape.size

-- it has loaded the count of a bucket, which has this many units
abbrev pub HasLoaded : Known → Mounted → ℕ → ℕ → ℕ → Actor → Type 0
HasLoaded known mounted word bucket total a =
    ((count : ℕ) × (a.hand.place ≡ CountLoaded (look_at known mounted word) bucket count)
    × (total ≡ count + units_packed (single_of a.segment.version (buckets_of known.spec) word) bucket))
    × SawBucket a known bucket total
