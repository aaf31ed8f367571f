-- What a recorder is owed by a delta and a snapshot of a histogram: of each key at least what it had accepted, or seen, before the call.
use Rattle.std.specs.Prelude.{◌≡◌, ◌≢◌, ◌⊎◌, ℕ, ◌+◌, ◌<◌, ◌≤◌, ℤ, List, map, Some}
use Rattle.std.specs.List.{All, Contains}
use Rattle.segment_image.specs.declared.layout.TheConstants.{BLOCK_HEADER, HISTOGRAM_COUNTS, HISTOGRAM_REDUNDANT, HISTOGRAM_SINGLE, SAMPLE_COUNT}
use Rattle.bucket_ranges.specs.declared.spec.Spec.TheVariants.{Sparse}
use Rattle.bucket_ranges.specs.Single.{single_of, packed_bucket, units_packed}
use Rattle.bucket_ranges.specs.Spec.{buckets_of}
use Rattle.segment_calls.specs.declared.answer.Snapshot.{Snapshot}
use Rattle.segment_machine.specs.declared.actor.Actor.{Actor}
use Rattle.segment_machine.specs.declared.actor.Known.{Known}
use Rattle.segment_machine.specs.Actor.{SawSingle, accepted_by, all_counted, all_noted, bucket_key, units_listed, word_seen}
use Rattle.segment_machine.specs.Entry.{tally_noted, tally_units}
use Rattle.segment_machine.specs.Made.{IsFirstSample}
use Rattle.segment_invariant.specs.Consistent.{units_taken}
use Rattle.segment_promises.specs.Deltas.{SawOpen}
use Rattle.segment_promises.specs.Reads.{noted_at_opening}
use Rattle.live_segment.specs.declared.rule.Opening.{Opening}
use Rattle.live_segment.specs.Standing.{Standing}

-- ---- what it had seen

-- units of a bucket, in a single word
abbrev pub HadPacked : Actor → Known → ℕ → ℕ → Type 0
HadPacked a known bucket units =
    (word : ℕ) × Contains a.seen.singles (record { at = known.reference + HISTOGRAM_SINGLE; word = word })
    × (units ≡ units_packed (single_of a.segment.version (buckets_of known.spec) word) bucket)

-- a count of a bucket, among the counts at a reference that it had loaded
abbrev pub HadCount : Actor → Known → ℕ → ℕ → Type 0
HadCount a known bucket count =
    (counts : ℕ) × (word_seen a.seen.words (known.reference + HISTOGRAM_COUNTS) ≡ Some counts)
    × Contains a.seen.counts (record { at = counts + BLOCK_HEADER + bucket; word = count })

-- a count of the first sample of a value
abbrev pub HadSample : Actor → Known → ℤ → ℕ → Type 0
HadSample a known value count =
    (sample : ℕ) × IsFirstSample a.seen known.reference value sample
    × Contains a.seen.counts (record { at = sample + SAMPLE_COUNT; word = count })

-- a redundant count
abbrev pub HadRedundant : Actor → Known → ℕ → Type 0
HadRedundant a known count = Contains a.seen.counts (record { at = known.reference + HISTOGRAM_REDUNDANT; word = count })

-- ---- what it is owed

-- No units of a key can have been in transit as the call looked at it: it is not the key of the packed bucket, if the format has version 1
-- and the call found the single word off.
abbrev pub IsWhole : Actor → Known → ℤ → Type 0
IsWhole a known key =
    (a.segment.version ≡ 2) ⊎ (known.spec ≡ Sparse) ⊎ SawOpen a known
    ⊎ ((word bucket : ℕ) → SawSingle a (known.reference + HISTOGRAM_SINGLE) word
    → packed_bucket (single_of a.segment.version (buckets_of known.spec) word) ≡ Some bucket → bucket_key (Some known) bucket ≢ key)

-- Units of each key are enough for a recorder, by what it had before a call and what it has after it. For a whole key they are at least
-- what was accepted, by the recorder or before it was made, and at least what it had seen in a single word. For any key they are at least
-- each count that it had seen; in version 2 with what it had seen in a single word.
pub record IsEnough (known : Known) (old new : Actor) (units : ℤ → ℕ) : Type 0 where
  pub accepted : (key : ℤ) → IsWhole new known key → tally_units (accepted_by old) known.name key ≤ units key
  pub packed : (bucket n : ℕ) → bucket < buckets_of known.spec → IsWhole new known (bucket_key (Some known) bucket) → HadPacked old known bucket n
      → n ≤ units (bucket_key (Some known) bucket)
  pub counted : (bucket n : ℕ) → bucket < buckets_of known.spec → HadCount old known bucket n → n ≤ units (bucket_key (Some known) bucket)
  pub both : new.segment.version ≡ 2 → (bucket m n : ℕ) → bucket < buckets_of known.spec → HadCount old known bucket m → HadPacked old known bucket n
      → m + n ≤ units (bucket_key (Some known) bucket)
  pub sampled : known.spec ≡ Sparse → (value : ℤ) (n : ℕ) → HadSample old known value n → n ≤ units value

-- ---- of all deltas

-- As a delta ended, all deltas of all recorders of its segment together had taken enough, and no more than was counted; this one took no
-- more than all.
pub record TookEnough (opening : Opening) (number : ℕ) (known : Known) (delta : List (ℤ × ℕ)) (old new : Actor) : Type 0 where
  pub standing : Standing opening number new
  pub enough : IsEnough known old new (units_taken standing.state.actors known.name)
  pub most : (key : ℤ) → units_taken standing.state.actors known.name key ≤ tally_units (all_counted standing.state.actors) known.name key
  pub mine : (key : ℤ) → units_listed delta key ≤ units_taken standing.state.actors known.name key

-- ---- of a snapshot

-- Its totals are enough. Its redundant count is at least the units that the recorder had accepted, and each redundant count that it had seen.
pub record HasEnough (known : Known) (old : Actor) (snapshot : Snapshot) (new : Actor) : Type 0 where
  pub enough : IsEnough known old new (units_listed snapshot.counts.items)
  pub accepted : tally_noted (map (λ c. c.entry) old.entries.log) known.name ≤ snapshot.redundant
  pub redundant : (count : ℕ) → HadRedundant old known count → count ≤ snapshot.redundant

-- As it returned, no total of it was above what was counted of its key, and its redundant count was not above what was noted since the
-- opening, with what the opening had.
pub record HasNoMore (opening : Opening) (number : ℕ) (known : Known) (snapshot : Snapshot) (new : Actor) : Type 0 where
  pub standing : Standing opening number new
  pub totals : All (λ count. count.1 ≤ tally_units (all_counted standing.state.actors) known.name count.0) snapshot.counts.items
  pub redundant : snapshot.redundant ≤ noted_at_opening standing.opened known.name + tally_noted (all_noted standing.state.actors) known.name
