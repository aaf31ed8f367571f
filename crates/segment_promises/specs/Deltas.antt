-- What deltas take and snapshots return: at least what their recorder had accepted or seen, and, if they are final, all that was counted.
use Rattle.std.specs.Prelude.{◌≡◌, ◌≢◌, ◌⊎◌, true, false, ℕ, ◌+◌, ◌<◌, ◌≤◌, ℤ, ◌+ℤ◌, List, ◌∷◌, ◌++◌, map, take, Some}
use Rattle.std.specs.List.{Contains, All}
use mathlib.Core.Option.{some}
use lib.ListN.{get_elem?}
use Rattle.segment_image.specs.declared.layout.TheConstants.{BLOCK_HEADER, HISTOGRAM_COUNTS, HISTOGRAM_REDUNDANT, HISTOGRAM_SINGLE, SAMPLE_COUNT}
use Rattle.segment_image.specs.Shape.{Dimensions}
use Rattle.segment_image.specs.Blocks.{field_at}
use Rattle.bucket_ranges.specs.Spec.{buckets_of}
use Rattle.bucket_ranges.specs.declared.spec.Spec.TheVariants as spec
use Rattle.bucket_ranges.specs.Single.{single_of, packed_bucket, units_packed}
use Rattle.segment_machine.specs.declared.actor.Actor.{Actor}
use Rattle.segment_machine.specs.declared.actor.Answered.{Answered}
use Rattle.segment_machine.specs.declared.actor.Known.{Known}
use Rattle.segment_machine.specs.declared.actor.Taken.{Taken}
use Rattle.segment_machine.specs.Entry.{tally_units, tally_sum, tally_noted}
use Rattle.segment_calls.specs.Form.{is_off}
use Rattle.segment_machine.specs.Actor.{has_buckets, bucket_key, log_of, units_listed, portion_of, taken_of, taken_units, taken_sum, IsFinal, SawSingle, accepted_by, accepted_since, is_opener, made_of}
use Rattle.segment_machine.specs.Note.{TookAll, SawAll}
use Rattle.segment_machine.specs.State.{State}
use Rattle.segment_machine.specs.Reached.{IsJoined}
use Rattle.segment_invariant.specs.Consistent.{units_taken}
use Rattle.segment_invariant.specs.Body.{Listed, Anatomy}
use Rattle.segment_invariant.specs.Seen.{IsFirstOf}
use Rattle.segment_invariant.specs.Invariant.{Invariant}
use Rattle.segment_promises.specs.Reads.{noted_at_opening}

-- ---- what had been seen before a delta or a snapshot began

-- a count of a bucket, in the block of the counts reference
abbrev pub HadCount : List ℕ → Actor → Known → ℕ → ℕ → Type 0
HadCount words a known bucket count =
    let counts = field_at words known.reference HISTOGRAM_COUNTS in
    (counts ≢ 0) × Contains (take a.since.counts a.seen.counts) (record { at = counts + BLOCK_HEADER + bucket; word = count })

-- the units of a bucket that a single word had
abbrev pub HadPacked : Actor → Known → ℕ → ℕ → Type 0
HadPacked a known bucket units =
    (word : ℕ) × Contains (take a.since.singles a.seen.singles) (record { at = known.reference + HISTOGRAM_SINGLE; word = word })
    × (units ≡ units_packed (single_of a.segment.version (buckets_of known.spec) word) bucket)

-- a count of the sample of a value, which is the first of it on the list
abbrev pub HadSample : List Listed → Actor → Known → ℤ → ℕ → Type 0
HadSample records a known value count =
    (at : ℕ) × IsFirstOf records known.reference value at
    × Contains (take a.since.counts a.seen.counts) (record { at = at + SAMPLE_COUNT; word = count })

-- ---- which buckets are whole

-- since its delta or snapshot began, it saw no single word of a histogram that is off
abbrev pub SawOpen : Actor → Known → Type 0
SawOpen a known = (word : ℕ) → SawSingle a (known.reference + HISTOGRAM_SINGLE) word → is_off word ≡ false

-- a bucket of which nothing can be in transit for an actor that looks at it: in version 2 any, in version 1 any but the packed one
-- once the actor saw the word off
abbrev pub IsWhole : Actor → Known → ℕ → Type 0
IsWhole a known bucket =
    (a.segment.version ≡ 2) ⊎ SawOpen a known
    ⊎ ((word : ℕ) → SawSingle a (known.reference + HISTOGRAM_SINGLE) word → packed_bucket (single_of a.segment.version (buckets_of known.spec) word) ≢ Some bucket)

-- ---- what is owed

-- Units of each bucket are enough for a recorder that looked at a histogram. For a bucket of which nothing can be in transit they are at
-- least what was accepted, by the recorder or before it was made, and at least what each single word had that it had seen. For any bucket
-- they are at least each count that it had seen; in version 2 with the units of each single word that it had seen.
pub record HasBuckets (words : List ℕ) (a : Actor) (known : Known) (units : ℕ → ℕ) : Type 0 where
  pub accepted : (i : ℕ) → i < buckets_of known.spec → IsWhole a known i → tally_units (accepted_by a) known.name (bucket_key (Some known) i) ≤ units i
  pub packed : (i n : ℕ) → i < buckets_of known.spec → IsWhole a known i → HadPacked a known i n → n ≤ units i
  pub counted : (i n : ℕ) → i < buckets_of known.spec → HadCount words a known i n → n ≤ units i
  pub both : a.segment.version ≡ 2 → (i m n : ℕ) → i < buckets_of known.spec → HadCount words a known i m → HadPacked a known i n → m + n ≤ units i

-- For each value of a sparse histogram the units are at least what was accepted, and at least each count of it that the recorder had seen.
pub record HasValues (records : List Listed) (a : Actor) (known : Known) (units : ℤ → ℕ) : Type 0 where
  pub accepted : (value : ℤ) → tally_units (accepted_by a) known.name value ≤ units value
  pub counted : (value : ℤ) (n : ℕ) → HadSample records a known value n → n ≤ units value

-- units of each key are enough for a recorder that looked at a histogram
abbrev pub IsEnough : List ℕ → List Listed → Actor → Known → (ℤ → ℕ) → Type 0
IsEnough words records a known units =
    (has_buckets known.spec ≡ true → HasBuckets words a known (λ i. units (bucket_key (Some known) i)))
    × (known.spec ≡ spec.Sparse → HasValues records a known units)

-- once a delta has taken all that it saw, all deltas together took enough for its recorder
abbrev pub DeltasTakeAccepted : Type 0
DeltasTakeAccepted = (shape : Dimensions) (opened : Anatomy) (state : State) (who : ℕ) (a : Actor) (known : Known)
    → (kept : Invariant shape opened state) → get_elem? state.actors who ≡ some a → is_opener a.role ≡ false → Contains a.answers.names known → TookAll a known
    → IsEnough state.words kept.anatomy.records a known (units_taken state.actors known.name)

-- a snapshot has enough for its recorder when it returns; and its redundant count is at least that of the opening plus the units that were
-- accepted since, and at least each redundant count that its recorder had seen
abbrev pub SnapshotsSeeAccepted : Type 0
SnapshotsSeeAccepted = (shape : Dimensions) (opened : Anatomy) (state : State) (who : ℕ) (opener a : Actor) (known : Known) (answered : Answered)
    → (kept : Invariant shape opened state) → get_elem? state.actors 0 ≡ some opener → get_elem? state.actors who ≡ some a → is_opener a.role ≡ false
    → Contains a.answers.names known → SawAll a known answered
    → IsEnough state.words kept.anatomy.records a known (units_listed answered.counts)
    × (noted_at_opening opened known.name + tally_noted (accepted_since opener a) known.name ≤ answered.redundant)
    × ((count : ℕ) → Contains (take a.since.counts a.seen.counts) (record { at = known.reference + HISTOGRAM_REDUNDANT; word = count }) → count ≤ answered.redundant)

-- ---- after the joins

-- if a final delta of a name was taken, all deltas together took its totals and its sum
abbrev pub FinalDeltasTakeAll : Type 0
FinalDeltasTakeAll = (shape : Dimensions) (opened : Anatomy) (state : State) (a : Actor) (t : Taken)
    → Invariant shape opened state → IsJoined state a → Contains a.deltas.taken t → IsFinal (made_of a.role) (log_of a) t.name t.moment
    → ((key : ℤ) → taken_units (taken_of a) t.name key ≡ tally_units (log_of a) t.name key)
    × (taken_sum (taken_of a) t.name ≡ tally_sum (log_of a) t.name)

-- all deltas took of a delta's name what the entries of the log before its moment add up to, and what these later deltas took
abbrev pub TookUpTo : Actor → Taken → List Taken → Type 0
TookUpTo a t later =
    ((key : ℤ) → taken_units (taken_of a) t.name key
    ≡ tally_units (take t.moment.log (log_of a)) t.name key + taken_units (map portion_of later) t.name key)
    × (taken_sum (taken_of a) t.name ≡ tally_sum (take t.moment.log (log_of a)) t.name +ℤ taken_sum (map portion_of later) t.name)

-- if no recorder was outstanding when the recorder of a delta was made, and none was made since, the deltas up to that one took exactly the
-- entries before it
abbrev pub LoneDeltasTakeAll : Type 0
LoneDeltasTakeAll = (shape : Dimensions) (opened : Anatomy) (state : State) (a : Actor) (front behind : List Taken) (t : Taken)
    → Invariant shape opened state → IsJoined state a → a.deltas.taken ≡ front ++ t ∷ behind → t.moment.outstanding ≡ 0 → t.moment.before + 1 ≡ made_of a.role
    → TookUpTo a t behind

-- a final snapshot has the totals, the sum and the redundant count
abbrev pub FinalSnapshotsAreExact : Type 0
FinalSnapshotsAreExact = (shape : Dimensions) (opened : Anatomy) (state : State) (a : Actor) (s : Answered)
    → Invariant shape opened state → IsJoined state a → Contains a.deltas.snapshots s → IsFinal (made_of a.role) (log_of a) s.name s.moment
    → ((key : ℤ) → units_listed s.counts key ≡ tally_units (log_of a) s.name key)
    × (s.sum ≡ tally_sum (log_of a) s.name)
    × (s.redundant ≡ noted_at_opening opened s.name + tally_noted (map (λ c. c.entry) a.entries.log) s.name)

-- no bucket and no value of any snapshot is above the final total
abbrev pub SnapshotsStayBelow : Type 0
SnapshotsStayBelow = (shape : Dimensions) (opened : Anatomy) (state : State) (a : Actor) (s : Answered)
    → Invariant shape opened state → IsJoined state a → Contains a.deltas.snapshots s
    → All (λ count. count.1 ≤ tally_units (log_of a) s.name count.0) s.counts
