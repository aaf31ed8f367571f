-- The events of deltas and snapshots, on a count, a mark, the single mark, the sum, its mark, and the redundant count.
-- All about an event is here in one place: what it acts on, when it is ready, what becomes of its actor, and what this learns.
use Rattle.std.specs.Prelude.{◌≡◌, ◌≢◌, ◌⊎◌, Bool, true, false, ℕ, ◌+◌, ◌-◌, ◌*◌, ◌<◌, ◌≤◌, ℤ, List, [], ◌∷◌, ◌++◌, Some, nat_lt, max, pos, ◌+ℤ◌, ◌-ℤ◌, if◌then◌else◌, unwrap_or, unsigned_abs}
use Rattle.std.specs.List.{Contains}
use Rattle.bucket_ranges.specs.Spec.{buckets_of}
use Rattle.segment_image.specs.declared.layout.TheConstants.{BLOCK_HEADER, HISTOGRAM_SINGLE, SAMPLE_COUNT, SAMPLE_HISTOGRAM, SAMPLE_MARK, HISTOGRAM_REDUNDANT, HISTOGRAM_SINGLE_MARK, SAMPLE_VALUE, HISTOGRAM_SUM, HISTOGRAM_SUM_MARK}
use Rattle.bucket_ranges.specs.Single.{packed_bucket}
use Rattle.segment_machine.specs.declared.place.Look.{Look}
use Rattle.segment_machine.specs.declared.place.Place.{Place}
use Rattle.segment_machine.specs.declared.place.Place.TheVariants.{Looking, CountLoaded, SampleLoaded, SumLoaded, Idle}
use Rattle.segment_machine.specs.declared.actor.Actor.{Actor}
use Rattle.segment_machine.specs.declared.actor.Known.{Known}
use Rattle.segment_machine.specs.declared.actor.Taken.{Taken}
use Rattle.segment_calls.specs.Form.{units_in}
use Rattle.segment_machine.specs.Actor.{Buckets, Sparse, bucket_key, word_seen, SawSingle, known_at}
use Rattle.segment_machine.specs.Made.{SawSample, IsFirstSample}
use Rattle.std.specs.Int.{w64, cast_signed, cast_unsigned}
use Rattle.alloc_core.specs.Event as atomic
use Rattle.segment_machine.specs.Operation.{Operation, single, raise, swap}
use Rattle.segment_machine.specs.Calls.{MayTurn, LooksOpen, LooksOff, change_last, sight, back, form_seen, IsUnits}

-- the events of deltas and snapshots
pub data TakingEvent : Type 0 where
  load_count : (at : ℕ) → TakingEvent
  raise_mark : (at least : ℕ) → TakingEvent
  raise_single_mark : (histogram least : ℕ) → TakingEvent
  load_sum : (histogram : ℕ) → TakingEvent
  swap_sum_mark : (histogram : ℕ) (sum : ℤ) → TakingEvent
  load_redundant : (histogram : ℕ) → TakingEvent

-- ---- what they act on

abbrev pub operation : ℕ → ℕ → TakingEvent → Operation
operation size version (load_count at) = single (atomic.load at)
operation size version (raise_mark at least) = raise at least
operation size version (raise_single_mark histogram least) = raise (histogram + HISTOGRAM_SINGLE_MARK) least
operation size version (load_sum histogram) = single (atomic.load (histogram + HISTOGRAM_SUM))
operation size version (swap_sum_mark histogram sum) = swap (histogram + HISTOGRAM_SUM_MARK) (cast_unsigned w64 sum)
operation size version (load_redundant histogram) = single (atomic.load (histogram + HISTOGRAM_REDUNDANT))

-- ---- when they are ready

-- it knows the single word or the counts of a histogram with buckets
abbrev pub is_looking : Place → Bool
is_looking (Looking look) = true
is_looking (CountLoaded look bucket count) = true
is_looking _ = false

-- a count is loaded: that of a bucket, if the single word is off, or that of a sample that was visited on the list
abbrev pub MayLoadCount : Actor → ℕ → Type 0
MayLoadCount a at =
    ((look : Look) × (known : Known) × (bucket : ℕ)
    × (LooksOff a look known ⊎ ((b count : ℕ) × (a.hand.place ≡ CountLoaded look b count) × Buckets a look.histogram known))
    × (bucket < buckets_of known.spec) × (at ≡ look.counts + BLOCK_HEADER + bucket))
    ⊎ ((known : Known) × (sample : ℕ) × (value : ℤ) × Sparse a known.reference known
    × Contains a.seen.chain sample × SawSample a.seen known.reference value sample × (at ≡ sample + SAMPLE_COUNT)
    × MayTurn a × (is_looking a.hand.place ≡ false))

-- the running delta is of this histogram
abbrev pub Takes : Actor → ℕ → Known → Type 0
Takes a histogram known =
    (a.deltas.taking ≡ true) × Contains a.answers.names known × (known.reference ≡ histogram)
    × ((before : List Taken) × (last : Taken) × (a.deltas.taken ≡ before ++ last ∷ []) × (last.name ≡ known.name))

-- a mark is raised to the count that was loaded: of a bucket other than the packed one, or of a sample
abbrev pub MayRaise : Actor → ℕ → ℕ → Type 0
MayRaise a at least =
    (1 ≤ least)
    × (((look : Look) × (known : Known) × (bucket word : ℕ) × (a.hand.place ≡ CountLoaded look bucket least)
    × Takes a look.histogram known × (look.single ≡ Some word)
    × (packed_bucket (form_seen a look.histogram word) ≢ Some bucket)
    × (at ≡ look.counts + BLOCK_HEADER + buckets_of known.spec + bucket))
    ⊎ ((sample histogram : ℕ) × (known : Known) × (a.hand.place ≡ SampleLoaded sample least)
    × (word_seen a.seen.words (sample + SAMPLE_HISTOGRAM) ≡ Some histogram) × Takes a histogram known × (at ≡ sample + SAMPLE_MARK)))

-- the single mark is raised: to the packed units that were seen since the delta began; or, if the word is off, to the count that was loaded
-- of the packed bucket, in version 2 with the units that the word keeps
abbrev pub MayRaiseSingle : Actor → ℕ → ℕ → Type 0
MayRaiseSingle a histogram least =
    (1 ≤ least) × ((known : Known) × Takes a histogram known)
    × (((look : Look) × (known : Known) × (word : ℕ) × LooksOpen a histogram word look known
    × SawSingle a (histogram + HISTOGRAM_SINGLE) word × (least ≡ units_in (form_seen a histogram word)))
    ⊎ ((look : Look) × (bucket count word : ℕ) × (a.hand.place ≡ CountLoaded look bucket count) × (look.histogram ≡ histogram)
    × (look.single ≡ Some word) × (packed_bucket (form_seen a histogram word) ≡ Some bucket)
    × (least ≡ count + units_in (form_seen a histogram word))))

abbrev pub Ready : Actor → TakingEvent → Type 0
Ready a (load_count at) = MayLoadCount a at
Ready a (raise_mark at least) = MayRaise a at least
Ready a (raise_single_mark histogram least) = MayRaiseSingle a histogram least
Ready a (load_sum histogram) = MayTurn a × ((known : Known) × Contains a.answers.names known × (known.reference ≡ histogram))
Ready a (swap_sum_mark histogram sum) = (known : Known) × Takes a histogram known × (a.hand.place ≡ SumLoaded histogram sum)
Ready a (load_redundant histogram) =
    ((sum : ℤ) × (a.hand.place ≡ SumLoaded histogram sum)) × ((known : Known) × Contains a.answers.names known × (known.reference ≡ histogram))

-- ---- what becomes of the actor

-- the place after a count was loaded: that of a bucket, or of a sample
abbrev pub at_count : Place → ℕ → ℕ → Place
at_count (Looking look) at count = CountLoaded look (at - (look.counts + BLOCK_HEADER)) count
at_count (CountLoaded look bucket before) at count = CountLoaded look (at - (look.counts + BLOCK_HEADER)) count
at_count _ at count = SampleLoaded (at - SAMPLE_COUNT) count

-- the key whose units are taken at a place
abbrev pub taken_key : Actor → Place → ℤ
taken_key a (CountLoaded look bucket count) = bucket_key (known_at a.answers.names look.histogram) bucket
taken_key a (SampleLoaded sample count) = cast_signed w64 (unwrap_or (word_seen a.seen.words (sample + SAMPLE_VALUE)) 0)
taken_key a _ = pos 0

abbrev pub packed_key : Actor → Look → ℤ
packed_key a look =
    bucket_key (known_at a.answers.names look.histogram)
    (unwrap_or (packed_bucket (form_seen a look.histogram (unwrap_or look.single 0))) 0)

abbrev pub single_key : Actor → Place → ℤ
single_key a (Looking look) = packed_key a look
single_key a (CountLoaded look bucket count) = packed_key a look
single_key a _ = pos 0

-- a mark that was m and is at least t now: the units numbered m + 1 to t are taken
abbrev pub take_units : ℤ → ℕ → ℕ → Taken → Taken
take_units key least found taken =
    record taken { counts = taken.counts ++ (if nat_lt found least then (key, least - found) ∷ [] else []) }

-- a sum mark that was m and is the sum now: the difference is taken, in addition to what was taken of the sum before
abbrev pub swap_sum : ℤ → ℤ → Taken → Taken
swap_sum sum mark taken = record taken { sum = taken.sum +ℤ (sum -ℤ mark); swapped = true }

-- the actor after an event that found this number
abbrev pub next : Actor → TakingEvent → ℕ → Actor
next a (load_count at) found =
    record a { hand = record a.hand { place = at_count a.hand.place at found }; seen = record a.seen { counts = a.seen.counts ++ sight at found } }
next a (raise_mark at least) found = record a {
  hand = record a.hand { place = back a.hand.place };
  deltas = record a.deltas { taken = change_last (take_units (taken_key a a.hand.place) least found) a.deltas.taken };
  seen = record a.seen { counts = a.seen.counts ++ sight at (max found least) };
}
next a (raise_single_mark histogram least) found = record a {
  hand = record a.hand { place = back a.hand.place };
  deltas = record a.deltas { taken = change_last (take_units (single_key a a.hand.place) least found) a.deltas.taken };
  seen = record a.seen { counts = a.seen.counts ++ sight (histogram + HISTOGRAM_SINGLE_MARK) (max found least) };
}
next a (load_sum histogram) found = record a { hand = record a.hand { place = SumLoaded histogram (cast_signed w64 found) } }
next a (swap_sum_mark histogram sum) found =
    record a { hand = record a.hand { place = Idle }; deltas = record a.deltas { taken = change_last (swap_sum sum (cast_signed w64 found)) a.deltas.taken } }
next a (load_redundant histogram) found = record a { seen = record a.seen { counts = a.seen.counts ++ sight (histogram + HISTOGRAM_REDUNDANT) found } }

-- ---- what it learns

-- a sum that fits
abbrev pub IsSumWithin : ℕ → Type 0
IsSumWithin found = unsigned_abs (cast_signed w64 found) ≤ 2147483648 * 4294967295

-- a later sample of a value, which the actor visited
abbrev pub IsLaterSample : Actor → ℕ → Type 0
IsLaterSample a sample =
    (known : Known) × (value : ℤ) × (first : ℕ) × Sparse a known.reference known × Contains a.seen.chain sample
    × SawSample a.seen known.reference value sample × IsFirstSample a.seen known.reference value first × (first ≢ sample)

abbrev pub Learned : Actor → TakingEvent → ℕ → Type 0
Learned a (load_count at) found = IsUnits found × ((sample : ℕ) → at ≡ sample + SAMPLE_COUNT → IsLaterSample a sample → found ≡ 0)
Learned a (raise_mark at least) found = IsUnits found
Learned a (raise_single_mark histogram least) found = IsUnits found
Learned a (load_sum histogram) found = IsSumWithin found
Learned a (swap_sum_mark histogram sum) found =
    IsSumWithin found × (unsigned_abs sum ≤ 2147483648 * 4294967295) × (unsigned_abs (sum -ℤ cast_signed w64 found) ≤ 2147483648 * 4294967295)
Learned a (load_redundant histogram) found = IsUnits found
