-- The events by which a call counts, on what an entry's progress depends on: the counts reference of a histogram, a count, the sum, and the
-- redundant count.
-- All about an event is here in one place: what it acts on, when it is ready, what becomes of its actor, and what this learns.
use Rattle.std.specs.Prelude.{◌≡◌, ◌⊎◌, true, false, ℕ, ◌+◌, ℤ, List, ◌++◌, ⊤, ◌==◌}
use Rattle.std.specs.List.{Contains}
use Rattle.segment_image.specs.declared.layout.TheConstants.{BLOCK_HEADER, HISTOGRAM_COUNTS, SAMPLE_COUNT, HISTOGRAM_REDUNDANT, HISTOGRAM_SUM}
use Rattle.segment_machine.specs.declared.entry.EntryProgress.{EntryProgress}
use Rattle.segment_machine.specs.declared.place.Look.{Look}
use Rattle.segment_machine.specs.declared.place.Place.TheVariants.{Looking, Idle}
use Rattle.segment_machine.specs.declared.actor.Actor.{Actor}
use Rattle.segment_machine.specs.declared.actor.Known.{Known}
use Rattle.segment_machine.specs.Entry.{is_counted, is_summed}
use Rattle.segment_machine.specs.Actor.{Buckets, Sparse}
use Rattle.segment_machine.specs.Made.{IsFirstSample}
use Rattle.std.specs.Int.{w64, cast_unsigned}
use Rattle.alloc_core.specs.Event as atomic
use Rattle.segment_machine.specs.Operation.{Operation, single, add}
use Rattle.segment_machine.specs.Calls.{MayTurn, IsNext, CountsNext, IsKeyOfBucket, LooksOff, change_next, count_next, sight, sight_counts, ended, look_of, IsUnits, AreCountsOf, CountsStay}

-- the events that count
pub data CountingEvent : Type 0 where
  load_counts : (histogram : ℕ) → CountingEvent
  add_count : (at units : ℕ) → CountingEvent
  add_sum : (histogram : ℕ) (amount : ℤ) → CountingEvent
  add_redundant : (histogram units : ℕ) → CountingEvent

-- ---- what they act on

abbrev pub operation : ℕ → ℕ → CountingEvent → Operation
operation size version (load_counts histogram) = single (atomic.load (histogram + HISTOGRAM_COUNTS))
operation size version (add_count at units) = add at units
operation size version (add_sum histogram amount) = add (histogram + HISTOGRAM_SUM) (cast_unsigned w64 amount)
operation size version (add_redundant histogram units) = add (histogram + HISTOGRAM_REDUNDANT) units

-- ---- when they are ready

abbrev pub SumsNext : Actor → EntryProgress → Type 0
SumsNext a c = IsNext a c × (is_counted c ≡ true) × (is_summed c ≡ false)

abbrev pub NotesNext : Actor → EntryProgress → Type 0
NotesNext a c = IsNext a c × (is_counted c ≡ true) × (is_summed c ≡ true)

-- the units of the next entry are added to a count: that of its bucket, if the single word is off, or that of the first sample of its
-- value
abbrev pub MayCount : Actor → ℕ → ℕ → Type 0
MayCount a at units =
    (c : EntryProgress) × (known : Known) × CountsNext a c × (c.entry.name ≡ known.name) × (c.entry.units ≡ units)
    × (((look : Look) × (bucket : ℕ) × LooksOff a look known × IsKeyOfBucket known bucket c.entry.key
    × (at ≡ look.counts + BLOCK_HEADER + bucket))
    ⊎ ((sample : ℕ) × MayTurn a × Sparse a known.reference known × IsFirstSample a.seen known.reference c.entry.key sample × (at ≡ sample + SAMPLE_COUNT)))

abbrev pub Ready : Actor → CountingEvent → Type 0
Ready a (load_counts histogram) = MayTurn a × ((known : Known) × Buckets a histogram known)
Ready a (add_count at units) = MayCount a at units
Ready a (add_sum histogram amount) =
    MayTurn a × (c : EntryProgress) × (known : Known) × SumsNext a c × (c.entry.amount ≡ amount)
    × Contains a.answers.names known × (known.reference ≡ histogram) × (known.name ≡ c.entry.name)
Ready a (add_redundant histogram units) =
    MayTurn a × (c : EntryProgress) × (known : Known) × NotesNext a c × (c.entry.units ≡ units)
    × Contains a.answers.names known × (known.reference ≡ histogram) × (known.name ≡ c.entry.name)

-- ---- what becomes of the actor

abbrev pub sum_next : List EntryProgress → List EntryProgress
sum_next list = change_next (λ c. record c { summed = true }) list

-- the entry that is next has its units noted
abbrev pub note_next : List EntryProgress → List EntryProgress
note_next list = change_next (λ c. record c { noted = true }) list

-- the actor after an event that found this number
abbrev pub next : Actor → CountingEvent → ℕ → Actor
next a (load_counts histogram) found = record a {
  hand = record a.hand { place = Looking (record (look_of a.hand.place histogram) { counts = found }) };
  seen = record a.seen { words = a.seen.words ++ sight_counts histogram found; ends = ended a.seen.ends (histogram + HISTOGRAM_COUNTS) (found == 0) };
}
next a (add_count at units) found =
    record a { hand = record a.hand { place = Idle }; entries = record a.entries { running = count_next a.entries.running }; seen = record a.seen { counts = a.seen.counts ++ sight at (found + units) } }
next a (add_sum histogram amount) found = record a { hand = record a.hand { place = Idle }; entries = record a.entries { running = sum_next a.entries.running } }
next a (add_redundant histogram units) found =
    record a { hand = record a.hand { place = Idle }; entries = record a.entries { running = note_next a.entries.running }; seen = record a.seen { counts = a.seen.counts ++ sight (histogram + HISTOGRAM_REDUNDANT) (found + units) } }

-- ---- what it learns

abbrev pub Learned : Actor → CountingEvent → ℕ → Type 0
Learned a (load_counts histogram) found = AreCountsOf a histogram found × CountsStay a.seen histogram found
Learned a (add_count at units) found = IsUnits (found + units)
Learned a (add_redundant histogram units) found = IsUnits (found + units)
Learned a _ found = ⊤
