-- The events of packing and mounting, on the single word, the counts reference, the type of a lost block, and the count to which units
-- move.
-- All about an event is here in one place: what it acts on, when it is ready, what becomes of its actor, and what this learns.
use Rattle.std.specs.Prelude.{◌≡◌, ◌≢◌, Bool, true, false, ℕ, ◌+◌, ◌*◌, ◌≤◌, [], ◌++◌, Some, None, ◌&&◌, ◌==◌, nat_lt, if◌then◌else◌, Option, unwrap_or, ⊤}
use Rattle.std.specs.List.{Contains}
use Rattle.bucket_ranges.specs.Spec.{buckets_of}
use Rattle.segment_image.specs.declared.layout.TheConstants.{BLOCK_HEADER, BLOCK_TYPE, HISTOGRAM_COUNTS, HISTOGRAM_SINGLE, TYPE_COUNTS, TYPE_PURGED}
use Rattle.bucket_ranges.specs.Single.{packed_bucket, single_of}
use Rattle.segment_machine.specs.declared.entry.EntryProgress.{EntryProgress}
use Rattle.segment_machine.specs.declared.place.Look.{Look}
use Rattle.segment_machine.specs.declared.place.Place.{Place}
use Rattle.segment_machine.specs.declared.place.Place.TheVariants.{Looking, Losing, Moving, Idle}
use Rattle.segment_machine.specs.declared.actor.Actor.{Actor}
use Rattle.segment_machine.specs.declared.actor.Known.{Known}
use Rattle.segment_machine.specs.declared.actor.Own.{Own}
use Rattle.segment_machine.specs.Entry.{is_counted}
use Rattle.segment_calls.specs.Form.{units_in, IsPacking, off_word, Leads}
use Rattle.segment_machine.specs.Actor.{Buckets}
use Rattle.bucket_ranges.specs.declared.single.SingleWord.{SingleWord}
use Rattle.alloc_core.specs.Event as atomic
use Rattle.segment_machine.specs.Operation.{Operation, single, add}
use Rattle.segment_machine.specs.Calls.{MayTurn, IsNext, CountsNext, IsKeyOfBucket, LooksOpen, count_next, change_own, without, sight, sight_counts, look_of, back, form_seen, IsUnits, AreCountsOf, CountsStay}

-- the events on the single word, the counts reference and moved units
pub data PackingEvent : Type 0 where
  load_single : (histogram : ℕ) → PackingEvent
  pack : (histogram old new : ℕ) → PackingEvent
  mount_counts : (histogram at : ℕ) → PackingEvent
  purge_block : (at : ℕ) → PackingEvent
  disable : (histogram old : ℕ) → PackingEvent
  add_moved : (counts bucket units : ℕ) → PackingEvent

-- ---- what they act on

abbrev pub operation : ℕ → ℕ → PackingEvent → Operation
operation size version (load_single histogram) = single (atomic.load (histogram + HISTOGRAM_SINGLE))
operation size version (pack histogram old new) = single (atomic.exchange (histogram + HISTOGRAM_SINGLE) old new)
operation size version (mount_counts histogram at) = single (atomic.exchange (histogram + HISTOGRAM_COUNTS) 0 at)
operation size version (purge_block at) = single (atomic.store (at + BLOCK_TYPE) TYPE_PURGED)
operation size version (disable histogram old) = single (atomic.exchange (histogram + HISTOGRAM_SINGLE) old (off_word version old))
operation size version (add_moved counts bucket units) = add (counts + BLOCK_HEADER + bucket) units

-- ---- when they are ready

-- what the counts block of a histogram with n buckets is before it is mounted
abbrev pub IsBlankCounts : Own → ℕ → Type 0
IsBlankCounts own n = (own.tag ≡ TYPE_COUNTS) × (own.next ≡ 0) × (own.payload ≡ []) × (BLOCK_HEADER + 2 * n ≤ own.size)

-- a call that counts in a histogram may make room there: no delta is running, and an entry that is next is of this histogram and not
-- counted yet
abbrev pub CountsIn : Actor → Known → Type 0
CountsIn a known = (a.deltas.taking ≡ false) × ((c : EntryProgress) → IsNext a c → (is_counted c ≡ false) × (c.entry.name ≡ known.name))

abbrev pub Ready : Actor → PackingEvent → Type 0
Ready a (load_single histogram) = MayTurn a × ((known : Known) × Buckets a histogram known)
Ready a (pack histogram old new) =
    (c : EntryProgress) × (look : Look) × (known : Known) × (bucket : ℕ) × CountsNext a c × LooksOpen a histogram old look known
    × (c.entry.name ≡ known.name) × IsKeyOfBucket known bucket c.entry.key × IsPacking bucket c.entry.units old new
Ready a (mount_counts histogram at) =
    (own : Own) × (known : Known) × MayTurn a × Contains a.hand.own own × (own.at ≡ at) × Buckets a histogram known
    × CountsIn a known × IsBlankCounts own (buckets_of known.spec)
Ready a (purge_block at) = (look : Look) × (a.hand.place ≡ Losing look at)
Ready a (disable histogram old) =
    (look : Look) × (known : Known) × LooksOpen a histogram old look known × (look.counts ≢ 0) × CountsIn a known
Ready a (add_moved counts bucket units) = (look : Look) × (a.hand.place ≡ Moving look bucket units) × (look.counts ≡ counts)

-- ---- what becomes of the actor

-- the place after an exchange that disabled a word: in version 1 its units, if it had any, are in transit
abbrev pub after_disabling : ℕ → Look → ℕ → Option SingleWord → Place
after_disabling version look old form =
    if (version == 1) && nat_lt 0 old
    then Moving (record look { single = Some (off_word version old) }) (unwrap_or (packed_bucket form) 0) (units_in form)
    else Looking (record look { single = Some (off_word version old) })

-- after a packing exchange
abbrev pub after_pack : Bool → Actor → ℕ → ℕ → ℕ → Actor
after_pack true a histogram new found =
    record a { hand = record a.hand { place = Idle }; entries = record a.entries { running = count_next a.entries.running }; seen = record a.seen { singles = a.seen.singles ++ sight (histogram + HISTOGRAM_SINGLE) new } }
after_pack false a histogram new found =
    record a { hand = record a.hand { place = Idle }; seen = record a.seen { singles = a.seen.singles ++ sight (histogram + HISTOGRAM_SINGLE) found } }

-- after an exchange of the counts reference from 0
abbrev pub after_mount : Bool → Actor → ℕ → ℕ → ℕ → Actor
after_mount true a histogram at found = record a {
  hand = record {
    place = Looking (record { histogram = histogram; single = None; counts = at });
    own = without at a.hand.own;
  };
  seen = record a.seen { words = a.seen.words ++ sight_counts histogram at };
}
after_mount false a histogram at found = record a {
  hand = record a.hand { place = Losing (record { histogram = histogram; single = None; counts = found }) at };
  seen = record a.seen { words = a.seen.words ++ sight_counts histogram found };
}

-- after a disabling exchange
abbrev pub after_disable : Bool → Actor → ℕ → ℕ → ℕ → Actor
after_disable true a histogram old found = record a {
  hand = record a.hand { place = after_disabling a.segment.version (look_of a.hand.place histogram) old (form_seen a histogram old) };
  seen = record a.seen { singles = a.seen.singles ++ sight (histogram + HISTOGRAM_SINGLE) (off_word a.segment.version old) };
}
after_disable false a histogram old found = record a {
  hand = record a.hand { place = Looking (record (look_of a.hand.place histogram) { single = None }) };
  seen = record a.seen { singles = a.seen.singles ++ sight (histogram + HISTOGRAM_SINGLE) found };
}

-- the actor after an event that found this number
abbrev pub next : Actor → PackingEvent → ℕ → Actor
next a (load_single histogram) found = record a {
  hand = record a.hand { place = Looking (record (look_of a.hand.place histogram) { single = Some found }) };
  seen = record a.seen { singles = a.seen.singles ++ sight (histogram + HISTOGRAM_SINGLE) found };
}
next a (pack histogram old new) found = after_pack (found == old) a histogram new found
next a (mount_counts histogram at) found = after_mount (found == 0) a histogram at found
next a (purge_block at) found =
    record a { hand = record { place = back a.hand.place; own = change_own at (λ own. record own { tag = TYPE_PURGED }) a.hand.own } }
next a (disable histogram old) found = after_disable (found == old) a histogram old found
next a (add_moved counts bucket units) found =
    record a { hand = record a.hand { place = back a.hand.place }; seen = record a.seen { counts = a.seen.counts ++ sight (counts + BLOCK_HEADER + bucket) (found + units) } }

-- ---- what it learns

-- a single word of a histogram that it knows: it has a form, and each word that it saw before leads to it
abbrev pub IsSingleOf : Actor → ℕ → ℕ → Type 0
IsSingleOf a histogram found = (known : Known) → Buckets a histogram known
    → (single_of a.segment.version (buckets_of known.spec) found ≢ None)
    × ((word : ℕ) → Contains a.seen.singles (record { at = histogram + HISTOGRAM_SINGLE; word = word })
    → Leads a.segment.version (buckets_of known.spec) word found)

abbrev pub Learned : Actor → PackingEvent → ℕ → Type 0
Learned a (load_single histogram) found = IsSingleOf a histogram found
Learned a (pack histogram old new) found = IsSingleOf a histogram found
Learned a (mount_counts histogram at) found = AreCountsOf a histogram found × CountsStay a.seen histogram found
Learned a (disable histogram old) found = IsSingleOf a histogram found
Learned a (add_moved counts bucket units) found = IsUnits (found + units)
Learned a _ found = ⊤
