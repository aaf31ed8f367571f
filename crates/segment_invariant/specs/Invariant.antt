-- What holds of a segment and of all its actors between any two events: more than its consistency, as much as is needed to keep it. It says
-- what each block is, and has one part for each concern. No part mentions how an event proceeds.
use Rattle.std.specs.Prelude.{◌≡◌, ◌≢◌, ◌⊎◌, Bool, true, false, not, ◌&&◌, ◌||◌, ◌==◌, max, ℕ, ◌+◌, ◌-◌, ◌*◌, ◌^◌, ◌<◌, ◌≤◌, ℤ, pos, ◌+ℤ◌, ◌-ℤ◌, unsigned_abs, if◌then◌else◌, List, [], ◌∷◌, ◌++◌, map, fold, take, drop, length, replicate, sum_by, slice_index, Option, Some, None, IsPermutation, ⊤}
use Rattle.std.specs.Int.{w64, cast_signed}
use Rattle.std.specs.List.{filter, Contains, All, flat_map}
use mathlib.Core.Option.{some, none}
use lib.ListN.{get_elem?}
use Rattle.segment_image.specs.declared.layout.TheConstants.{BLOCK_HEADER, BLOCK_LEAST, BLOCK_SIZE, CLAIMED_COOKIE, HISTOGRAM_COUNTS, HISTOGRAM_LEAST, HISTOGRAM_NAME, HISTOGRAM_REDUNDANT, HISTOGRAM_SINGLE, QUEUE, SAMPLE_COUNT, SAMPLE_LEAST, TYPE_COUNTS, TYPE_HISTOGRAM, TYPE_SAMPLE}
use Rattle.segment_image.specs.Shape.{Dimensions}
use Rattle.alloc_core.specs.Layout.{IsShown}
use Rattle.alloc_core.specs.Alloc.{IsPlace}
use Rattle.bucket_ranges.specs.declared.spec.Spec.{Spec}
use Rattle.bucket_ranges.specs.declared.spec.Spec.TheVariants as spec
use Rattle.bucket_ranges.specs.Spec.{buckets_of, spec_fault, spec_fields, spec_ranges}
use Rattle.bucket_ranges.specs.Reading.{is_name, is_i32, is_bad_sum}
use Rattle.bucket_ranges.specs.Single.{single_of, packed_bucket, is_packed_bucket, units_packed}
use Rattle.list_core.specs.Chain.{stops, IsStop, AreNeighbours, IsLinked}
use Rattle.segment_machine.specs.declared.entry.Entry.{Entry}
use Rattle.segment_machine.specs.declared.entry.EntryProgress.{EntryProgress}
use Rattle.segment_machine.specs.declared.place.Look.{Look}
use Rattle.segment_machine.specs.declared.place.Place.{Place}
use Rattle.segment_machine.specs.declared.place.Place.TheVariants.{Spent, Idle, FlagsLoaded, FreeLoaded, Raised, Sized, Marked, TailLoaded, Beaten, Linked, Looking, Losing, Moving, CountLoaded, SampleLoaded, SumLoaded, CursorLoaded, BehindCursor}
use Rattle.segment_machine.specs.declared.actor.Actor.{Actor}
use Rattle.segment_machine.specs.declared.actor.Portion.{Portion}
use Rattle.segment_machine.specs.declared.actor.Answered.{Answered}
use Rattle.segment_machine.specs.declared.actor.Given.{Given}
use Rattle.segment_machine.specs.declared.actor.Known.{Known}
use Rattle.segment_machine.specs.declared.actor.Made.{Made}
use Rattle.segment_machine.specs.declared.actor.Moment.{Moment}
use Rattle.segment_machine.specs.declared.actor.Made.TheVariants as made
use Rattle.segment_machine.specs.declared.actor.Own.{Own}
use Rattle.segment_machine.specs.declared.actor.Published.{Published}
use Rattle.segment_machine.specs.declared.seen.Sighting.{Sighting}
use Rattle.segment_machine.specs.declared.actor.Taken.{Taken}
use Rattle.segment_machine.specs.Entry.{is_counted, is_summed, has_ended, AreWithin, is_of, tally_units, tally_sum, tally_noted}
use Rattle.segment_calls.specs.Form.{is_off, units_in, Leads}
use Rattle.segment_machine.specs.Actor.{Buckets, Sparse, log_of, counted_of, bucket_key, units_listed, taken_units, taken_sum, portion_of, all_counted, all_summed, all_noted, all_taken, all_published, all_given, cost_of, units_of, SawSingle, SawCount, all_names, all_owed, is_opener, made_of, offered_of, outstanding_of}
use Rattle.segment_machine.specs.Made.{AreNameWords, SawSample}
use Rattle.segment_machine.specs.Note.{is_untouched, SawBucket}
use Rattle.segment_machine.specs.Actor.{accepted_by, accepted_since}
use Rattle.segment_invariant.specs.Consistent.{units_taken, IsWithinCounts}
use Rattle.segment_machine.specs.Seats.{purse}
use Rattle.segment_machine.specs.State.{State}
use Rattle.segment_invariant.specs.Body.{Record, Counts, Sample, Body, held, histogram, counts, sample, other, words_of, is_claimed, Piece, extent_of, Listed, listed, Anatomy, layout_of, order_of, claims_of}
use Rattle.segment_invariant.specs.Ledger.{form_at, key_of_bucket, noted_held, all_held, IsBalanced}
use Rattle.segment_invariant.specs.Seen.{Stands, HasStill, HoldsAs, HasPlain, HasOwn, HasRecord, HasCounts, HasSample, IsFirst, IsFirstOf, IsReachedAt, WasFixed, Sees, IsRightlyKnown}

-- ---- the list

-- a listed record holds what it was given; one to which nothing was given is no sample, and has five words at least, as each claimed block
-- has
abbrev pub StandsAs : List Piece → Listed → Option Made → Type 0
StandsAs pieces l (Some (made.Histogram name spec)) =
    (r : Record) × HasRecord pieces l.reference r × (r.name ≡ name) × (r.spec ≡ spec)
StandsAs pieces l (Some (made.Sample of value)) =
    (s : Sample) × HasSample pieces l.reference s × (s.of ≡ of) × (s.value ≡ value)
StandsAs pieces l None =
    (size tag next : ℕ) × (payload : List ℕ) × Stands pieces l.reference none (other size tag next payload)
    × (tag ≢ TYPE_SAMPLE) × (1 ≤ length payload)

-- a published block is on the list, but a counts block need not be
abbrev pub IsOnList : List Listed → ℕ → Body → Type 0
IsOnList records at (histogram r) = Contains records (record { reference = at; made = Some (made.Histogram r.name r.spec) })
IsOnList records at (sample s) = Contains records (record { reference = at; made = Some (made.Sample s.of s.value) })
IsOnList records at (other size tag next payload) = tag ≢ TYPE_COUNTS → Contains records (record { reference = at; made = None })
IsOnList records at _ = ⊤

-- The nexts lead along the records in their order; these are the records of the opening, then those that actors linked; each holds what it
-- was given, and there are no others; the tail is on the list.
pub record ListIsKept (words : List ℕ) (opened anatomy : Anatomy) (actors : List Actor) : Type 0 where
  pub linked : IsLinked words (order_of anatomy)
  pub once : (front : List Listed) × (anatomy.records ≡ opened.records ++ front)
      × IsPermutation front (map listed (all_published actors))
  pub standing : All (λ l. StandsAs anatomy.pieces l l.made) anatomy.records
  pub alone : (at : ℕ) (body : Body) → Stands anatomy.pieces at none body → IsOnList anatomy.records at body
  pub tail : IsStop (order_of anatomy) anatomy.tail

-- ---- what records and counts blocks are

-- the words of a record fit in its block, its name and spec are valid, its counts fit in a page, and its single word has a form. While no
-- bucket is or was packed the single mark is 0; a sparse record has neither single word nor counts
abbrev pub IsLawfulRecord : ℕ → ℕ → Record → Type 0
IsLawfulRecord version page r = record {
  sized : r.size ≡ HISTOGRAM_NAME + (length r.letters + (length (spec_ranges r.spec) + length r.rest));
  least : HISTOGRAM_LEAST ≤ r.size;
  named : is_name r.name ≡ true;
  lettered : AreNameWords r.name r.letters;
  lawful : spec_fault r.spec ≡ None;
  fields : length (spec_fields r.spec) ≡ 4;
  fits : BLOCK_HEADER + 2 * buckets_of r.spec ≤ page;
  formed : form_at version r ≢ None;
  unpacked : packed_bucket (form_at version r) ≡ None → r.mark ≡ 0;
  off : is_off r.single ≡ true → r.counts ≢ 0;
  sparse : r.spec ≡ spec.Sparse → (r.counts ≡ 0) × (r.single ≡ 0) × (r.mark ≡ 0);
  narrow : (r.sum < 2 ^ 64) × (r.sum_mark < 2 ^ 64);
}

-- the counts block of a record: a count and a mark for each bucket. The mark of the packed bucket is the single mark, so its own
-- stays 0; until the single word is off all are 0. In version 1 the single mark is at most the greater of its bucket's total and
-- 65,535, since its units may be in transit
abbrev pub IsCountsOf : ℕ → ℕ → Record → Counts → Type 0
IsCountsOf version at r c = record {
  mine : c.of ≡ at;
  named : c.name ≡ r.name;
  same : c.spec ≡ r.spec;
  units : length c.units ≡ buckets_of r.spec;
  marks : length c.marks ≡ buckets_of r.spec;
  sized : c.size ≡ BLOCK_HEADER + (length c.units + (length c.marks + length c.rest));
  packed : (i : ℕ) → packed_bucket (form_at version r) ≡ Some i → slice_index c.marks i ≡ 0;
  unused : is_off r.single ≡ false → All (λ n. n ≡ 0) c.units × All (λ n. n ≡ 0) c.marks;
  mark : version ≡ 1 → (i : ℕ) → packed_bucket (form_at version r) ≡ Some i
      → r.mark ≤ max (slice_index c.units i + units_packed (form_at version r) i) 65535;
}

-- the words of a sample fit in its block, its value is one that can be recorded, and no more is taken than was counted
abbrev pub IsLawfulSample : Sample → Type 0
IsLawfulSample s = record {
  sized : s.size ≡ SAMPLE_LEAST + length s.rest;
  valued : is_i32 s.value ≡ true;
  taken : s.mark ≤ s.units;
}

-- in a record that is not the first of its name nothing is counted
abbrev pub CountsNothing : Record → Type 0
CountsNothing r = (r.counts ≡ 0) × (r.single ≡ 0) × (r.mark ≡ 0) × (r.sum ≡ 0) × (r.sum_mark ≡ 0) × (r.noted ≡ 0)

-- Records are valid; each counts reference leads to the record's own counts block and back, so no two records name the same one; while a
-- record names none, its single mark is at most its packed units; a sample names a sparse record before it, the first of its name; and what
-- is not the first of its name or value counts nothing.
pub record RecordsAreKept (page : ℕ) (anatomy : Anatomy) : Type 0 where
  pub lawful : (at : ℕ) (r : Record) → HasRecord anatomy.pieces at r → IsLawfulRecord anatomy.version page r
  pub mounted : (at : ℕ) (r : Record) → HasRecord anatomy.pieces at r → r.counts ≢ 0
      → (c : Counts) × HasCounts anatomy.pieces r.counts c × IsCountsOf anatomy.version at r c
  pub named : (at : ℕ) (c : Counts) → HasCounts anatomy.pieces at c → (r : Record) × HasRecord anatomy.pieces c.of r × (r.counts ≡ at)
  pub packed : (at : ℕ) (r : Record) → HasRecord anatomy.pieces at r → r.counts ≡ 0 → r.mark ≤ units_in (form_at anatomy.version r)
  pub valued : (at : ℕ) (s : Sample) → HasSample anatomy.pieces at s → IsLawfulSample s
  pub sampled : (front behind : List Listed) (at of : ℕ) (value : ℤ)
      → anatomy.records ≡ front ++ record { reference = at; made = Some (made.Sample of value) } ∷ behind
      → (name : List ℕ) × IsFirst front name spec.Sparse of × ((s : Sample) → HasSample anatomy.pieces at s → s.name ≡ name)
  pub later : (at other : ℕ) (r : Record) (first : Spec) → HasRecord anatomy.pieces at r → IsFirst anatomy.records r.name first other → other ≢ at
      → CountsNothing r
  pub later_samples : (at other : ℕ) (s : Sample) → HasSample anatomy.pieces at s → IsFirstOf anatomy.records s.of s.value other → other ≢ at
      → (s.units ≡ 0) × (s.mark ≡ 0)

-- ---- what is passed over

-- the total of a bucket of a record with such a counts block
abbrev pub total_in : ℕ → Record → Counts → ℕ → ℕ
total_in version r c i = slice_index c.units i + units_packed (form_at version r) i

-- the mark of a bucket of such a record: for the packed bucket the single mark
abbrev pub mark_in : ℕ → Record → Counts → ℕ → ℕ
mark_in version r c i = if is_packed_bucket (form_at version r) i then r.mark else slice_index c.marks i

-- A record is passed over, since one of those before it on the list has its name. It is valid, no total is above what a segment may count,
-- no mark is above its total, and its sums are such as a segment can reach; nothing else is said of what it counts.
pub record IsPassedOver (version page : ℕ) (pieces : List Piece) (front : List Listed) (at : ℕ) (r : Record) : Type 0 where
  pub stands : HoldsAs pieces at (histogram r)
  pub lawful : IsLawfulRecord version page r
  pub named : (kind : Spec) × (first : ℕ) × IsFirst front r.name kind first
  pub counted : r.counts ≢ 0 → (c : Counts) × HoldsAs pieces r.counts (counts c) × IsCountsOf version at r c
      × ((i : ℕ) → i < buckets_of r.spec → (total_in version r c i ≤ 4294967295) × (mark_in version r c i ≤ total_in version r c i))
  pub packed : r.counts ≡ 0 → r.mark ≤ units_in (form_at version r)
  pub sums : is_bad_sum (cast_signed w64 r.sum) (cast_signed w64 r.sum_mark) ≡ false

-- a block is of another type than a histogram's record
abbrev pub IsOfOtherType : List Piece → ℕ → Type 0
IsOfOtherType pieces at = (size tag next : ℕ) × (payload : List ℕ) × Stands pieces at none (other size tag next payload) × (tag ≢ TYPE_HISTOGRAM)

-- the opening has a record at a place that is passed over
abbrev pub HasPassedOver : Anatomy → ℕ → Record → Type 0
HasPassedOver opened at r = Contains opened.records (record { reference = at; made = None }) × HoldsAs opened.pieces at (histogram r)

-- Of the records of the opening, those to which nothing was given are of another type, or are passed over. The counts block that one of
-- these names is no other's, and is not on the list. All these blocks stay, and so does each word of the opening that never changes.
pub record ArePassedOver (page : ℕ) (opened : Anatomy) (pieces : List Piece) : Type 0 where
  pub stay : (at size tag : ℕ) (payload : List ℕ) → HasStill opened.pieces at size tag payload → HasStill pieces at size tag payload
  pub fixed : (s : Sighting) → WasFixed opened.pieces s → WasFixed pieces s
  pub each : (front behind : List Listed) (at : ℕ) → opened.records ≡ front ++ record { reference = at; made = None } ∷ behind
      → IsOfOtherType opened.pieces at ⊎ ((r : Record) × IsPassedOver opened.version page opened.pieces front at r)
  pub apart : (at place : ℕ) (r q : Record) → HasPassedOver opened at r → HasPassedOver opened place q → r.counts ≢ 0 → r.counts ≡ q.counts → at ≡ place
  pub unlisted : (at : ℕ) (r : Record) → HasPassedOver opened at r → ¬ (Contains opened.records (record { reference = r.counts; made = None }))

-- ---- what an actor has in hand

-- what the actor has loaded of a histogram is what it saw: a single word, and the counts reference, which stays
abbrev pub LooksRight : Actor → Look → Type 0
LooksRight a look = record {
  known : Known;
  knows : Buckets a look.histogram known;
  single : (word : ℕ) → look.single ≡ Some word → Contains a.seen.singles (record { at = look.histogram + HISTOGRAM_SINGLE; word = word });
  counts : look.counts ≢ 0 → Contains a.seen.words (record { at = look.histogram + HISTOGRAM_COUNTS; word = look.counts });
}

-- the actor has loaded a single word that is off, and the counts
abbrev pub LoadedOff : Actor → Look → Type 0
LoadedOff a look = LooksRight a look × (look.counts ≢ 0) × ((word : ℕ) × (look.single ≡ Some word) × (is_off word ≡ true))

-- the actor has visited a sample of a histogram that it knows
abbrev pub MetKnownSample : Actor → ℕ → Type 0
MetKnownSample a reference =
    (histogram : ℕ) × (known : Known) × (value : ℤ) × Sparse a histogram known × Contains a.seen.chain reference
    × SawSample a.seen histogram value reference

-- what holds at the place of a running call: the block in its hands holds just what it stored, and it saw what it loaded; an actor that is
-- spent is a purse, with no units if it was a recorder
abbrev pub StandsRight : Dimensions → Anatomy → ℕ → Actor → Place → Type 0
StandsRight shape anatomy id a Spent = a ≡ purse a.units.share
StandsRight shape anatomy id a Idle = ⊤
StandsRight shape anatomy id a FlagsLoaded = ⊤
StandsRight shape anatomy id a (FreeLoaded free) = a.seen.free ≡ free
StandsRight shape anatomy id a (Raised at size wanted) = IsPlace shape at size × HasPlain anatomy.pieces id at (replicate size 0)
StandsRight shape anatomy id a (Sized at size wanted) = IsPlace shape at size × HasPlain anatomy.pieces id at (size ∷ replicate (size - 1) 0)
StandsRight shape anatomy id a (Marked at size) =
    IsPlace shape at size × HasPlain anatomy.pieces id at (size ∷ CLAIMED_COOKIE ∷ replicate (size - 2) 0)
StandsRight shape anatomy id a (TailLoaded tail) = Contains a.seen.tails tail × IsReachedAt (order_of anatomy) a.done.beaten tail
StandsRight shape anatomy id a (Beaten tail behind) =
    AreNeighbours (order_of anatomy) tail behind × Contains a.seen.tails tail × IsReachedAt (order_of anatomy) a.done.beaten behind
StandsRight shape anatomy id a (Linked at tail) = AreNeighbours (order_of anatomy) tail at
StandsRight shape anatomy id a (Looking look) = LooksRight a look
StandsRight shape anatomy id a (Losing look at) =
    LooksRight a look × (look.counts ≢ 0) × (look.counts ≢ at) × ((own : Own) × Contains a.hand.own own × (own.at ≡ at) × (own.tag ≡ TYPE_COUNTS))
StandsRight shape anatomy id a (Moving look bucket units) =
    LooksRight a look × (anatomy.version ≡ 1) × (look.counts ≢ 0) × (1 ≤ units) × (units ≤ 65535)
    × ((r : Record) × HasRecord anatomy.pieces look.histogram r × (packed_bucket (form_at 1 r) ≡ Some bucket) × (is_off r.single ≡ true))
    × All (λ s. s.at ≢ look.counts + BLOCK_HEADER + bucket) a.seen.counts
StandsRight shape anatomy id a (CountLoaded look bucket count) =
    (off : LoadedOff a look) × (bucket < buckets_of off.0.known.spec)
    × Contains a.seen.counts (record { at = look.counts + BLOCK_HEADER + bucket; word = count })
StandsRight shape anatomy id a (SampleLoaded reference count) =
    MetKnownSample a reference × Contains a.seen.counts (record { at = reference + SAMPLE_COUNT; word = count })
StandsRight shape anatomy id a (SumLoaded reference sum) = (known : Known) × Contains a.answers.names known × (known.reference ≡ reference)
StandsRight shape anatomy id a (CursorLoaded cursor at) =
    IsReachedAt (order_of anatomy) (slice_index a.done.lost cursor) at × Contains a.seen.cursors (record { at = cursor; word = at })
StandsRight shape anatomy id a (BehindCursor cursor at next) =
    AreNeighbours (order_of anatomy) at next × Contains a.seen.cursors (record { at = cursor; word = at })
    × IsReachedAt (order_of anatomy) (slice_index a.done.lost cursor) at

-- a block of its own holds what was stored in it, and has room for its payload
pub record HoldsOwn (shape : Dimensions) (pieces : List Piece) (id : ℕ) (own : Own) : Type 0 where
  pub stands : HasOwn pieces id own
  pub placed : IsPlace shape own.at own.size
  pub room : length own.payload + BLOCK_HEADER ≤ own.size
  pub tagged : own.tag ≤ TYPE_SAMPLE
  pub ends : (own.next ≡ 0) ⊎ (own.next ≡ QUEUE)

-- ---- running calls

-- the entries of a running call: those before the one in progress have ended, nothing has happened of those after it, and in that one the
-- units are counted before the amount is added, and the amount is added before the units are noted; an amount that was added is not 0
pub record AreInOrder (running : List EntryProgress) : Type 0 where
  pub one_by_one : (i j : ℕ) (x y : EntryProgress) → i < j → get_elem? running i ≡ some x → get_elem? running j ≡ some y
      → (has_ended x ≡ true) ⊎ (is_untouched y ≡ true)
  pub counted_first : All (λ c. c.summed ≡ true → is_counted c ≡ true) running
  pub summed_next : All (λ c. c.noted ≡ true → is_summed c ≡ true) running
  pub amounted : All (λ c. c.summed ≡ true → c.entry.amount ≢ pos 0) running

-- A running call holds what its entries cost, of a histogram that its actor knows. In a log all entries have ended, and for each name their
-- units are spent, and so are those that the opening has used: the units of the first entries, or the redundant count that was there if
-- that is more. Of each entry of a sparse histogram that has units and was counted by the actor, or before it, the actor has visited the
-- sample. A delta in progress is the last one, and no call runs at the same time; the log has not changed since it began.
abbrev pub CallsRight : Anatomy → Actor → Type 0
CallsRight anatomy a = record {
  ordered : AreInOrder a.entries.running;
  within : a.entries.running ≢ [] → (name : List ℕ) × (cost : ℕ)
      × (a.units.held ≡ record { name = name; units = cost } ∷ []) × AreWithin name cost (map (λ c. c.entry) a.entries.running)
      × Contains (map (λ known. known.name) a.answers.names) name;
  held : length a.units.held ≤ 1;
  ended : All (λ c. has_ended c ≡ true) a.entries.log;
  spent : (name : List ℕ)
      → max (tally_noted a.entries.first name) (cost_of a.entries.first_noted name) + tally_noted (map (λ c. c.entry) a.entries.log) name ≤ cost_of a.units.costs name;
  met : (entry : Entry) (of : ℕ) → Contains (a.entries.inherited ++ counted_of a) entry → 0 < entry.units → IsFirst anatomy.records entry.name spec.Sparse of
      → (at : ℕ) × IsFirstOf anatomy.records of entry.key at × Contains a.seen.chain at × SawSample a.seen of entry.key at;
  taking : a.deltas.taking ≡ true → (a.entries.running ≡ []) × ((before : List Taken) × (last : Taken) × (a.deltas.taken ≡ before ++ last ∷ [])
      × (last.moment.log ≡ length (log_of a)));
}

-- the key of an entry that has units, or of units that were taken: it is that of a bucket of a histogram, or the value of one of its
-- samples
abbrev pub HasKey : List Listed → List ℕ → ℤ → Type 0
HasKey records name key =
    (kind : Spec) × (at : ℕ) × IsFirst records name kind at
    × (((bucket : ℕ) × (bucket < buckets_of kind) × (key ≡ key_of_bucket kind bucket))
    ⊎ ((kind ≡ spec.Sparse) × (where_at : ℕ) × IsFirstOf records at key where_at))

-- ---- sums

-- the units that were spent on a histogram, or are held by a call whose amount is already in its sum: in multiples of 2^31, the most that
-- its sum has grown by
abbrev pub summed_cost : List ℕ → Actor → ℕ
summed_cost name a =
    cost_of a.units.costs name + (if length (filter (λ c. c.summed) a.entries.running) == 0 then 0 else cost_of a.units.held name)

-- the same of all actors
abbrev pub summed_costs : List ℕ → List Actor → ℕ
summed_costs name actors = sum_by (summed_cost name) actors

-- a sum of a record: 0, the present one, its mark, or one that an actor has loaded
abbrev pub IsSumOf : List Actor → ℕ → Record → ℤ → Type 0
IsSumOf actors at r sum =
    (sum ≡ pos 0) ⊎ (sum ≡ cast_signed w64 r.sum) ⊎ (sum ≡ cast_signed w64 r.sum_mark)
    ⊎ ((id : ℕ) × (a : Actor) × (get_elem? actors id ≡ some a) × (a.hand.place ≡ SumLoaded at sum))

-- any two sums of a record differ by at most 2^31 times the units spent on it
abbrev pub SumsAreNear : List Piece → List Actor → Type 0
SumsAreNear pieces actors = (at : ℕ) (r : Record) (x y : ℤ) → HasRecord pieces at r → IsSumOf actors at r x → IsSumOf actors at r y
    → unsigned_abs (x -ℤ y) ≤ 2147483648 * summed_costs r.name actors

-- ---- openers and recorders

-- whether an actor is a recorder that was not joined
abbrev pub is_living : Actor → Bool
is_living a = not (is_opener a.role) && not (is_spent a.hand.place)
  where
    is_spent : Place → Bool
    is_spent Spent = true
    is_spent _ = false

-- The first actor is the one opener; it runs nothing, and offers no more than it has. As many recorders live as it has outstanding. Each
-- was made at a time of its own; one that was made while none was outstanding is older than all others that live. What a recorder inherited
-- is a front of the opener's log, and all of it while that recorder is alone.
pub record RolesAreKept (actors : List Actor) : Type 0 where
  pub opener : Actor
  pub stands : get_elem? actors 0 ≡ some opener
  pub opens : is_opener opener.role ≡ true
  pub idle : opener.hand.place ≡ Idle
  pub rests : (opener.entries.running ≡ []) × (opener.units.held ≡ []) × (opener.deltas.taking ≡ false) × (opener.entries.inherited ≡ []) × (opener.answers.owed ≡ [])
  pub only : (id : ℕ) (a : Actor) → get_elem? actors id ≡ some a → id ≢ 0 → (is_opener a.role ≡ false) × (a.entries.first ≡ []) × (a.entries.first_noted ≡ []) × (a.deltas.first_taken ≡ []) × (offered_of a.role ≡ 0)
  pub offers : offered_of opener.role ≤ opener.units.share
  pub living : sum_by (λ a. if is_living a then 1 else 0) actors ≡ outstanding_of opener.role
  pub few : outstanding_of opener.role ≤ 256
  pub younger : (id : ℕ) (a : Actor) → get_elem? actors id ≡ some a → is_living a ≡ true → made_of a.role < made_of opener.role
  pub apart : (i j : ℕ) (a b : Actor) → get_elem? actors i ≡ some a → get_elem? actors j ≡ some b → is_living a ≡ true → is_living b ≡ true
      → i ≢ j → made_of a.role ≢ made_of b.role
  pub eldest : (i j : ℕ) (a b : Actor) → get_elem? actors i ≡ some a → get_elem? actors j ≡ some b → is_living a ≡ true → is_living b ≡ true
      → i ≢ j → outstanding_of a.role ≡ 0 → made_of a.role < made_of b.role
  pub heirs : (id : ℕ) (a : Actor) → get_elem? actors id ≡ some a → is_living a ≡ true
      → (more : List Entry) × (log_of opener ≡ a.entries.inherited ++ more) × (outstanding_of a.role ≡ 0 → made_of a.role + 1 ≡ made_of opener.role → more ≡ [])

-- a recorder that is alone: none was outstanding when it was made, and none was made after it
abbrev pub IsAlone : List Actor → Actor → Type 0
IsAlone actors a = (opener : Actor) × (get_elem? actors 0 ≡ some opener) × (outstanding_of a.role ≡ 0) × (made_of a.role + 1 ≡ made_of opener.role)

-- ---- names

-- a `hist` has returned the histogram of a name, or the maker of its first record still has to return it
abbrev pub IsAnswered : List Actor → List ℕ → Spec → ℕ → Type 0
IsAnswered actors name kind at =
    ((known : Known) × Contains (all_names actors) known × (known.name ≡ name))
    ⊎ Contains (all_owed actors) (record { name = name; spec = kind; reference = at })

-- the first record of each name on the list was returned by a `hist`, or its maker's `hist` still has to return it
abbrev pub AreAnswered : List Listed → List Actor → Type 0
AreAnswered records actors = (name : List ℕ) (kind : Spec) (at : ℕ) → IsFirst records name kind at → IsAnswered actors name kind at

-- ---- deltas and snapshots

-- nothing of a bucket can be in transit when an actor loads its count: the version is 2, or the recorder is alone, or it is not the packed
-- bucket
abbrev pub NoneInTransit : Anatomy → List Actor → Actor → Known → ℕ → Type 0
NoneInTransit anatomy actors a known bucket =
    (anatomy.version ≡ 2) ⊎ IsAlone actors a
    ⊎ ((r : Record) → HasRecord anatomy.pieces known.reference r → packed_bucket (form_at anatomy.version r) ≢ Some bucket)

-- What a recorder saw of a bucket since its delta or snapshot began is no more than what is counted there. And it is no less than what had
-- been accepted: packed units that it saw, and counts that it loaded when nothing can be in transit, with the units that a frozen word
-- keeps. The same holds of a sample, and of redundant counts. Counters that it saw before are no more than those that it sees now, and
-- single words that it saw before lead to those. If it saw counts before, the single word is off by now. A sum that a recorder has loaded
-- while it is alone is the present sum.
abbrev pub LooksBack : Anatomy → List Actor → Actor → Actor → Type 0
LooksBack anatomy actors opener a = record {
  most : (known : Known) (bucket total : ℕ) → Contains a.answers.names known → bucket < buckets_of known.spec → SawBucket a known bucket total
      → total ≤ tally_units (all_counted actors) known.name (bucket_key (Some known) bucket);
  packed : (known : Known) (bucket word : ℕ) → Contains a.answers.names known → bucket < buckets_of known.spec
      → SawSingle a (known.reference + HISTOGRAM_SINGLE) word → is_off word ≡ false
      → tally_units (accepted_by a) known.name (bucket_key (Some known) bucket) ≤ units_packed (single_of anatomy.version (buckets_of known.spec) word) bucket;
  counted : (known : Known) (bucket count : ℕ) (r : Record) → Contains a.answers.names known → bucket < buckets_of known.spec
      → HasRecord anatomy.pieces known.reference r → r.counts ≢ 0 → SawCount a (r.counts + BLOCK_HEADER + bucket) count
      → NoneInTransit anatomy actors a known bucket
      → tally_units (accepted_by a) known.name (bucket_key (Some known) bucket) ≤ count + units_packed (form_at anatomy.version r) bucket;
  samples : (known : Known) (value : ℤ) (at count : ℕ) → Contains a.answers.names known → IsFirstOf anatomy.records known.reference value at
      → SawCount a (at + SAMPLE_COUNT) count → tally_units (accepted_by a) known.name value ≤ count;
  rising : (s t : Sighting) → Contains (take a.since.counts a.seen.counts) s → Contains (drop a.since.counts a.seen.counts) t
      → s.at ≡ t.at → s.word ≤ t.word;
  leading : (s t : Sighting) (r : Record) (at : ℕ) → Contains (take a.since.singles a.seen.singles) s
      → Contains (drop a.since.singles a.seen.singles) t → s.at ≡ t.at → t.at ≡ at + HISTOGRAM_SINGLE → HasRecord anatomy.pieces at r
      → Leads anatomy.version (buckets_of r.spec) s.word t.word;
  closed : (s t : Sighting) (r : Record) (c : Counts) (at i : ℕ) → Contains (take a.since.counts a.seen.counts) s
      → Contains (drop a.since.singles a.seen.singles) t → t.at ≡ at + HISTOGRAM_SINGLE → HasRecord anatomy.pieces at r
      → HasCounts anatomy.pieces r.counts c → s.at ≡ r.counts + i → BLOCK_HEADER ≤ i → i < BLOCK_HEADER + (length c.units + length c.marks)
      → is_off t.word ≡ true;
  begun : (a.since.singles ≤ length a.seen.singles) × (a.since.counts ≤ length a.seen.counts);
  noted : (known : Known) (count : ℕ) → Contains a.answers.names known → SawCount a (known.reference + HISTOGRAM_REDUNDANT) count
      → cost_of opener.entries.first_noted known.name + tally_noted (accepted_since opener a) known.name ≤ count;
  sum : (reference : ℕ) (sum : ℤ) (r : Record) → a.hand.place ≡ SumLoaded reference sum → IsAlone actors a
      → HasRecord anatomy.pieces reference r → sum ≡ cast_signed w64 r.sum;
}

-- nothing was counted of a name after the first `entries` entries of a log, nor by a running call
abbrev pub IsQuiet : Actor → List ℕ → ℕ → Type 0
IsQuiet a name entries =
    All (λ entry. is_of name entry ≡ false) (drop entries (log_of a))
    × All (λ c. (is_of name c.entry ≡ false) ⊎ (is_untouched c ≡ true)) a.entries.running

-- the deltas of an actor that have ended
abbrev pub ended_deltas : Actor → List Taken
ended_deltas a = if a.deltas.taking then take (length a.deltas.taken - 1) a.deltas.taken else a.deltas.taken

-- a moment at which a delta or a snapshot of an actor began
abbrev pub IsMomentOf : Actor → Moment → Type 0
IsMomentOf a m =
    ((t : Taken) × Contains a.deltas.taken t × (t.moment ≡ m)) ⊎ ((s : Answered) × Contains a.deltas.snapshots s × (s.moment ≡ m))

-- A moment lies in the log and before the recorders that are made next; a recorder's moments have when that recorder was made and how many
-- were outstanding then. If none was outstanding, all recorders that live, but the one itself, were made later.
abbrev pub IsMoment : List Actor → Actor → ℕ → Actor → Moment → Type 0
IsMoment actors opener id a m = record {
  logged : m.log ≤ length (log_of a);
  before : m.before < made_of opener.role;
  mine : is_opener a.role ≡ false → (m.before ≡ made_of a.role) × (m.outstanding ≡ outstanding_of a.role);
  eldest : m.outstanding ≡ 0 → (other : ℕ) (c : Actor) → get_elem? actors other ≡ some c → is_living c ≡ true
      → other ≢ id → m.before < made_of c.role;
}

-- what an actor had accepted at a moment, with what had been accepted before it was made
abbrev pub accepted_at : Actor → Moment → List Entry
accepted_at a m = a.entries.inherited ++ take m.log (log_of a)

-- of a name, all deltas have taken what these entries come to, and what these later deltas took
abbrev pub TookAllOf : List Actor → List Entry → List Taken → List ℕ → Type 0
TookAllOf actors entries later name =
    ((key : ℤ) → units_taken actors name key ≡ tally_units entries name key + taken_units (map portion_of later) name key)
    × (taken_sum (all_taken actors) name ≡ tally_sum entries name +ℤ taken_sum (map portion_of later) name)

-- If there is a final delta, all deltas have taken what is counted, and the sum; and a final snapshot has what is counted, the sum and the
-- redundant units. A delta or a snapshot is final for as long as the recorder is alone, and nothing was counted since. The same holds of
-- the sum of a delta in progress, once it was swapped. Of any delta whose recorder was alone, and is the youngest: all deltas but those
-- after it have taken what that recorder had accepted, or inherited, when it began.
abbrev pub FinalsAreExact : List Actor → Actor → ℕ → Actor → Type 0
FinalsAreExact actors opener id a = record {
  deltas : (t : Taken) → Contains (ended_deltas a) t → t.moment.outstanding ≡ 0 → t.moment.before + 1 ≡ made_of opener.role
      → IsQuiet a t.name t.moment.log
      → ((key : ℤ) → units_taken actors t.name key ≡ tally_units (all_counted actors) t.name key)
      × (taken_sum (all_taken actors) t.name ≡ tally_sum (all_summed actors) t.name);
  snapshots : (s : Answered) → Contains a.deltas.snapshots s → s.moment.outstanding ≡ 0 → s.moment.before + 1 ≡ made_of opener.role
      → IsQuiet a s.name s.moment.log
      → ((key : ℤ) → units_listed s.counts key ≡ tally_units (all_counted actors) s.name key)
      × (s.sum ≡ tally_sum (all_summed actors) s.name) × (s.redundant ≡ cost_of opener.entries.first_noted s.name + tally_noted (all_noted actors) s.name);
  each : (n : ℕ) (t : Taken) → get_elem? (ended_deltas a) n ≡ some t → t.moment.outstanding ≡ 0 → t.moment.before + 1 ≡ made_of opener.role
      → TookAllOf actors (accepted_at a t.moment) (drop (n + 1) a.deltas.taken) t.name;
  moments : (m : Moment) → IsMomentOf a m → IsMoment actors opener id a m;
  swapped : (before : List Taken) (last : Taken) → a.deltas.taking ≡ true → a.deltas.taken ≡ before ++ last ∷ [] → last.swapped ≡ true → IsAlone actors a
      → taken_sum (all_taken actors) last.name ≡ tally_sum (all_summed actors) last.name;
}

-- the record of a histogram that a `hist` still has to return has been published
abbrev pub HasPublishedRecord : List Published → Known → Type 0
HasPublishedRecord published mine = Contains published (record { reference = mine.reference; made = made.Histogram mine.name mine.spec })

-- each histogram that a `hist` still has to return has been published
abbrev pub OwesPublished : List Published → List Known → Type 0
OwesPublished published owed = All (HasPublishedRecord published) owed

-- ---- what came too late

-- the actor's link has come too late, and it has not moved the tail on yet
abbrev pub is_beaten : Place → Bool
is_beaten (Beaten tail behind) = true
is_beaten _ = false

-- The list is ahead of what came too late: up to the tail, with the record there, the list has at least one record for each link of an
-- actor that did, unless the actor is still to move it on; and so it has up to each shared cursor for each exchange that did.
pub record IsAhead (chain : List ℕ) (present : ℕ) (cursors : List ℕ) (place : Place) (beaten : ℕ) (lost : List ℕ) : Type 0 where
  pub links : is_beaten place ≡ false → IsReachedAt chain beaten present
  pub many : length lost ≡ length cursors
  pub exchanges : (k : ℕ) → k < length cursors → IsReachedAt chain (slice_index lost k) (slice_index cursors k)

-- ---- all of it

-- what holds of one actor that was not joined
pub record Fits (shape : Dimensions) (anatomy : Anatomy) (cursors : List ℕ) (actors : List Actor) (opener : Actor) (id : ℕ) (a : Actor) : Type 0 where
  pub shaped : a.segment.shape ≡ shape
  pub versioned : a.segment.version ≡ anatomy.version
  pub numbered : a.segment.cursors ≡ length cursors
  pub sees : Sees anatomy cursors a.seen
  pub ahead : IsAhead (order_of anatomy) anatomy.tail cursors a.hand.place a.done.beaten a.done.lost
  pub names : All (IsRightlyKnown anatomy) a.answers.names
  pub own : All (HoldsOwn shape anatomy.pieces id) a.hand.own
  pub apart : (i j : ℕ) (x y : Own) → get_elem? a.hand.own i ≡ some x → get_elem? a.hand.own j ≡ some y → x.at ≡ y.at → i ≡ j
  pub owes : OwesPublished a.done.published a.answers.owed
  pub calls : CallsRight anatomy a
  pub looks : is_opener a.role ≡ false → LooksBack anatomy actors opener a
  pub finals : FinalsAreExact actors opener id a
  pub snapshots : All (IsWithinCounts actors) a.deltas.snapshots

-- a shared cursor is on the list, and has given the records up to there, each once, and to each recorder in their order; what it gave is on
-- the list
pub record CursorsAreKept (chain cursors : List ℕ) (actors : List Actor) : Type 0 where
  pub stand : (k : ℕ) → k < length cursors → (place : ℕ) × (place ≤ length chain)
      × (slice_index (stops chain) place ≡ slice_index cursors k) × IsPermutation (all_given actors k) (take place chain)
  pub ordered : (id : ℕ) (a : Actor) → get_elem? actors id ≡ some a → is_opener a.role ≡ false → (i j k l : ℕ) (x y : Given) → i < j
      → get_elem? a.done.given i ≡ some x → get_elem? a.done.given j ≡ some y → x.cursor ≡ y.cursor
      → get_elem? chain k ≡ some x.reference → get_elem? chain l ≡ some y.reference → k < l
  pub given : (id : ℕ) (a : Actor) → get_elem? actors id ≡ some a → All (λ g. Contains chain g.reference) a.done.given

-- a flag is set exactly if it was set at the opening or an actor has set it
abbrev pub IsSetBy : Bool → Bool → List Bool → Type 0
IsSetBy now opened set = now ≡ (opened || fold ◌||◌ false set)

-- a flag is set if an actor has seen it
abbrev pub IsSetWhereSeen : Bool → List Bool → Type 0
IsSetWhereSeen now seen = fold ◌||◌ false seen ≡ true → now ≡ true

-- a claimed block says its size, which is five words at least; it is its claimer's own, or nobody's any more
abbrev pub ClaimedRight : Piece → Type 0
ClaimedRight piece = is_claimed piece.body ≡ true
    → (slice_index (words_of piece.body) BLOCK_SIZE ≡ extent_of piece) × (BLOCK_LEAST ≤ extent_of piece)
    × ((piece.owner ≡ none) ⊎ ((block : Own) × (piece.body ≡ held block)))

-- the blocks of the opening are where they were
abbrev pub StandStill : List Piece → List Piece → Type 0
StandStill opened pieces = (k : ℕ) (p : Piece) → get_elem? opened k ≡ some p → (q : Piece) × (get_elem? pieces k ≡ some q) × (q.at ≡ p.at)

-- A segment that was opened as `opened` is kept: there is an anatomy of its words with all that this page says.
pub record Invariant (shape : Dimensions) (opened : Anatomy) (state : State) : Type 0 where
  pub anatomy : Anatomy
  pub shown : IsShown shape state.words (layout_of anatomy)
  pub same : (anatomy.version ≡ opened.version) × (anatomy.id ≡ opened.id) × (anatomy.other_flags ≡ opened.other_flags)
      × (anatomy.reserved ≡ opened.reserved)
  pub versions : (anatomy.version ≡ 1) ⊎ (anatomy.version ≡ 2)
  pub still : StandStill opened.pieces anatomy.pieces
  pub blocks : (k : ℕ) (piece : Piece) → get_elem? anatomy.pieces k ≡ some piece → ClaimedRight piece
  pub list : ListIsKept state.words opened anatomy state.actors
  pub claims : IsPermutation (claims_of anatomy.pieces) (claims_of opened.pieces ++ flat_map (λ a. a.done.claimed) state.actors)
  pub records : RecordsAreKept shape.page anatomy
  pub passed_over : ArePassedOver shape.page opened anatomy.pieces
  pub balanced : IsBalanced anatomy.version opened.pieces anatomy.pieces state.actors
  pub keys : (entry : Entry) → Contains (all_counted state.actors) entry → 0 < entry.units → HasKey anatomy.records entry.name entry.key
  pub taken_keys : (t : Portion) (count : ℤ × ℕ) → Contains (all_taken state.actors) t → Contains t.counts count
      → HasKey anatomy.records t.name count.0
  pub sums : SumsAreNear anatomy.pieces state.actors
  pub pool : sum_by units_of state.actors ≡ 4294967295
  pub corrupt : IsSetBy anatomy.corrupt opened.corrupt (map (λ a. a.done.spoiled) state.actors)
  pub full : IsSetBy anatomy.full opened.full (map (λ a. a.done.filled) state.actors)
  pub noticed : IsSetWhereSeen anatomy.corrupt (map (λ a. a.seen.corrupt) state.actors)
  pub roles : RolesAreKept state.actors
  pub first_noted : (name : List ℕ) → cost_of roles.opener.entries.first_noted name ≡ all_held (noted_held name) opened.pieces
  pub answered : AreAnswered anatomy.records state.actors
  pub cursors : CursorsAreKept (order_of anatomy) state.cursors state.actors
  pub standing : (id : ℕ) (a : Actor) → get_elem? state.actors id ≡ some a → StandsRight shape anatomy id a a.hand.place
  pub each : (id : ℕ) (a : Actor) → get_elem? state.actors id ≡ some a → a.hand.place ≢ Spent
      → Fits shape anatomy state.cursors state.actors roles.opener id a
