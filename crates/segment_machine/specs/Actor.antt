-- What an actor has done and seen, read from its record; and the same for all actors together.
pub use Rattle.segment_calls.specs.Blocks.{has_buckets}
use Rattle.std.specs.Prelude.{◌≡◌, ◌≢◌, Bool, true, false, ◌&&◌, ◌==◌, ℕ, ◌+◌, ℤ, pos, ◌+ℤ◌, if◌then◌else◌, List, [], ◌∷◌, ◌++◌, map, fold, sum_by, drop, length, slice_index, Option, Some, None}
use mathlib.Core.Option.{some}
use lib.ListN.{get_elem?}
use Rattle.std.specs.List.{filter, flat_map, Contains, All}
use Rattle.std.specs.Str.{bytes_eq}
use Rattle.std.specs.Ordering.{int_eq}
use Rattle.bucket_ranges.specs.declared.spec.Spec.TheVariants as spec
use Rattle.bucket_ranges.specs.Spec.{buckets_of}
use Rattle.bucket_ranges.specs.Ranges.{boundaries_of}
use Rattle.segment_calls.specs.Blocks.{has_buckets}
use Rattle.segment_machine.specs.declared.entry.Entry.{Entry}
use Rattle.segment_machine.specs.declared.place.Place.{Place}
use Rattle.segment_machine.specs.declared.place.Place.TheVariants.{Spent, Raised, Sized, Marked, Beaten, Linked, Losing, Moving}
use Rattle.segment_machine.specs.declared.actor.Actor.{Actor}
use Rattle.segment_machine.specs.declared.actor.Cost.{Cost}
use Rattle.segment_machine.specs.declared.actor.Given.{Given}
use Rattle.segment_machine.specs.declared.actor.Known.{Known}
use Rattle.segment_machine.specs.declared.actor.Moment.{Moment}
use Rattle.segment_machine.specs.declared.actor.Own.{Own}
use Rattle.segment_machine.specs.declared.actor.Portion.{Portion}
use Rattle.segment_machine.specs.declared.actor.Published.{Published}
use Rattle.segment_machine.specs.declared.seen.Sighting.{Sighting}
use Rattle.segment_machine.specs.declared.actor.Taken.{Taken}
use Rattle.segment_machine.specs.Entry.{counted_among, summed_among, noted_among, is_of}
use Rattle.segment_machine.specs.declared.actor.Role.{Role}
use Rattle.segment_machine.specs.declared.actor.Role.TheVariants.{Opener, Recorder}

-- ---- roles

-- whether an actor is an opener
abbrev pub is_opener : Role → Bool
is_opener (Opener made outstanding offered) = true
is_opener (Recorder before outstanding) = false

-- how many recorders an opener has made; for a recorder, how many were made before it
abbrev pub made_of : Role → ℕ
made_of (Opener made outstanding offered) = made
made_of (Recorder before outstanding) = before

-- how many of these are not joined; for a recorder, how many were not when it was made
abbrev pub outstanding_of : Role → ℕ
outstanding_of (Opener made outstanding offered) = outstanding
outstanding_of (Recorder before outstanding) = outstanding

-- the units of an opener's share that it offers to its next recorder; a recorder offers none
abbrev pub offered_of : Role → ℕ
offered_of (Opener made outstanding offered) = offered
offered_of (Recorder before outstanding) = 0

-- ---- entries

-- its accepted entries: those that an adopted image stands for, then its log
abbrev pub log_of : Actor → List Entry
log_of a = a.entries.first ++ map (λ c. c.entry) a.entries.log

-- the entries that are counted, by ended calls or by the running one; an adopted image's entries are
abbrev pub counted_of : Actor → List Entry
counted_of a = a.entries.first ++ counted_among (a.entries.log ++ a.entries.running)

-- those whose amounts are in the sum; an adopted image's entries are
abbrev pub summed_of : Actor → List Entry
summed_of a = a.entries.first ++ summed_among (a.entries.log ++ a.entries.running)

-- those whose units are in the redundant count; an adopted image's entries are not
abbrev pub noted_of : Actor → List Entry
noted_of a = noted_among (a.entries.log ++ a.entries.running)

-- ---- units in transit

-- the units of a bucket of a histogram that a call disabled and has not added to the counts
abbrev pub transit_at : Place → ℕ → ℕ → ℕ
transit_at (Moving look bucket units) histogram i = if (look.histogram == histogram) && (bucket == i) then units else 0
transit_at _ histogram i = 0

-- those of all actors
abbrev pub transit_of : List Actor → ℕ → ℕ → ℕ
transit_of actors histogram i = sum_by (λ a. transit_at a.hand.place histogram i) actors

-- whether a call at this place must first finish what it has begun: to complete a header, to move the tail, to purge a lost block, to add
-- moved units; an actor that was joined does nothing at all
abbrev pub is_bound : Place → Bool
is_bound Spent = true
is_bound (Raised at size wanted) = true
is_bound (Sized at size wanted) = true
is_bound (Marked at size) = true
is_bound (Beaten tail behind) = true
is_bound (Linked at tail) = true
is_bound (Losing look at) = true
is_bound (Moving look bucket units) = true
is_bound _ = false

-- ---- what deltas took

-- units that deltas took of a key
abbrev pub units_listed : List (ℤ × ℕ) → ℤ → ℕ
units_listed counts key = sum_by (λ count. if int_eq count.0 key then count.1 else 0) counts

-- of a key, the units that portions took of a name
abbrev pub taken_units : List Portion → List ℕ → ℤ → ℕ
taken_units list name key = sum_by (λ t. if bytes_eq t.name name then units_listed t.counts key else 0) list

-- what they took of a sum
abbrev pub taken_sum : List Portion → List ℕ → ℤ
taken_sum list name = fold ◌+ℤ◌ (pos 0) (map (λ t. if bytes_eq t.name name then t.sum else pos 0) list)

-- what a delta took, whenever that was
abbrev pub portion_of : Taken → Portion
portion_of t = record { name = t.name; counts = t.counts; sum = t.sum }

-- what was taken: what deltas had taken of an adopted image, then what its own took
abbrev pub taken_of : Actor → List Portion
taken_of a = a.deltas.first_taken ++ map portion_of a.deltas.taken

-- A delta or snapshot of a name is final, for an opener that has made `made` recorders and has this log: no recorder was outstanding when
-- its recorder was made, none was made after that one, and the log has no entry of the name after the moment at which it began.
pub record IsFinal (made : ℕ) (log : List Entry) (name : List ℕ) (moment : Moment) : Type 0 where
  pub alone : moment.outstanding ≡ 0
  pub youngest : moment.before + 1 ≡ made
  pub quiet : All (λ entry. is_of name entry ≡ false) (drop moment.log log)

-- ---- what it saw since it last began to look

-- an actor that begins to look again at single words and counts
abbrev pub looking : Actor → Actor
looking a = record a { since = record { singles = length a.seen.singles; counts = length a.seen.counts } }

-- it has seen a single word since it last began to look again
abbrev pub SawSingle : Actor → ℕ → ℕ → Type 0
SawSingle a at word = Contains (drop a.since.singles a.seen.singles) (record { at = at; word = word })

-- it has seen a count since it last began to look again
abbrev pub SawCount : Actor → ℕ → ℕ → Type 0
SawCount a at word = Contains (drop a.since.counts a.seen.counts) (record { at = at; word = word })

-- ---- costs

-- the units of one histogram among costs
abbrev pub cost_of : List Cost → List ℕ → ℕ
cost_of costs name = sum_by (λ cost. if bytes_eq cost.name name then cost.units else 0) costs

-- the units of all costs
abbrev pub cost_total : List Cost → ℕ
cost_total costs = sum_by (λ cost. cost.units) costs

-- all units that an actor has, spent or not
abbrev pub units_of : Actor → ℕ
units_of a = a.units.share + cost_total a.units.costs + cost_total a.units.held

-- ---- what it knows

-- the histogram of a reference, among those that a `hist` returned
abbrev pub known_at : List Known → ℕ → Option Known
known_at [] reference = None
known_at (known ∷ rest) reference = if known.reference == reference then Some known else known_at rest reference

-- the actor knows a histogram with buckets at a reference
abbrev pub Buckets : Actor → ℕ → Known → Type 0
Buckets a histogram known = Contains a.answers.names known × (known.reference ≡ histogram) × (has_buckets known.spec ≡ true)

-- the actor knows a sparse histogram at a reference
abbrev pub Sparse : Actor → ℕ → Known → Type 0
Sparse a histogram known = Contains a.answers.names known × (known.reference ≡ histogram) × (known.spec ≡ spec.Sparse)

-- the number of its buckets, 0 if it is not known
abbrev pub known_buckets : Option Known → ℕ
known_buckets (Some known) = buckets_of known.spec
known_buckets None = 0

-- the key of a bucket of a histogram, 0 if it is not known
abbrev pub bucket_key : Option Known → ℕ → ℤ
bucket_key (Some known) i = pos (slice_index (boundaries_of known.spec) i)
bucket_key None i = pos 0

-- a word of a published record that it saw; such a word never changes
abbrev pub word_seen : List Sighting → ℕ → Option ℕ
word_seen [] at = None
word_seen (seen ∷ rest) at = if seen.at == at then Some seen.word else word_seen rest at

-- ---- actors together

-- something holds of each actor that is not spent
abbrev pub Each : List Actor → (Actor → Type 0) → Type 0
Each actors holds = (id : ℕ) (a : Actor) → get_elem? actors id ≡ some a → a.hand.place ≢ Spent → holds a

-- the entries of all actors that are counted
abbrev pub all_counted : List Actor → List Entry
all_counted actors = flat_map counted_of actors

-- those whose amount is added
abbrev pub all_summed : List Actor → List Entry
all_summed actors = flat_map summed_of actors

-- those that are noted in the redundant count
abbrev pub all_noted : List Actor → List Entry
all_noted actors = flat_map noted_of actors

-- what the deltas of all actors took
abbrev pub all_taken : List Actor → List Portion
all_taken actors = flat_map taken_of actors

-- the records that all actors published
abbrev pub all_published : List Actor → List Published
all_published actors = flat_map (λ a. a.done.published) actors

-- the histograms that `hist` returned to all actors
abbrev pub all_names : List Actor → List Known
all_names actors = flat_map (λ a. a.answers.names) actors

-- the histograms whose answer an actor owes
abbrev pub all_owed : List Actor → List Known
all_owed actors = flat_map (λ a. a.answers.owed) actors

-- the records that a cursor gave
abbrev pub given_by : ℕ → List Given → List ℕ
given_by cursor list = map (λ g. g.reference) (filter (λ g. g.cursor == cursor) list)

-- what a shared cursor gave all actors
abbrev pub all_given : List Actor → ℕ → List ℕ
all_given actors cursor = flat_map (λ a. given_by cursor a.done.given) actors

-- the units that were spent or are held for a histogram
abbrev pub all_costs : List Actor → List ℕ → ℕ
all_costs actors name = sum_by (λ a. cost_of a.units.costs name + cost_of a.units.held name) actors

-- ---- what was accepted

-- what had been accepted before a recorder was made, and what it has accepted itself
abbrev pub accepted_by : Actor → List Entry
accepted_by a = a.entries.inherited ++ log_of a

-- what had been accepted since the segment was opened, without the first entries of its opener, which no redundant count that is kept here
-- has
abbrev pub accepted_since : Actor → Actor → List Entry
accepted_since opener a = drop (length opener.entries.first) a.entries.inherited ++ map (λ c. c.entry) a.entries.log

-- ---- what it owns

-- no two blocks of its own begin at one word
abbrev pub AreOwnBlocksApart : Actor → Type 0
AreOwnBlocksApart a = a.hand.place ≢ Spent → (i j : ℕ) (x y : Own) → get_elem? a.hand.own i ≡ some x → get_elem? a.hand.own j ≡ some y → x.at ≡ y.at → i ≡ j
