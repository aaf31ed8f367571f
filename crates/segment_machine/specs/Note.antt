-- What an actor notes in its own record. A note changes no word. It is made with one of its actor's events, before or after it, or in an
-- announcement. So a step still changes at most one word and one actor.
use Rattle.std.specs.Prelude.{◌≡◌, ◌≢◌, Bool, true, false, not, ◌&&◌, ◌==◌, ℕ, ◌+◌, ◌-◌, ◌*◌, ◌<◌, ◌≤◌, ℤ, pos, unsigned_abs, ◌⊎◌, List, [], ◌∷◌, ◌++◌, map, take, drop, length, Some, None}
use mathlib.Core.Option.{some}
use lib.ListN.{get_elem?}
use Rattle.std.specs.List.{range_with_len, Contains, All, filter}
use Rattle.std.specs.Str.{bytes_eq}
use Rattle.segment_image.specs.declared.layout.TheConstants.{BLOCK_HEADER, HISTOGRAM_COUNTS, HISTOGRAM_REDUNDANT, HISTOGRAM_SINGLE, HISTOGRAM_SINGLE_MARK, SAMPLE_COUNT, SAMPLE_MARK}
use Rattle.segment_machine.specs.declared.entry.Entry.{Entry}
use Rattle.segment_machine.specs.declared.entry.EntryProgress.{EntryProgress}
use Rattle.segment_machine.specs.declared.place.Place.TheVariants.{Spent, SumLoaded}
use Rattle.segment_machine.specs.declared.actor.Actor.{Actor}
use Rattle.segment_machine.specs.declared.actor.Answered.{Answered}
use Rattle.segment_machine.specs.declared.actor.Cost.{Cost}
use Rattle.segment_machine.specs.declared.actor.Known.{Known}
use Rattle.segment_machine.specs.declared.actor.Made.{Made}
use Rattle.segment_machine.specs.declared.actor.Moment.{Moment}
use Rattle.segment_machine.specs.declared.actor.Own.{Own}
use Rattle.segment_machine.specs.declared.seen.Sighting.{Sighting}
use Rattle.segment_machine.specs.declared.actor.Taken.{Taken}
use Rattle.segment_machine.specs.Entry.{AreWithin, fresh, has_ended, tally_noted}
use Rattle.bucket_ranges.specs.Spec.{buckets_of}
use Rattle.bucket_ranges.specs.declared.spec.Spec.TheVariants as spec
use Rattle.bucket_ranges.specs.Single.{single_of, units_packed, packed_bucket}
use Rattle.segment_calls.specs.Form.{is_off}
use Rattle.segment_machine.specs.Actor.{log_of, is_bound, looking, cost_total, bucket_key, has_buckets, word_seen, SawSingle, SawCount, is_opener, made_of, outstanding_of}
use Rattle.segment_machine.specs.Made.{IsFirstNamed, IsFirstSample, SawSample, SawSpec, AreNameWords, SawOtherSpec}
use Rattle.segment_machine.specs.Calls.{change_last, change_own}

-- what an actor notes
pub data Note : Type 0 where
  -- a call that counts begins: entries of a histogram, and what it holds for them
  begins : (name : List ℕ) (cost : ℕ) (entries : List Entry) → Note
  -- a call whose entries have all ended continues with one more entry, and holds `cost` more units: a batch does so, item by item
  goes_on : (entry : Entry) (cost : ℕ) → Note
  -- the amount of the last entry, given as 0 at first, becomes known: that of a sample, or of a batch's sum
  amounts : (amount : ℤ) → Note
  -- the block at a word is to hold this
  asks : (at : ℕ) (made : Made) → Note
  -- a `hist` returns this histogram. What the actor saw before may be of it, so the actor looks again
  knows : (known : Known) → Note
  -- a `hist` that has linked its record is refused: an earlier record of the name has another spec
  declines : (mine : Known) → Note
  -- a delta of a histogram begins, and ends
  takes : (name : List ℕ) → Note
  has_taken : Note
  -- a snapshot begins, and returns
  looks : Note
  answers : (answered : Answered) → Note
  -- a call that counts ends: it was accepted
  ends : Note
  -- it ends refused: its first `added` entries have ended, nothing of the others was done, and no amount was added, since the units that
  -- pay for an amount would come back with those of the others
  refused : (added : ℕ) → Note

-- when a delta or a snapshot of this actor begins
abbrev pub moment_of : Actor → Moment
moment_of a = record { log = length (log_of a); before = made_of a.role; outstanding = outstanding_of a.role }

-- a delta that has taken nothing yet
abbrev pub nothing_taken : Actor → List ℕ → Taken
nothing_taken a name = record { name = name; counts = []; sum = pos 0; swapped = false; moment = moment_of a }

-- nothing of an entry was done
abbrev pub is_untouched : EntryProgress → Bool
is_untouched c = not c.counted && not c.summed && not c.noted

-- the units of a name of these entries
abbrev pub units_running : List EntryProgress → List ℕ → ℕ
units_running list name = tally_noted (map (λ c. c.entry) list) name

-- what a refused call has spent: the units of its first entries
abbrev pub spent_by : ℕ → Actor → List Cost
spent_by added a = map (λ (cost : Cost). record cost { units = units_running (take added a.entries.running) cost.name }) a.units.held

-- an actor after it made a note
abbrev pub noted : Actor → Note → Actor
noted a (begins name cost entries) = record a {
  units = record a.units { share = a.units.share - cost; held = record { name = name; units = cost } ∷ [] };
  entries = record a.entries { running = map fresh entries };
}
noted a (goes_on entry cost) = record a {
  units = record a.units {
    share = a.units.share - cost;
    held = map (λ (held : Cost). record held { units = held.units + cost }) a.units.held;
  };
  entries = record a.entries { running = a.entries.running ++ fresh entry ∷ [] };
}
noted a (amounts amount) = record a {
  entries = record a.entries { running = change_last (λ c. let entry = c.entry in record c { entry = record entry { amount = amount } }) a.entries.running };
}
noted a (asks at made) = record a { hand = record a.hand { own = change_own at (λ own. record own { made = Some made }) a.hand.own } }
noted a (knows known) = record (looking a) {
  answers = record {
    names = a.answers.names ++ known ∷ [];
    owed = filter (λ (mine : Known). not (bytes_eq mine.name known.name)) a.answers.owed;
  };
}
noted a (declines mine) = record a {
  answers = record a.answers { owed = filter (λ (other : Known). not (bytes_eq other.name mine.name && (other.reference == mine.reference))) a.answers.owed };
}
noted a (takes name) = record (looking a) { deltas = record a.deltas { taking = true; taken = a.deltas.taken ++ nothing_taken a name ∷ [] } }
noted a has_taken = record a { deltas = record a.deltas { taking = false } }
noted a looks = looking a
noted a (answers answered) = record a { deltas = record a.deltas { snapshots = a.deltas.snapshots ++ answered ∷ [] } }
noted a ends = record (looking a) { entries = record a.entries { log = a.entries.log ++ a.entries.running; running = [] }; units = record a.units { costs = a.units.costs ++ a.units.held; held = [] } }
noted a (refused added) = record (looking a) {
  units = record {
    share = a.units.share + (cost_total a.units.held - cost_total (spent_by added a));
    costs = a.units.costs ++ spent_by added a;
    held = [];
  };
  entries = record a.entries { log = a.entries.log ++ take added a.entries.running; running = [] };
}

-- what it saw of a bucket: packed units; or, if the word is off, the count in the block of the counts reference, in version 2 with the
-- units that the word keeps
abbrev pub SawBucket : Actor → Known → ℕ → ℕ → Type 0
SawBucket a known bucket total =
    (word : ℕ) × SawSingle a (known.reference + HISTOGRAM_SINGLE) word
    × let form = single_of a.segment.version (buckets_of known.spec) word in
    (((is_off word ≡ false) × (total ≡ units_packed form bucket))
    ⊎ ((is_off word ≡ true) × ((counts count : ℕ) × (word_seen a.seen.words (known.reference + HISTOGRAM_COUNTS) ≡ Some counts)
    × SawCount a (counts + BLOCK_HEADER + bucket) count × (total ≡ count + units_packed form bucket))))

-- where the mark of a bucket is: the single mark for the packed bucket, or in the counts block, after the counts
abbrev pub IsMarkOf : Actor → Known → ℕ → ℕ → Type 0
IsMarkOf a known bucket at =
    ((word : ℕ) × SawSingle a (known.reference + HISTOGRAM_SINGLE) word
    × (packed_bucket (single_of a.segment.version (buckets_of known.spec) word) ≡ Some bucket) × (at ≡ known.reference + HISTOGRAM_SINGLE_MARK))
    ⊎ ((counts : ℕ) × (word_seen a.seen.words (known.reference + HISTOGRAM_COUNTS) ≡ Some counts) × (at ≡ counts + BLOCK_HEADER + buckets_of known.spec + bucket))

-- what it saw of a bucket was taken: it is 0, or the mark was raised to it at least
abbrev pub TookBucket : Actor → Known → ℕ → Type 0
TookBucket a known bucket =
    (total : ℕ) × SawBucket a known bucket total
    × ((total ≡ 0) ⊎ ((at mark : ℕ) × IsMarkOf a known bucket at × SawCount a at mark × (total ≤ mark)))

-- a delta took what it saw of a sample
abbrev pub TookSample : Actor → ℕ → Type 0
TookSample a sample =
    (count : ℕ) × SawCount a (sample + SAMPLE_COUNT) count × ((count ≡ 0) ⊎ ((mark : ℕ) × SawCount a (sample + SAMPLE_MARK) mark × (count ≤ mark)))

-- A delta has taken all that it saw: of each bucket, or of each sample of its histogram that it visited; and the sum was swapped.
pub record TookAll (a : Actor) (known : Known) : Type 0 where
  pub buckets : has_buckets known.spec ≡ true → (bucket : ℕ) → bucket < buckets_of known.spec → TookBucket a known bucket
  pub samples : known.spec ≡ spec.Sparse → (value : ℤ) (sample : ℕ) → Contains a.seen.chain sample
      → SawSample a.seen known.reference value sample → TookSample a sample
  pub summed : (before : List Taken) × (last : Taken) × (a.deltas.taken ≡ before ++ last ∷ []) × (last.name ≡ known.name) × (last.swapped ≡ true)

-- A snapshot returns what it saw since it began: each bucket once, in order, with its total; or values, each once, with the count of their
-- first sample, and among them every value for which it visited a sample with a count; the sum that it loaded; and the redundant count,
-- which it loaded last.
pub record SawAll (a : Actor) (known : Known) (answered : Answered) : Type 0 where
  pub buckets : has_buckets known.spec ≡ true
      → (map (λ count. count.0) answered.counts ≡ map (bucket_key (Some known)) (range_with_len 0 (buckets_of known.spec)))
      × ((bucket : ℕ) (count : ℤ × ℕ) → get_elem? answered.counts bucket ≡ some count → SawBucket a known bucket count.1)
  pub samples : known.spec ≡ spec.Sparse
      → All (λ count. (sample : ℕ) × IsFirstSample a.seen known.reference count.0 sample × SawCount a (sample + SAMPLE_COUNT) count.1) answered.counts
  pub once : known.spec ≡ spec.Sparse → (i j : ℕ) (x y : ℤ × ℕ) → get_elem? answered.counts i ≡ some x → get_elem? answered.counts j ≡ some y
      → x.0 ≡ y.0 → i ≡ j
  pub values : known.spec ≡ spec.Sparse → (value : ℤ) (sample : ℕ) → Contains a.seen.chain sample → SawSample a.seen known.reference value sample
      → (count : ℕ) × SawCount a (sample + SAMPLE_COUNT) count × ((count ≡ 0) ⊎ Contains (map (λ count. count.0) answered.counts) value)
  pub sum : a.hand.place ≡ SumLoaded known.reference answered.sum
  pub redundant : (before : List Sighting) × (drop a.since.counts a.seen.counts ≡ before ++ record { at = known.reference + HISTOGRAM_REDUNDANT; word = answered.redundant } ∷ [])

-- when an actor may note it. An opener counts and takes nothing itself
abbrev pub MayNote : Actor → Note → Type 0
MayNote a (begins name cost entries) =
    (a.hand.place ≢ Spent) × (is_opener a.role ≡ false) × (a.entries.running ≡ []) × (a.units.held ≡ []) × (a.deltas.taking ≡ false) × (cost ≤ a.units.share)
    × Contains (map (λ known. known.name) a.answers.names) name × AreWithin name cost entries
MayNote a (goes_on entry cost) =
    (a.entries.running ≢ []) × All (λ c. has_ended c ≡ true) a.entries.running × (cost ≤ a.units.share)
    × ((name : List ℕ) × (units : ℕ) × (a.units.held ≡ record { name = name; units = units } ∷ [])
    × AreWithin name (units + cost) (map (λ c. c.entry) a.entries.running ++ entry ∷ []))
MayNote a (amounts amount) =
    ((before : List EntryProgress) × (last : EntryProgress) × (a.entries.running ≡ before ++ last ∷ []) × (last.summed ≡ false) × (last.noted ≡ false))
    × All (λ c. c.entry.amount ≡ pos 0) a.entries.running
    × (unsigned_abs amount ≤ 2147483648 * cost_total a.units.held)
MayNote a (asks at made) = (own : Own) × Contains a.hand.own own × (own.at ≡ at) × (own.made ≡ None)
MayNote a (knows known) =
    IsFirstNamed a.seen known.name known.reference
    × ((letters : List ℕ) × AreNameWords known.name letters × SawSpec a.seen known.spec (length letters) known.reference)
MayNote a (declines mine) =
    Contains a.answers.owed mine
    × ((at : ℕ) × (letters : List ℕ) × IsFirstNamed a.seen mine.name at × AreNameWords mine.name letters
    × SawOtherSpec a.seen mine.spec (length letters) at)
MayNote a (takes name) =
    (a.hand.place ≢ Spent) × (is_opener a.role ≡ false) × (a.entries.running ≡ []) × (a.deltas.taking ≡ false) × Contains (map (λ known. known.name) a.answers.names) name
MayNote a has_taken = (a.deltas.taking ≡ true) × ((known : Known) × Contains a.answers.names known × TookAll a known)
MayNote a looks = (a.hand.place ≢ Spent) × (is_opener a.role ≡ false) × (a.entries.running ≡ []) × (a.deltas.taking ≡ false)
MayNote a (answers answered) =
    (known : Known) × Contains a.answers.names known × (known.name ≡ answered.name) × SawAll a known answered
    × (answered.moment ≡ moment_of a)
MayNote a ends = (is_bound a.hand.place ≡ false) × All (λ c. has_ended c ≡ true) a.entries.running
MayNote a (refused added) =
    (is_bound a.hand.place ≡ false) × All (λ c. has_ended c ≡ true) (take added a.entries.running) × All (λ c. is_untouched c ≡ true) (drop added a.entries.running)
    × All (λ c. c.summed ≡ false) (take added a.entries.running)

-- notes one after the other
abbrev pub Notes : Actor → List Note → Actor → Type 0
Notes a [] b = a ≡ b
Notes a (note ∷ rest) b = MayNote a note × Notes (noted a note) rest b
