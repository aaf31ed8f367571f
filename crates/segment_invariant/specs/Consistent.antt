-- What holds of the words, the shared cursors and all actors at every moment, no matter what happened and in which order: eight parts.
-- `opened` are the words with which the segment was opened: those of a new segment, or an adopted image.
pub use Rattle.image_rules.specs.Records.{HasName, IsHistogram, IsSampleOf, IsSample, counts_word}
use Rattle.std.specs.Prelude.{◌≡◌, ◌≢◌, ◌⊎◌, ◌↔◌, true, false, ◌==◌, max, ℕ, ◌+◌, ◌*◌, ◌/◌, ◌%◌, ◌<◌, ◌≤◌, ℤ, pos, ◌-ℤ◌, unsigned_abs, List, ◌∷◌, ◌++◌, map, length, take, sum_by, slice_index, bit_and, if◌then◌else◌, Some, None, IsPermutation, []}
use mathlib.Core.Option.{some}
use lib.ListN.{get_elem?}
use Rattle.std.specs.List.{slice_range, flat_map, Contains, All}
use Rattle.segment_image.specs.declared.layout.TheConstants.{BLOCK_COOKIE, BLOCK_HEADER, BLOCK_LEAST, BLOCK_NEXT, BLOCK_SIZE, BLOCK_TYPE, CLAIMED_COOKIE, FLAGS_WORD, FLAG_CORRUPT, FLAG_FULL, FREE_WORD, HEADER_WORDS, HISTOGRAM_COUNTS, HISTOGRAM_KIND, HISTOGRAM_NAME, HISTOGRAM_NAME_LENGTH, HISTOGRAM_REDUNDANT, HISTOGRAM_SINGLE, HISTOGRAM_SINGLE_MARK, HISTOGRAM_SUM, QUEUE, SAMPLE_COUNT, SAMPLE_HISTOGRAM, SAMPLE_LEAST, SAMPLE_MARK, SAMPLE_VALUE, TAIL_WORD, TYPE_HISTOGRAM, TYPE_SAMPLE, VERSION_WORD}
use Rattle.segment_image.specs.Words.{word_at}
use Rattle.segment_image.specs.Head.{head_of}
use Rattle.segment_image.specs.Blocks.{field_at}
use Rattle.alloc_core.specs.Planned.{is_pointer}
use Rattle.alloc_core.specs.Laws.{Behind, Apart}
use Rattle.list_core.specs.Chain.{stops, IsStop, IsChain}
use Rattle.list_core.specs.Walk.{IsPrefix}
use Rattle.bucket_ranges.specs.Spec.{SameSpec}
use Rattle.bucket_ranges.specs.Ranges.{boundaries_of}
use Rattle.bucket_ranges.specs.Single.{packed_bucket}
use Rattle.bucket_ranges.specs.Reading.{name_of, name_words, is_kind, is_sparse, spec_of, has_spec, has_name, has_counts, record_buckets, sum_of, sum_mark_of, sample_value, is_i32, record_single, total_of, mark_of}
use Rattle.segment_machine.specs.declared.entry.Entry.{Entry}
use Rattle.segment_machine.specs.declared.place.Place.TheVariants.{SumLoaded}
use Rattle.segment_machine.specs.declared.actor.Actor.{Actor}
use Rattle.segment_machine.specs.declared.actor.Portion.{Portion}
use Rattle.segment_machine.specs.declared.actor.Answered.{Answered}
use Rattle.segment_machine.specs.declared.actor.Claim.{Claim}
use Rattle.segment_machine.specs.declared.actor.Made.{Made}
use Rattle.segment_machine.specs.declared.actor.Made.TheVariants.{Histogram, Sample}
use Rattle.segment_machine.specs.declared.actor.Published.{Published}
use Rattle.segment_machine.specs.declared.seen.Sighting.{Sighting}
use Rattle.segment_machine.specs.Entry.{has_ended, tally_units, tally_sum, tally_noted}
use Rattle.segment_calls.specs.Form.{is_off, Leads}
use Rattle.image_rules.specs.Records.{IsHistogram, IsSampleOf, IsSample, counts_word}
use Rattle.segment_machine.specs.Actor.{Each, all_counted, all_summed, all_noted, all_taken, all_published, all_given, all_costs, taken_units, taken_sum, transit_of, units_of}
use Rattle.segment_machine.specs.Made.{AreNameWords}
use Rattle.segment_machine.specs.State.{State}
use Rattle.segment_image.specs.Shape.{Dimensions}
use Rattle.alloc_core.specs.Layout.{render, fresh}

-- ---- the keys of buckets

-- the key of a bucket
abbrev pub key_at : List ℕ → ℕ → ℕ → ℤ
key_at words at i = pos (slice_index (boundaries_of (spec_of words at)) i)

-- ---- 1: the list is the chain

-- what blocks an adopted image had, and what actors claimed
abbrev pub all_claims : List Claim → List Actor → List Claim
all_claims first actors = first ++ flat_map (λ a. a.done.claimed) actors

-- a claimed block, as a word and a size
abbrev pub run_of : Claim → ℕ × ℕ
run_of claim = (claim.at, claim.size)

-- where claimed blocks begin
abbrev pub places_of : List Claim → List ℕ
places_of claims = map (λ claim. claim.at) claims

-- what an actor has seen of the free pointer, the chain, the tail and the shared cursors is the present one, or an earlier one
pub record SawBefore (words cursors chain : List ℕ) (a : Actor) : Type 0 where
  pub free : Behind a.seen.free (word_at words FREE_WORD)
  pub walked : IsPrefix a.seen.chain chain
  pub tail : (seen i j : ℕ) → Contains a.seen.tails seen → i ≤ length chain → j ≤ length chain → slice_index (stops chain) i ≡ seen
      → slice_index (stops chain) j ≡ word_at words TAIL_WORD → i ≤ j
  pub cursor : (s : Sighting) → Contains a.seen.cursors s → (i j : ℕ) → i ≤ length chain → j ≤ length chain
      → slice_index (stops chain) i ≡ s.word → slice_index (stops chain) j ≡ slice_index cursors s.at → i ≤ j

-- The list is the chain: each record that an actor linked or that was there at the opening, once and in order. The header, the free pointer
-- and the blocks are as they have to be, and what actors have seen still holds.
pub record ListIsChain (opened : List ℕ) (first : List Claim) (words cursors : List ℕ) (actors : List Actor) (chain : List ℕ) : Type 0 where
  -- there are as many words as at the opening; words 0 to 5 and 9 to 14 are unchanged
  pub size : length words ≡ length opened
  pub header : (i : ℕ) → (i < FLAGS_WORD) ⊎ ((TAIL_WORD + 1 ≤ i) × (i < QUEUE + BLOCK_NEXT)) → word_at words i ≡ word_at opened i
  -- the free pointer is valid, and all words from it on are 0
  pub free : is_pointer (head_of words).shape (word_at words FREE_WORD) ≡ true
  pub zeros : (i : ℕ) → word_at words FREE_WORD ≤ i → i < length words → word_at words i ≡ 0
  -- the chain is there: the records of the opening, and those that actors have linked, each once
  pub chained : IsChain words (head_of words) chain
  pub opening : (front : List ℕ) × IsChain opened (head_of opened) front × IsPrefix front chain
      × IsPermutation chain (front ++ map (λ p. p.reference) (all_published actors))
  pub tail : IsStop chain (word_at words TAIL_WORD)
  -- claimed blocks are apart, each lies in one page, and they are so few that five words for each fit below the free pointer; their headers
  -- are stored; records are claimed blocks
  pub apart : (i j : ℕ) (a b : Claim) → i < j → get_elem? (all_claims first actors) i ≡ some a
      → get_elem? (all_claims first actors) j ≡ some b → Apart (run_of a) (run_of b)
  pub paged : All
      (λ claim. claim.at % (head_of words).shape.page + claim.size ≤ (head_of words).shape.page)
      (all_claims first actors)
  pub few : BLOCK_LEAST * length (all_claims first actors) + HEADER_WORDS ≤ word_at words FREE_WORD
  pub sized : All
      (λ claim. (field_at words claim.at BLOCK_SIZE ≡ claim.size) × (field_at words claim.at BLOCK_COOKIE ≡ CLAIMED_COOKIE))
      (all_claims first actors)
  pub claimed : (at : ℕ) → Contains chain at → Contains (places_of (all_claims first actors)) at
  -- what actors have seen
  pub seen : Each actors (SawBefore words cursors chain)
  -- a shared cursor is on the chain, and has given the records up to there, each once
  pub cursors_stand : (k : ℕ) → k < length cursors → (place : ℕ) × (place ≤ length chain)
      × (slice_index (stops chain) place ≡ slice_index cursors k)
      × IsPermutation (all_given actors k) (take place chain)

-- ---- 2: the records hold what they were given

-- a record holds what its maker was given. A histogram's name is valid and padded with zeros, its kind is one of those that are read, its
-- spec is valid and the one given, the words of name and spec lie in its block, and its counts fit in a page; a sample names the first
-- record of a name, which is sparse and comes before it on the chain
abbrev pub HoldsMade : List ℕ → List ℕ → ℕ → Made → Type 0
HoldsMade words chain at (Histogram name spec) =
    (field_at words at BLOCK_TYPE ≡ TYPE_HISTOGRAM) × (has_name words at ≡ true) × (name_of words at ≡ name)
    × (is_kind (field_at words at HISTOGRAM_KIND) ≡ true) × (has_spec words at ≡ true) × SameSpec (spec_of words at) spec
    × (BLOCK_HEADER + 2 * record_buckets words at ≤ (head_of words).shape.page)
    × AreNameWords name (slice_range words (at + HISTOGRAM_NAME) (at + HISTOGRAM_NAME + name_words (length name)))
HoldsMade words chain at (Sample histogram value) =
    IsSampleOf words histogram value at × (SAMPLE_LEAST ≤ field_at words at BLOCK_SIZE) × (is_i32 value ≡ true)
    × ((name front behind : List ℕ) × IsHistogram words chain name histogram × (is_sparse words histogram ≡ true)
    × (chain ≡ front ++ at ∷ behind) × Contains front histogram)

-- A word of a record of this type never changes: of a histogram's record its kind, its minimum, its maximum and its number of buckets, and
-- all words from the length of its name on; of a sample its histogram, its value, and all words after its mark; of a record of another type
-- all words after its header.
abbrev pub NeverChanges : ℕ → ℕ → Type 0
NeverChanges tag i =
    ((tag ≡ TYPE_HISTOGRAM) × (((HISTOGRAM_KIND ≤ i) × (i < HISTOGRAM_COUNTS)) ⊎ (HISTOGRAM_NAME_LENGTH ≤ i)))
    ⊎ ((tag ≡ TYPE_SAMPLE) × ((i ≡ SAMPLE_HISTOGRAM) ⊎ (i ≡ SAMPLE_VALUE) ⊎ (SAMPLE_LEAST ≤ i)))
    ⊎ ((tag ≢ TYPE_HISTOGRAM) × (tag ≢ TYPE_SAMPLE) × (BLOCK_HEADER ≤ i))

-- a record of the opening still holds what it held there
abbrev pub HoldsStill : List ℕ → List ℕ → ℕ → Type 0
HoldsStill opened words at =
    (field_at words at BLOCK_SIZE ≡ field_at opened at BLOCK_SIZE) × (field_at words at BLOCK_TYPE ≡ field_at opened at BLOCK_TYPE)
    × ((i : ℕ) → i < field_at opened at BLOCK_SIZE → NeverChanges (field_at opened at BLOCK_TYPE) i → field_at words at i ≡ field_at opened at i)

-- the counts, the single word and the marks of a record have a valid form. The counts reference is 0 or that of a counts block, and is not
-- 0 once the single word is off. Until then all counts and their marks are 0; the mark of the packed bucket is the single mark, and its
-- mark after the counts stays 0. A sparse record has none of these
pub record HasForm (version : ℕ) (words : List ℕ) (at : ℕ) : Type 0 where
  pub sparse : is_sparse words at ≡ true → (i : ℕ) → HISTOGRAM_COUNTS ≤ i → i < HISTOGRAM_SUM → field_at words at i ≡ 0
  pub counts : is_sparse words at ≡ false → has_counts words (head_of words) at ≡ true
  pub lawful : is_sparse words at ≡ false → record_single version words at ≢ None
  pub off : is_sparse words at ≡ false → is_off (field_at words at HISTOGRAM_SINGLE) ≡ true → field_at words at HISTOGRAM_COUNTS ≢ 0
  pub unused : is_sparse words at ≡ false → is_off (field_at words at HISTOGRAM_SINGLE) ≡ false → field_at words at HISTOGRAM_COUNTS ≢ 0
      → (i : ℕ) → i < 2 * record_buckets words at → field_at words (field_at words at HISTOGRAM_COUNTS) (BLOCK_HEADER + i) ≡ 0
  pub packed : is_sparse words at ≡ false → field_at words at HISTOGRAM_COUNTS ≢ 0 → (i : ℕ) → packed_bucket (record_single version words at) ≡ Some i
      → field_at words (field_at words at HISTOGRAM_COUNTS) (BLOCK_HEADER + record_buckets words at + i) ≡ 0

-- how many words its counts block has for counts and marks
abbrev pub counts_words : List ℕ → ℕ → ℕ
counts_words words at = if field_at words at HISTOGRAM_COUNTS == 0 then 0 else 2 * record_buckets words at

-- a published record in which nobody counts: it has no counts, and nothing is packed, taken, summed or noted
abbrev pub HoldsNothing : List ℕ → ℕ → Type 0
HoldsNothing words at = (i : ℕ) → HISTOGRAM_COUNTS ≤ i → i < HISTOGRAM_NAME_LENGTH → field_at words at i ≡ 0

-- a record of an adopted image in which nobody counts: all is unchanged
abbrev pub CountsStill : List ℕ → List ℕ → ℕ → Type 0
CountsStill opened words at =
    ((i : ℕ) → HISTOGRAM_COUNTS ≤ i → i < HISTOGRAM_NAME_LENGTH → field_at words at i ≡ field_at opened at i)
    × ((i : ℕ) → i < counts_words words at → counts_word words at i ≡ counts_word opened at i)

-- each record on the list holds what its maker was given, and its single word and its counts are as they have to be
pub record RecordsHold (opened : List ℕ) (first : List Claim) (words : List ℕ) (actors : List Actor) (chain : List ℕ) : Type 0 where
  -- each record that an actor linked holds what it was given, and each of the opening what it held there
  pub made : (p : Published) → Contains (all_published actors) p → HoldsMade words chain p.reference p.made
  pub still : (front : List ℕ) (at : ℕ) → IsChain opened (head_of opened) front → Contains front at → HoldsStill opened words at
  -- each histogram's record has a valid form; a counts block was claimed, is no record, and no two records name the same one
  pub formed : (at : ℕ) → Contains chain at → field_at words at BLOCK_TYPE ≡ TYPE_HISTOGRAM → HasForm (word_at opened VERSION_WORD) words at
  pub own_counts : (a b : ℕ) → Contains chain a → Contains chain b → field_at words a BLOCK_TYPE ≡ TYPE_HISTOGRAM → field_at words b BLOCK_TYPE ≡ TYPE_HISTOGRAM
      → field_at words a HISTOGRAM_COUNTS ≢ 0 → field_at words a HISTOGRAM_COUNTS ≡ field_at words b HISTOGRAM_COUNTS → a ≡ b
  pub claimed_counts : (at : ℕ) → Contains chain at → field_at words at BLOCK_TYPE ≡ TYPE_HISTOGRAM → field_at words at HISTOGRAM_COUNTS ≢ 0
      → Contains (places_of (all_claims first actors)) (field_at words at HISTOGRAM_COUNTS) × (¬ (Contains chain (field_at words at HISTOGRAM_COUNTS)))
  -- each single word that an actor has seen leads to the present one
  pub singles : Each actors (λ a. (s : Sighting) (at : ℕ) → Contains a.seen.singles s → Contains chain at → s.at ≡ at + HISTOGRAM_SINGLE
      → Leads (word_at opened VERSION_WORD) (record_buckets words at) s.word (word_at words s.at))
  -- in a record that is not the first of its name nobody counts, nor in a sample that is not the first of its value: a record of the
  -- opening is unchanged, and one that an actor linked holds nothing
  pub later : (front : List ℕ) (at other : ℕ) → IsChain opened (head_of opened) front → Contains chain at → field_at words at BLOCK_TYPE ≡ TYPE_HISTOGRAM
      → IsHistogram words chain (name_of words at) other → other ≢ at
      → (Contains front at → CountsStill opened words at) × (¬ (Contains front at) → HoldsNothing words at)
  pub later_samples : (at other : ℕ) → Contains chain at → field_at words at BLOCK_TYPE ≡ TYPE_SAMPLE
      → IsSample words chain (field_at words at SAMPLE_HISTOGRAM) (sample_value words at) other → other ≢ at
      → (field_at words at SAMPLE_COUNT ≡ 0) × (field_at words at SAMPLE_MARK ≡ 0)

-- ---- 3: totals are what was counted

-- the key of an entry is there: it is that of a bucket of the histogram, or of one of its samples
abbrev pub HasPlace : List ℕ → List ℕ → List ℕ → ℤ → Type 0
HasPlace words chain name key =
    (at : ℕ) × IsHistogram words chain name at
    × (((i : ℕ) × (is_sparse words at ≡ false) × (i < record_buckets words at) × (key ≡ key_at words at i))
    ⊎ ((sample : ℕ) × (is_sparse words at ≡ true) × IsSample words chain at key sample))

-- what the words count is what was counted
pub record TotalsAreCounted (version : ℕ) (words : List ℕ) (actors : List Actor) (chain : List ℕ) : Type 0 where
  -- a bucket's total and its units in transit are the units of the entries that are counted there
  pub buckets : (name : List ℕ) (at i : ℕ) → IsHistogram words chain name at → is_sparse words at ≡ false
      → i < record_buckets words at
      → total_of version words at i + transit_of actors at i ≡ tally_units (all_counted actors) name (key_at words at i)
  -- so are those of a sparse value, of which none are in transit
  pub values : (name : List ℕ) (at sample : ℕ) (value : ℤ) → IsHistogram words chain name at → is_sparse words at ≡ true
      → IsSample words chain at value sample → field_at words sample SAMPLE_COUNT ≡ tally_units (all_counted actors) name value
  -- units that are counted have a key that is there
  pub placed : (entry : Entry) → Contains (all_counted actors) entry → 0 < entry.units → HasPlace words chain entry.name entry.key
  -- all three events of each entry of an ended call have happened
  pub ended : Each actors (λ a. All (λ c. has_ended c ≡ true) a.entries.log)

-- ---- 4: marks are what was taken

-- the units of a key that all deltas took
abbrev pub units_taken : List Actor → List ℕ → ℤ → ℕ
units_taken actors name key = taken_units (all_taken actors) name key

-- the buckets of a snapshot are at most what is counted there
abbrev pub IsWithinCounts : List Actor → Answered → Type 0
IsWithinCounts actors answered = All (λ count. count.1 ≤ tally_units (all_counted actors) answered.name count.0) answered.counts

-- the marks are what deltas took
pub record MarksAreTaken (version : ℕ) (words : List ℕ) (actors : List Actor) (chain : List ℕ) : Type 0 where
  -- a bucket's mark is the units that were taken there, and no more than were counted there
  pub buckets : (name : List ℕ) (at i : ℕ) → IsHistogram words chain name at → is_sparse words at ≡ false
      → i < record_buckets words at → (mark_of version words at i ≡ units_taken actors name (key_at words at i))
      × (mark_of version words at i ≤ tally_units (all_counted actors) name (key_at words at i))
  -- so is a sparse value's
  pub values : (name : List ℕ) (at sample : ℕ) (value : ℤ) → IsHistogram words chain name at → is_sparse words at ≡ true
      → IsSample words chain at value sample
      → (field_at words sample SAMPLE_MARK ≡ units_taken actors name value) × (field_at words sample SAMPLE_MARK ≤ field_at words sample SAMPLE_COUNT)
  -- units that were taken have a key that is there
  pub placed : (t : Portion) (count : ℤ × ℕ) → Contains (all_taken actors) t → Contains t.counts count
      → HasPlace words chain t.name count.0
  -- the single mark is 0 while no bucket is or was packed; in version 1 it is at most the greater of that bucket's total and
  -- 65,535, since its units may be in transit
  pub unpacked : (at : ℕ) → Contains chain at → field_at words at BLOCK_TYPE ≡ TYPE_HISTOGRAM → packed_bucket (record_single version words at) ≡ None
      → field_at words at HISTOGRAM_SINGLE_MARK ≡ 0
  pub packed : (at i : ℕ) → Contains chain at → field_at words at BLOCK_TYPE ≡ TYPE_HISTOGRAM → version ≡ 1
      → packed_bucket (record_single version words at) ≡ Some i
      → field_at words at HISTOGRAM_SINGLE_MARK ≤ max (total_of version words at i) 65535
  -- the sum mark is the sum of what was taken of the sum
  pub sum : (name : List ℕ) (at : ℕ) → IsHistogram words chain name at → sum_mark_of words at ≡ taken_sum (all_taken actors) name
  -- counts, marks and redundant counts that an actor saw are at most the present ones
  pub seen : Each actors (λ a. All (λ s. s.word ≤ word_at words s.at) a.seen.counts)
  -- and a bucket of a snapshot is at most what is counted there
  pub snapshots : Each actors (λ a. All (IsWithinCounts actors) a.deltas.snapshots)

-- ---- 5: sums are amounts

-- the sums and the redundant counts are what was added to them
pub record SumsAreAmounts (opened words : List ℕ) (actors : List Actor) (chain : List ℕ) : Type 0 where
  -- The sum is the sum of the amounts, and the redundant count grew by the units, as far as their events have happened: from what a record
  -- of the opening had there, or from 0 if an actor linked the record.
  pub sum : (name : List ℕ) (at : ℕ) → IsHistogram words chain name at → sum_of words at ≡ tally_sum (all_summed actors) name
  pub redundant : (front name : List ℕ) (at : ℕ) → IsChain opened (head_of opened) front → IsHistogram words chain name at
      → (Contains front at → field_at words at HISTOGRAM_REDUNDANT ≡ field_at opened at HISTOGRAM_REDUNDANT + tally_noted (all_noted actors) name)
      × (¬ (Contains front at) → field_at words at HISTOGRAM_REDUNDANT ≡ tally_noted (all_noted actors) name)

-- ---- 6: transit is local

-- units are in transit in version 1 alone, and of the packed bucket alone; they are so only while an actor is between disabling the word
-- and adding them
abbrev pub TransitIsLocal : ℕ → List ℕ → List Actor → Type 0
TransitIsLocal version words actors =
    (at i : ℕ) → 0 < transit_of actors at i → (version ≡ 1) × (packed_bucket (record_single version words at) ≡ Some i)

-- ---- 7: flags are set

-- the corrupt flag is set exactly if it was set at the opening or an actor has set it, and so is the full flag; the other bits stay
pub record FlagsAreSet (opened words : List ℕ) (actors : List Actor) : Type 0 where
  pub corrupt : (bit_and (word_at words FLAGS_WORD) FLAG_CORRUPT ≡ FLAG_CORRUPT)
      ↔ ((bit_and (word_at opened FLAGS_WORD) FLAG_CORRUPT ≡ FLAG_CORRUPT) ⊎ Contains (map (λ a. a.done.spoiled) actors) true)
  pub full : (bit_and (word_at words FLAGS_WORD) FLAG_FULL ≡ FLAG_FULL)
      ↔ ((bit_and (word_at opened FLAGS_WORD) FLAG_FULL ≡ FLAG_FULL) ⊎ Contains (map (λ a. a.done.filled) actors) true)
  -- the corrupt flag is set if an actor has seen it
  pub noticed : Each actors (λ a. a.seen.corrupt ≡ true → bit_and (word_at words FLAGS_WORD) FLAG_CORRUPT ≡ FLAG_CORRUPT)
  pub others : word_at words FLAGS_WORD / 4 ≡ word_at opened FLAGS_WORD / 4

-- ---- 8: units are kept

-- a sum that a running delta has loaded of a histogram, if there is one
abbrev pub IsLoaded : List Actor → ℕ → ℤ → Type 0
IsLoaded actors at sum = (a : Actor) × Contains actors a × (a.hand.place ≡ SumLoaded at sum)

-- a sum of a histogram: the present one, its mark, or one that a running delta has loaded
abbrev pub IsSum : List ℕ → List Actor → ℕ → ℤ → Type 0
IsSum words actors at sum = (sum ≡ sum_of words at) ⊎ (sum ≡ sum_mark_of words at) ⊎ IsLoaded actors at sum

-- no unit comes from nowhere, and none is lost
pub record UnitsAreKept (words : List ℕ) (actors : List Actor) (chain : List ℕ) : Type 0 where
  -- what all actors may still spend, hold and have spent is what a segment has
  pub pool : sum_by units_of actors ≡ 4294967295
  -- a counted unit is spent, or held by the call that counted it
  pub counted : (name : List ℕ) → tally_noted (all_counted actors) name ≤ all_costs actors name
  -- so is each that the redundant count has
  pub redundant : (name : List ℕ) (at : ℕ) → IsHistogram words chain name at → field_at words at HISTOGRAM_REDUNDANT ≤ all_costs actors name
  -- each sum, and the difference of any two, is at most 2^31 times what was spent and is held for the histogram, in size
  pub sums : (name : List ℕ) (at : ℕ) (a : ℤ) → IsHistogram words chain name at → IsSum words actors at a
      → unsigned_abs a ≤ 2147483648 * all_costs actors name
  pub differences : (name : List ℕ) (at : ℕ) (a b : ℤ) → IsHistogram words chain name at
      → IsSum words actors at a → IsSum words actors at b
      → unsigned_abs (a -ℤ b) ≤ 2147483648 * all_costs actors name

-- ---- all of it

-- What a segment was opened with: its words, which are those of a new segment or of an adopted image, and the blocks that an adopted image
-- had, which are its records and the counts blocks that they name.
pub record Opening : Type 0 where
  pub words : List ℕ
  pub claims : List Claim

-- What a reader can rely on in a state, in eight parts.
pub record IsConsistent (opening : Opening) (state : State) : Type 0 where
  -- the chain, which follows from the words alone
  pub chain : List ℕ
  pub list_is_chain : ListIsChain opening.words opening.claims state.words state.cursors state.actors chain
  pub records_hold : RecordsHold opening.words opening.claims state.words state.actors chain
  pub totals_are_counted : TotalsAreCounted (word_at opening.words VERSION_WORD) state.words state.actors chain
  pub marks_are_taken : MarksAreTaken (word_at opening.words VERSION_WORD) state.words state.actors chain
  pub sums_are_amounts : SumsAreAmounts opening.words state.words state.actors chain
  pub transit_is_local : TransitIsLocal (word_at opening.words VERSION_WORD) state.words state.actors
  pub flags_are_set : FlagsAreSet opening.words state.words state.actors
  pub units_are_kept : UnitsAreKept state.words state.actors chain

-- ---- at the opening

-- a new segment
abbrev pub new_opening : Dimensions → ℕ → ℕ → Opening
new_opening shape version id = record { words = render shape (fresh shape version id); claims = [] }
