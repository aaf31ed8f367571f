-- What an actor has seen, and that it is no later than the present. All that is said here stays true whatever others do, since a segment
-- only grows: blocks keep their places, words that are fixed stay, counters rise, single words lead on, the list becomes longer at its end.
use Rattle.std.specs.Prelude.{◌≡◌, ◌≢◌, ◌⊎◌, true, ℕ, ◌+◌, ◌<◌, ◌≤◌, ℤ, List, length, slice_index, Some, None}
use Rattle.std.specs.List.{All, Contains}
use mathlib.Core.Option.{Option, some, none}
use lib.ListN.{get_elem?}
use Rattle.bucket_ranges.specs.declared.spec.Spec.{Spec}
use Rattle.bucket_ranges.specs.Spec.{buckets_of, SameSpec}
use Rattle.alloc_core.specs.Laws.{Behind}
use Rattle.list_core.specs.Chain.{stops}
use Rattle.list_core.specs.Walk.{IsPrefix}
use Rattle.segment_image.specs.declared.layout.TheConstants.{BLOCK_HEADER, BLOCK_TYPE, HISTOGRAM_COUNTS, HISTOGRAM_KIND, HISTOGRAM_NAME_LENGTH, HISTOGRAM_REDUNDANT, HISTOGRAM_SINGLE, HISTOGRAM_SINGLE_MARK, SAMPLE_COUNT, SAMPLE_HISTOGRAM, SAMPLE_LEAST, SAMPLE_MARK, SAMPLE_VALUE}
use Rattle.segment_machine.specs.declared.seen.Seen.{Seen}
use Rattle.segment_machine.specs.declared.actor.Known.{Known}
use Rattle.segment_machine.specs.declared.actor.Made.TheVariants as made
use Rattle.segment_machine.specs.declared.actor.Own.{Own}
use Rattle.segment_machine.specs.declared.seen.Sighting.{Sighting}
use Rattle.bucket_ranges.specs.Single.{single_of}
use Rattle.list_lemmas.specs.Firsts.{IsFirstThat}
use Rattle.segment_calls.specs.Form.{is_off, Leads}
use Rattle.segment_machine.specs.Made.{SawSample}
use Rattle.segment_invariant.specs.Body.{Record, Counts, Sample, Body, plain, held, histogram, counts, sample, other, words_of, Piece, Listed, Anatomy, order_of, free_of}

-- ---- blocks by their places

-- a block with this owner and body begins at this word
abbrev pub Stands : List Piece → ℕ → Option ℕ → Body → Type 0
Stands pieces at owner body = (k : ℕ) × (get_elem? pieces k ≡ some (record { at = at; owner = owner; body = body }))

-- words that are no block yet begin there, and belong to this actor
abbrev pub HasPlain : List Piece → ℕ → ℕ → List ℕ → Type 0
HasPlain pieces id at words = Stands pieces at (some id) (plain words)

-- a block that this actor has in hand begins there
abbrev pub HasOwn : List Piece → ℕ → Own → Type 0
HasOwn pieces id own = Stands pieces own.at (some id) (held own)

-- a histogram's record begins there
abbrev pub HasRecord : List Piece → ℕ → Record → Type 0
HasRecord pieces at r = Stands pieces at none (histogram r)

-- a block of counts begins there
abbrev pub HasCounts : List Piece → ℕ → Counts → Type 0
HasCounts pieces at c = Stands pieces at none (counts c)

-- a sample begins there
abbrev pub HasSample : List Piece → ℕ → Sample → Type 0
HasSample pieces at s = Stands pieces at none (sample s)

-- a block of which nothing changes but its next begins there, with this size, type and payload
abbrev pub HasStill : List Piece → ℕ → ℕ → ℕ → List ℕ → Type 0
HasStill pieces at size tag payload = (next : ℕ) × Stands pieces at none (other size tag next payload)

-- such a block has the words of a body
abbrev pub HoldsAs : List Piece → ℕ → Body → Type 0
HoldsAs pieces at body =
    (size tag next : ℕ) × (payload : List ℕ) × Stands pieces at none (other size tag next payload)
    × (words_of body ≡ words_of (other size tag next payload))

-- ---- the first record of a name, and of a value

-- a listed record is of a histogram with this name
abbrev pub IsRecordNamed : List ℕ → Listed → Type 0
IsRecordNamed name l = (spec : Spec) × (l.made ≡ Some (made.Histogram name spec))

-- a listed record is of a sample of this value
abbrev pub IsValued : ℕ → ℤ → Listed → Type 0
IsValued of value l = l.made ≡ Some (made.Sample of value)

-- the histogram of a name is the first record with this name on the list
abbrev pub IsFirst : List Listed → List ℕ → Spec → ℕ → Type 0
IsFirst records name spec at = IsFirstThat (IsRecordNamed name) records (record { reference = at; made = Some (made.Histogram name spec) })

-- the sample of a value is the first record of this value on the list
abbrev pub IsFirstOf : List Listed → ℕ → ℤ → ℕ → Type 0
IsFirstOf records of value at = IsFirstThat (IsValued of value) records (record { reference = at; made = Some (made.Sample of value) })

-- ---- words that are seen

-- a word of a block that never changes again
abbrev pub IsFixedIn : Body → ℕ → Type 0
IsFixedIn (histogram r) i =
    (i ≡ BLOCK_TYPE) ⊎ ((HISTOGRAM_KIND ≤ i) × (i < HISTOGRAM_COUNTS)) ⊎ ((i ≡ HISTOGRAM_COUNTS) × (r.counts ≢ 0))
    ⊎ ((HISTOGRAM_NAME_LENGTH ≤ i) × (i < length (words_of (histogram r))))
IsFixedIn (sample s) i =
    (i ≡ BLOCK_TYPE) ⊎ (i ≡ SAMPLE_HISTOGRAM) ⊎ (i ≡ SAMPLE_VALUE) ⊎ ((SAMPLE_LEAST ≤ i) × (i < length (words_of (sample s))))
IsFixedIn (other size tag next payload) i = (i ≡ BLOCK_TYPE) ⊎ ((BLOCK_HEADER ≤ i) × (i < BLOCK_HEADER + length payload))
IsFixedIn _ i = ⊥

-- a word of a block that only rises: a count, a mark or a redundant count
abbrev pub IsCounterIn : Body → ℕ → Type 0
IsCounterIn (histogram r) i = (i ≡ HISTOGRAM_SINGLE_MARK) ⊎ (i ≡ HISTOGRAM_REDUNDANT)
IsCounterIn (counts c) i = (BLOCK_HEADER ≤ i) × (i < BLOCK_HEADER + (length c.units + length c.marks))
IsCounterIn (sample s) i = (i ≡ SAMPLE_COUNT) ⊎ (i ≡ SAMPLE_MARK)
IsCounterIn _ i = ⊥

-- a word that was seen is a fixed word of a block, and so it stays
abbrev pub WasFixed : List Piece → Sighting → Type 0
WasFixed pieces s =
    (at i : ℕ) × (body : Body) × Stands pieces at none body × (s.at ≡ at + i) × IsFixedIn body i
    × (slice_index (words_of body) i ≡ s.word)

-- a counter that was seen is by now at least as large
abbrev pub WasCounter : List Piece → Sighting → Type 0
WasCounter pieces s =
    (at i : ℕ) × (body : Body) × Stands pieces at none body × (s.at ≡ at + i) × IsCounterIn body i
    × (s.word ≤ slice_index (words_of body) i)

-- counts that were seen are in use: the single word of their record is off
abbrev pub WasInUse : List Piece → Sighting → Type 0
WasInUse pieces s =
    (at i : ℕ) (c : Counts) → HasCounts pieces at c → s.at ≡ at + i → BLOCK_HEADER ≤ i → i < BLOCK_HEADER + (length c.units + length c.marks)
    → (r : Record) × HasRecord pieces c.of r × (is_off r.single ≡ true)

-- a single word that was seen has a form, and leads to the present one
abbrev pub WasSingle : ℕ → List Piece → Sighting → Type 0
WasSingle version pieces s =
    (at : ℕ) × (r : Record) × HasRecord pieces at r × (s.at ≡ at + HISTOGRAM_SINGLE) × (single_of version (buckets_of r.spec) s.word ≢ None)
    × Leads version (buckets_of r.spec) s.word r.single

-- one place on the list is no later than another
abbrev pub IsNoLater : List ℕ → ℕ → ℕ → Type 0
IsNoLater chain seen present =
    (i j : ℕ) × (i ≤ j) × (j ≤ length chain) × (slice_index (stops chain) i ≡ seen) × (slice_index (stops chain) j ≡ present)

-- a place that has at least this many records of the list up to it, itself among them
abbrev pub IsReachedAt : List ℕ → ℕ → ℕ → Type 0
IsReachedAt chain least at = (k : ℕ) × (least ≤ k) × (k ≤ length chain) × (slice_index (stops chain) k ≡ at)

-- some places are no later than another
abbrev pub AreNoLater : List ℕ → List ℕ → ℕ → Type 0
AreNoLater chain seen present = All (λ place. IsNoLater chain place present) seen

-- a sample whose count or mark was seen has been visited
abbrev pub WasMet : List Piece → Seen → Sighting → Type 0
WasMet pieces seen s =
    (at : ℕ) (x : Sample) → HasSample pieces at x → (s.at ≡ at + SAMPLE_COUNT) ⊎ (s.at ≡ at + SAMPLE_MARK)
    → Contains seen.chain at × SawSample seen x.of x.value at

-- what an actor knows of a histogram is right: the record is the first of the name, and has the same spec
abbrev pub IsRightlyKnown : Anatomy → Known → Type 0
IsRightlyKnown anatomy known = record {
  first_spec : Spec;
  first : IsFirst anatomy.records known.name first_spec known.reference;
  same : SameSpec first_spec known.spec;
}

-- all that an actor has seen
abbrev pub Sees : Anatomy → List ℕ → Seen → Type 0
Sees anatomy cursors seen = record {
  free : Behind seen.free (free_of anatomy);
  walked : IsPrefix seen.chain (order_of anatomy);
  tails : AreNoLater (order_of anatomy) seen.tails anatomy.tail;
  singles : All (WasSingle anatomy.version anatomy.pieces) seen.singles;
  counters : All (WasCounter anatomy.pieces) seen.counts;
  in_use : All (WasInUse anatomy.pieces) seen.counts;
  met : All (WasMet anatomy.pieces seen) seen.counts;
  fixed : All (WasFixed anatomy.pieces) seen.words;
  shared : All (λ s. (s.at < length cursors) × IsNoLater (order_of anatomy) s.word (slice_index cursors s.at)) seen.cursors;
}
