-- What three copies of a run give when they are put together as a look.
use Rattle.std.specs.Prelude.{◌≡◌, ◌≢◌, ◌⊎◌, ℕ, ◌+◌, ◌<◌, ◌≤◌, List, [], ◌∷◌, length, slice_index, Ok}
use Rattle.std.specs.List.{All, Contains}
use mathlib.Core.Option.{none}
use Rattle.segment_image.specs.Blocks.{field_at}
use Rattle.segment_image.specs.Head.{head_of}
use Rattle.segment_image.specs.Shape.{Dimensions}
use Rattle.segment_image.specs.Words.{word_at}
use Rattle.segment_image.specs.declared.head.SegmentHead.{SegmentHead}
use Rattle.segment_image.specs.declared.layout.TheConstants.{VERSION_FROZEN, BLOCK_NEXT, FLAGS_WORD, FREE_WORD, TAIL_WORD, HISTOGRAM_COUNTS, HISTOGRAM_REDUNDANT, SAMPLE_COUNT, SAMPLE_MARK}
use Rattle.list_core.specs.Chain.{IsChain}
use Rattle.list_core.specs.Walk.{IsPrefix}
use Rattle.segment_looks.specs.Looks.{head_of_copies, followed_records, counts_reference}
use Rattle.segment_machine.specs.State.{State}
use Rattle.segment_invariant.specs.Body.{Record, Counts, Sample, Body, histogram, counts, sample, other, words_of, Piece, Anatomy, order_of}
use Rattle.segment_invariant.specs.Seen.{Stands, HasRecord, HasCounts, HasStill, IsCounterIn}
use Rattle.segment_invariant.specs.Invariant.{Invariant}
use Rattle.look_promises.specs.Runs.{RunsThrough, Moments, AreLoaded}

-- ---- the header

-- what the header of a state says
abbrev pub head_at : State → SegmentHead
head_at state = head_of state.words

-- What the header of the third copy says: the shape, version 2 and the id of the opening; the free pointer, the tail and the flags, each
-- of the moment at which its word was loaded.
abbrev pub head_loaded : Dimensions → Anatomy → (ℕ → State) → (ℕ → ℕ) → SegmentHead
head_loaded shape opened at moments = record {
  shape = shape;
  version = VERSION_FROZEN;
  id = opened.id;
  free = (head_at (at (moments FREE_WORD))).free;
  tail = (head_at (at (moments TAIL_WORD))).tail;
  corrupt = (head_at (at (moments FLAGS_WORD))).corrupt;
  full = (head_at (at (moments FLAGS_WORD))).full;
}

-- three copies have no fault, and this header
abbrev pub LooksHaveHeaders : Type 0
LooksHaveHeaders = (shape : Dimensions) (opened : Anatomy) (at : ℕ → State) (first last : ℕ) (moments : Moments) (one two three : List ℕ)
    → RunsThrough shape opened at → AreLoaded shape at first last moments one two three
    → head_of_copies one two three ≡ Ok (head_loaded shape opened at moments.three)

-- ---- the list

-- The records that a look follows are those of the list, in its order: all that were on it at the first moment, and none that was not on it
-- at the last.
pub record FollowsList (early late : State) (followed : List ℕ) : Type 0 where
  pub first : List ℕ
  pub begins : IsChain early.words (head_at early) first
  pub last : List ℕ
  pub ends : IsChain late.words (head_at late) last
  pub all : IsPrefix first followed
  pub none : IsPrefix followed last

-- the records that three copies lead to follow the list
abbrev pub LooksFollow : Type 0
LooksFollow = (shape : Dimensions) (opened : Anatomy) (at : ℕ → State) (first last : ℕ) (moments : Moments) (one two three : List ℕ)
    → RunsThrough shape opened at → AreLoaded shape at first last moments one two three
    → FollowsList (at first) (at last) (followed_records (head_loaded shape opened at moments.three) two)

-- ---- the records

-- A block is seen as another: the two have the same size, the same type, and what was given to the maker.
abbrev pub SeenAs : Body → Body → Type 0
SeenAs (histogram r) body = (q : Record) × (body ≡ histogram q) × (q ≡ record r {
  next = q.next;
  counts = q.counts;
  single = q.single;
  mark = q.mark;
  sum = q.sum;
  sum_mark = q.sum_mark;
  noted = q.noted;
})
SeenAs (sample s) body = (t : Sample) × (body ≡ sample t) × (t ≡ record s { next = t.next; units = t.units; mark = t.mark })
SeenAs (other size tag next payload) body = (n : ℕ) × (body ≡ other size tag n payload)
SeenAs _ body = ⊥

-- the words from an index on are those of a block
abbrev pub HasWords : List ℕ → ℕ → Body → Type 0
HasWords words at body = (i : ℕ) → i < length (words_of body) → word_at words (at + i) ≡ slice_index (words_of body) i

-- words have a block at this word, as which a published block is seen
abbrev pub ShowsBlock : Anatomy → List ℕ → ℕ → Type 0
ShowsBlock anatomy words at = (body seen : Body) × Stands anatomy.pieces at none body × SeenAs body seen × HasWords words at seen

-- the third copy has each record that a look follows, as it is at the last moment
abbrev pub CopiesShowBlocks : Type 0
CopiesShowBlocks = (shape : Dimensions) (opened : Anatomy) (at : ℕ → State) (first last : ℕ) (moments : Moments) (one two three : List ℕ)
    → RunsThrough shape opened at → AreLoaded shape at first last moments one two three
    → (late : Invariant shape opened (at last))
    × All (ShowsBlock late.anatomy three) (followed_records (head_loaded shape opened at moments.three) two)

-- each copy has unchanged, except for its next, a block of the opening in which nobody counts: a record that is passed over, or its counts
abbrev pub CopiesKeepOthers : Type 0
CopiesKeepOthers = (shape : Dimensions) (opened : Anatomy) (at : ℕ → State) (first last : ℕ) (moments : Moments) (one two three : List ℕ)
    → RunsThrough shape opened at → AreLoaded shape at first last moments one two three
    → (reference i size tag : ℕ) (payload : List ℕ) → HasStill opened.pieces reference size tag payload → i ≢ BLOCK_NEXT
    → i < length (words_of (other size tag 0 payload))
    → All (λ copy. field_at copy reference i ≡ slice_index (words_of (other size tag 0 payload)) i) (one ∷ two ∷ three ∷ [])

-- ---- before a record is on the list

-- the words of a block that change once it is published, except for its next
abbrev pub IsChanging : Body → ℕ → Type 0
IsChanging (histogram r) i = (HISTOGRAM_COUNTS ≤ i) × (i ≤ HISTOGRAM_REDUNDANT)
IsChanging (sample s) i = (i ≡ SAMPLE_COUNT) ⊎ (i ≡ SAMPLE_MARK)
IsChanging _ i = ⊥

-- such a word of a record is 0 as long as the record is not on the list
abbrev pub RecordsStartAtZero : Type 0
RecordsStartAtZero = (shape : Dimensions) (opened : Anatomy) (at : ℕ → State) (early last : ℕ) (chain : List ℕ) → RunsThrough shape opened at
    → early ≤ last → IsChain (at early).words (head_at (at early)) chain
    → (late : Invariant shape opened (at last))
    × ((reference i : ℕ) (body : Body) → Contains (order_of late.anatomy) reference → ¬ (Contains chain reference)
    → Stands late.anatomy.pieces reference none body → IsChanging body i → word_at (at early).words (reference + i) ≡ 0)

-- ---- the counts of a record

-- The counts reference that a look takes from a record is 0, or the one that the record has at the last moment.
abbrev pub LooksNameCounts : Type 0
LooksNameCounts = (shape : Dimensions) (opened : Anatomy) (at : ℕ → State) (first last : ℕ) (moments : Moments) (one two three : List ℕ)
    → RunsThrough shape opened at → AreLoaded shape at first last moments one two three
    → (late : Invariant shape opened (at last))
    × ((reference : ℕ) (r : Record) → Contains (followed_records (head_loaded shape opened at moments.three) two) reference
    → HasRecord late.anatomy.pieces reference r
    → (counts_reference two three reference ≡ 0) ⊎ (counts_reference two three reference ≡ r.counts))

-- ---- its counters

-- a counter of a block is at least what it was at an earlier moment, if the block was there, and at most what it is at a later one
abbrev pub IsBetween : List Piece → ℕ → ℕ → Body → ℕ → Type 0
IsBetween early reference i late word =
    ((before : Body) → Stands early reference none before → IsCounterIn before i → slice_index (words_of before) i ≤ word)
    × (word ≤ slice_index (words_of late) i)

-- The counters of each record that a look follows, as the first copy and the second have them, are between those of the first moment and
-- those of the last.
abbrev pub LooksCountBetween : Type 0
LooksCountBetween = (shape : Dimensions) (opened : Anatomy) (at : ℕ → State) (first last : ℕ) (moments : Moments) (one two three : List ℕ)
    → RunsThrough shape opened at → AreLoaded shape at first last moments one two three
    → (early : Invariant shape opened (at first)) × (late : Invariant shape opened (at last))
    × ((reference i : ℕ) (body : Body) → Contains (followed_records (head_loaded shape opened at moments.three) two) reference
    → Stands late.anatomy.pieces reference none body → IsCounterIn body i
    → IsBetween early.anatomy.pieces reference i body (field_at one reference i) × IsBetween early.anatomy.pieces reference i body (field_at two reference i))

-- ---- its counts

-- Each count and each mark of a counts block is 0 as long as its record does not name it.
abbrev pub CountsStartAtZero : Type 0
CountsStartAtZero = (shape : Dimensions) (opened : Anatomy) (at : ℕ → State) (early last : ℕ) → RunsThrough shape opened at → early ≤ last
    → (late : Invariant shape opened (at last))
    × ((reference i : ℕ) (r : Record) (c : Counts) → HasRecord late.anatomy.pieces reference r → HasCounts late.anatomy.pieces r.counts c
    → IsCounterIn (counts c) i → field_at (at early).words reference HISTOGRAM_COUNTS ≢ r.counts → field_at (at early).words r.counts i ≡ 0)

-- The counts and marks of each counts block that a record names, as the first copy and the second have them, are between those of the first
-- moment and those of the last.
abbrev pub LooksCountUnits : Type 0
LooksCountUnits = (shape : Dimensions) (opened : Anatomy) (at : ℕ → State) (first last : ℕ) (moments : Moments) (one two three : List ℕ)
    → RunsThrough shape opened at → AreLoaded shape at first last moments one two three
    → (early : Invariant shape opened (at first)) × (late : Invariant shape opened (at last))
    × ((reference i : ℕ) (r : Record) (c : Counts) → HasRecord late.anatomy.pieces reference r → HasCounts late.anatomy.pieces r.counts c
    → IsCounterIn (counts c) i
    → IsBetween early.anatomy.pieces r.counts i (counts c) (field_at one r.counts i) × IsBetween early.anatomy.pieces r.counts i (counts c) (field_at two r.counts i))
