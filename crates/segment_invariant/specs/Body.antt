-- What each block of a segment is, and how the words of a segment are made of blocks. This is more than the words show, since it says of
-- each word what it means.
use Rattle.std.specs.Prelude.{◌≡◌, Bool, true, false, ℕ, ◌+◌, ◌-◌, ◌*◌, ℤ, List, [], ◌∷◌, ◌++◌, map, length, replicate, slice_index}
use Rattle.std.specs.Int.{w64, cast_unsigned}
use Rattle.std.specs.List.{filter}
use Rattle.std.specs.Prelude as std
use mathlib.Core.Option.{Option, none}
use Rattle.bucket_ranges.specs.Spec.{spec_fields, spec_ranges}
use Rattle.bucket_ranges.specs.declared.spec.Spec.{Spec}
use Rattle.alloc_core.specs.Layout as layout
use Rattle.segment_image.specs.declared.layout.TheConstants.{BLOCK_HEADER, CLAIMED_COOKIE, HEADER_WORDS, QUEUE, QUEUE_COOKIE, QUEUE_SIZE, TYPE_COUNTS, TYPE_HISTOGRAM, TYPE_PURGED, TYPE_SAMPLE}
use Rattle.segment_machine.specs.declared.actor.Claim.{Claim}
use Rattle.segment_machine.specs.declared.actor.Made.{Made}
use Rattle.segment_machine.specs.declared.actor.Own.{Own}
use Rattle.segment_machine.specs.declared.actor.Published.{Published}

-- ---- what a block is

-- the published record of a histogram: what was given to its maker, then the words that change, then the words of its name and what follows
-- the name and the ranges
pub record Record : Type 0 where
  pub name : List ℕ
  pub spec : Spec
  pub size : ℕ
  pub next : ℕ
  pub counts : ℕ
  pub single : ℕ
  pub mark : ℕ
  pub sum : ℕ
  pub sum_mark : ℕ
  pub noted : ℕ
  pub letters : List ℕ
  pub rest : List ℕ

-- a counts block that a record names: that record's reference, name and spec, then a count and a mark for each bucket, and what follows
-- them
pub record Counts : Type 0 where
  pub of : ℕ
  pub name : List ℕ
  pub spec : Spec
  pub size : ℕ
  pub next : ℕ
  pub units : List ℕ
  pub marks : List ℕ
  pub rest : List ℕ

-- a published sparse sample: its histogram's reference and name, its value, then its count, its mark, and what follows them
pub record Sample : Type 0 where
  pub of : ℕ
  pub name : List ℕ
  pub value : ℤ
  pub size : ℕ
  pub next : ℕ
  pub units : ℕ
  pub mark : ℕ
  pub rest : List ℕ

-- the queue block; words that nobody has claimed, such as a block in the making, a wasted rest of a page or what lies between the blocks of
-- an adopted image; a claimed block that is still its claimer's own; a record; a counts block; a sample; and a block of which nothing
-- changes but its next, which only an adopted image can have: a published record of another type, a histogram's record that is passed over,
-- since it is not the first of its name, or the counts block that such a record names
pub data Body : Type 0 where
  queue : (next : ℕ) → Body
  plain : (words : List ℕ) → Body
  held : (block : Own) → Body
  histogram : (record_of : Record) → Body
  counts : (block : Counts) → Body
  sample : (record_of : Sample) → Body
  other : (size tag next : ℕ) (payload : List ℕ) → Body

-- ---- its words

-- the words of a block that an actor has claimed and not yet linked: zeros after what it has stored
abbrev pub own_words : Own → List ℕ
own_words own =
    own.size ∷ CLAIMED_COOKIE ∷ own.tag ∷ own.next ∷ (own.payload ++ replicate (own.size - BLOCK_HEADER - length own.payload) 0)

-- a number of a spec: its kind, minimum, maximum or number of buckets
abbrev pub spec_field : Spec → ℕ → ℕ
spec_field spec i = slice_index (spec_fields spec) i

-- the words of a histogram's record
abbrev pub record_words : Record → List ℕ
record_words r =
    r.size ∷ CLAIMED_COOKIE ∷ TYPE_HISTOGRAM ∷ r.next ∷ spec_field r.spec 0 ∷ spec_field r.spec 1 ∷ spec_field r.spec 2 ∷ spec_field r.spec 3
    ∷ r.counts ∷ r.single ∷ r.mark ∷ r.sum ∷ r.sum_mark ∷ r.noted ∷ length r.name ∷ (r.letters ++ spec_ranges r.spec ++ r.rest)

-- the words of a block of counts
abbrev pub counts_words : Counts → List ℕ
counts_words c = c.size ∷ CLAIMED_COOKIE ∷ TYPE_COUNTS ∷ c.next ∷ (c.units ++ c.marks ++ c.rest)

-- the words of a sample
abbrev pub sample_words : Sample → List ℕ
sample_words s = s.size ∷ CLAIMED_COOKIE ∷ TYPE_SAMPLE ∷ s.next ∷ s.of ∷ cast_unsigned w64 s.value ∷ s.units ∷ s.mark ∷ s.rest

-- the words of a block
abbrev pub words_of : Body → List ℕ
words_of (queue next) = QUEUE_SIZE ∷ QUEUE_COOKIE ∷ TYPE_PURGED ∷ next ∷ []
words_of (plain words) = words
words_of (held block) = own_words block
words_of (histogram r) = record_words r
words_of (counts c) = counts_words c
words_of (sample s) = sample_words s
words_of (other size tag next payload) = size ∷ CLAIMED_COOKIE ∷ tag ∷ next ∷ payload

-- whether somebody has claimed it
abbrev pub is_claimed : Body → Bool
is_claimed (queue next) = false
is_claimed (plain words) = false
is_claimed (held block) = true
is_claimed (histogram r) = true
is_claimed (counts c) = true
is_claimed (sample s) = true
is_claimed (other size tag next payload) = true

-- ---- the segment

-- a block: where it begins, whose it is while it is in the making or somebody's own, and what it is
pub record Piece : Type 0 where
  pub at : ℕ
  pub owner : Option ℕ
  pub body : Body

-- how many words a block has
abbrev pub extent_of : Piece → ℕ
extent_of piece = length (words_of piece.body)

-- the block of a layout that a piece is
abbrev pub block_of : Piece → layout.Block
block_of piece = record { at = piece.at; owner = piece.owner; words = words_of piece.body }

-- A record on the list: where it is, and what was given to its maker. An adopted image can have records of other types, and records
-- that are passed over, of which nothing is said here.
pub record Listed : Type 0 where
  pub reference : ℕ
  pub made : std.Option Made

-- a record that an actor linked, as one on the list
abbrev pub listed : Published → Listed
listed p = record { reference = p.reference; made = std.Some p.made }

-- What a segment consists of: what its header says, its blocks in a row, how many words follow them, and the records on its list, in the
-- order of the list, each with what it was given. The other bits of the word of flags and the three words between the tail and the queue
-- block are 0 in a new segment; an adopted one keeps what it has there.
pub record Anatomy : Type 0 where
  pub version : ℕ
  pub id : ℕ
  pub corrupt : Bool
  pub full : Bool
  pub other_flags : ℕ
  pub tail : ℕ
  pub reserved : ℕ × ℕ × ℕ
  pub pieces : List Piece
  pub spare : ℕ
  pub records : List Listed

-- the layout of an anatomy
abbrev pub layout_of : Anatomy → layout.Layout
layout_of anatomy = record {
  version = anatomy.version;
  id = anatomy.id;
  corrupt = anatomy.corrupt;
  full = anatomy.full;
  other_flags = anatomy.other_flags;
  tail = anatomy.tail;
  reserved = anatomy.reserved;
  blocks = map block_of anatomy.pieces;
  spare = anatomy.spare;
}

-- where the records are, in the order of the list
abbrev pub order_of : Anatomy → List ℕ
order_of anatomy = map (λ (l : Listed). l.reference) anatomy.records

-- the free pointer
abbrev pub free_of : Anatomy → ℕ
free_of anatomy = layout.free_of (layout_of anatomy)

-- the claimed blocks, in the order of their places
abbrev pub claims_of : List Piece → List Claim
claims_of pieces =
    map (λ piece. record { at = piece.at; size = extent_of piece }) (filter (λ piece. is_claimed piece.body) pieces)

-- a segment without blocks
abbrev pub blank : (version id size : ℕ) → Anatomy
blank version id size = record {
  version = version;
  id = id;
  corrupt = false;
  full = false;
  other_flags = 0;
  tail = QUEUE;
  reserved = (0, 0, 0);
  pieces = record { at = QUEUE; owner = none; body = queue QUEUE } ∷ [];
  spare = size - HEADER_WORDS;
  records = [];
}
