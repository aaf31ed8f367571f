-- What the invariant says of the words alone. It mentions no actor, so it can also hold of words that are those of no state, such as words
-- that were loaded at different moments and put together.
use Rattle.std.specs.Prelude.{◌≡◌, ◌≢◌, ◌⊎◌, false, ℕ, ◌<◌, ◌≤◌, List, ◌++◌, Some, None}
use Rattle.std.specs.Int.{w64, cast_signed}
use Rattle.std.specs.List.{Contains, All}
use mathlib.Core.Option.{some, none}
use lib.ListN.{get_elem?}
use Rattle.segment_image.specs.Shape.{Dimensions}
use Rattle.alloc_core.specs.Layout.{IsShown}
use Rattle.bucket_ranges.specs.Spec.{buckets_of}
use Rattle.bucket_ranges.specs.Single.{packed_bucket}
use Rattle.bucket_ranges.specs.Reading.{record_single, total_of, mark_of, is_bad_sum}
use Rattle.list_core.specs.Chain.{IsStop, IsLinked}
use Rattle.segment_invariant.specs.Body.{Record, Sample, Body, Piece, Listed, Anatomy, layout_of, order_of}
use Rattle.segment_invariant.specs.Seen.{Stands, HasRecord, HasSample, IsFirst, IsFirstOf}
use Rattle.segment_invariant.specs.Invariant.{StandsAs, IsOnList, ClaimedRight, RecordsAreKept, ArePassedOver}

-- ---- what lies where

-- The nexts lead along the records in their order; these are the records of the opening, and after them others, each of which was given
-- something; each record holds what it was given, and there are no others; the tail is on the list.
pub record ListIsLaid (words : List ℕ) (opened anatomy : Anatomy) : Type 0 where
  pub linked : IsLinked words (order_of anatomy)
  pub longer : (more : List Listed) × (anatomy.records ≡ opened.records ++ more) × ((l : Listed) → Contains more l → l.made ≢ None)
  pub standing : All (λ l. StandsAs anatomy.pieces l l.made) anatomy.records
  pub alone : (at : ℕ) (body : Body) → Stands anatomy.pieces at none body → IsOnList anatomy.records at body
  pub tail : IsStop (order_of anatomy) anatomy.tail

-- The words are those of valid blocks: there is an anatomy of them, of the opening's version, whose claimed blocks say their sizes, with
-- its list, its records and those that are passed over.
pub record AreLaid (shape : Dimensions) (opened : Anatomy) (words : List ℕ) : Type 0 where
  pub anatomy : Anatomy
  pub shown : IsShown shape words (layout_of anatomy)
  pub same : anatomy.version ≡ opened.version
  pub versions : (anatomy.version ≡ 1) ⊎ (anatomy.version ≡ 2)
  pub blocks : (k : ℕ) (piece : Piece) → get_elem? anatomy.pieces k ≡ some piece → ClaimedRight piece
  pub list : ListIsLaid words opened anatomy
  pub records : RecordsAreKept shape.page anatomy
  pub passed_over : ArePassedOver shape.page opened anatomy.pieces

-- ---- how large the numbers are

-- what a mark may be: no more than its total, or in version 1 for the packed bucket up to 65,535, since its units may be in transit
abbrev pub IsMarkBounded : ℕ → List ℕ → ℕ → ℕ → Type 0
IsMarkBounded version words at i =
    (mark_of version words at i ≤ total_of version words at i)
    ⊎ ((version ≡ 1) × (packed_bucket (record_single version words at) ≡ Some i) × (mark_of version words at i ≤ 65535))

-- this holds of each bucket of a record, and no total is above what a segment may count
pub record AreBounded (version : ℕ) (words : List ℕ) (at n : ℕ) : Type 0 where
  pub total : (i : ℕ) → i < n → total_of version words at i ≤ 4294967295
  pub mark : (i : ℕ) → i < n → IsMarkBounded version words at i

-- The numbers are those that a segment can reach: the totals and marks of the first record of each name, and the units of the first sample
-- of each value; and the sum of a record and its sum mark are near 0 and near each other.
pub record AreInBounds (words : List ℕ) (anatomy : Anatomy) : Type 0 where
  pub buckets : (at : ℕ) (r : Record) → HasRecord anatomy.pieces at r → IsFirst anatomy.records r.name r.spec at
      → AreBounded anatomy.version words at (buckets_of r.spec)
  pub samples : (at : ℕ) (s : Sample) → HasSample anatomy.pieces at s → IsFirstOf anatomy.records s.of s.value at → s.units ≤ 4294967295
  pub sums : (at : ℕ) (r : Record) → HasRecord anatomy.pieces at r → is_bad_sum (cast_signed w64 r.sum) (cast_signed w64 r.sum_mark) ≡ false

-- ---- both

-- what the invariant says of the words alone: what lies where, and how large the numbers are
pub record WordsAreKept (shape : Dimensions) (opened : Anatomy) (words : List ℕ) : Type 0 where
  pub laid : AreLaid shape opened words
  pub bounds : AreInBounds words laid.anatomy
