-- The image of a new segment into which histograms were merged.
use Rattle.std.specs.Prelude.{◌≡◌, ◌↔◌, false, ℕ, ℤ, pos, List, Ok}
use mathlib.Core.Option.{some}
use lib.ListN.{get_elem?}
use Rattle.std.specs.List.{Contains, flat_map}
use Rattle.segment_image.specs.Head.{header_of, head_of}
use Rattle.segment_image.specs.declared.head.SegmentHead.{SegmentHead}
use Rattle.bucket_ranges.specs.Spec.{SameSpec}
use Rattle.bucket_ranges.specs.Reading.{Histogram, Reading, IsReading}
use Rattle.segment_machine.specs.Entry.{tally_noted, tally_sum, tally_units}
use Rattle.segment_promises.specs.Reads.{HasNoFault, mark_read, units_read}
use Rattle.segment_merge.specs.Merge.{entries_left}

-- a histogram has the units, the sum and the redundant count of what deltas have not taken of those among these with its name
pub record HasRests (hists : List Histogram) (h : Histogram) : Type 0 where
  pub units : (key : ℤ) → units_read h key ≡ tally_units (flat_map entries_left hists) h.name key
  pub sum : h.sum ≡ tally_sum (flat_map entries_left hists) h.name
  pub redundant : h.redundant ≡ tally_noted (flat_map entries_left hists) h.name

-- no delta has taken anything of a histogram: the mark of each key is 0, and so is the sum mark
pub record HasNoMarks (h : Histogram) : Type 0 where
  pub marks : (key : ℤ) → mark_read h key ≡ 0
  pub sum_mark : h.sum_mark ≡ pos 0

-- A reading is that of histograms which are merged. No record is bad and the list does not stop. It has exactly the names of these, each
-- once, with a spec that is the same as that of each histogram of the name. It has what deltas have not taken of them, and no marks. No
-- flag is set.
pub record IsMergeOf (hists : List Histogram) (reading : Reading) : Type 0 where
  pub lawful : HasNoFault reading
  pub names : (name : List ℕ) → ((h : Histogram) × Contains reading.hists h × (h.name ≡ name)) ↔ ((h : Histogram) × Contains hists h × (h.name ≡ name))
  pub once : (i j : ℕ) (g h : Histogram) → get_elem? reading.hists i ≡ some g → get_elem? reading.hists j ≡ some h → g.name ≡ h.name → i ≡ j
  pub specs : (g h : Histogram) → Contains reading.hists g → Contains hists h → h.name ≡ g.name → SameSpec g.spec h.spec
  pub rests : (h : Histogram) → Contains reading.hists h → HasRests hists h
  pub unmarked : (h : Histogram) → Contains reading.hists h → HasNoMarks h
  pub corrupt : reading.corrupt ≡ false
  pub full : reading.full ≡ false

-- Words are an image of the size, the page and the id of one that is merged first, of version 2, and what they read as is the merge of
-- these histograms.
pub record IsMergedImage (first : SegmentHead) (hists : List Histogram) (words : List ℕ) : Type 0 where
  pub header : header_of words ≡ Ok (head_of words)
  pub shape : (head_of words).shape ≡ first.shape
  pub version : (head_of words).version ≡ 2
  pub id : (head_of words).id ≡ first.id
  pub reading : Reading
  pub reading_is : IsReading words (head_of words) reading
  pub merge : IsMergeOf hists reading
