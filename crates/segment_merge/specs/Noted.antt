-- What is noted of a segment, and a reading of it whose marks are that.
use Rattle.std.specs.Prelude.{◌≡◌, ◌≢◌, ◌⊎◌, Bool, true, false, if◌then◌else◌, ℕ, ◌<◌, ◌≤◌, ℤ, pos, ◌+ℤ◌, List, [], IsPermutation, fold, length, map, sum_by, slice_index_or, Ok}
use mathlib.Core.Option.{some}
use lib.ListN.{get_elem?}
use Rattle.std.specs.Cmp.Lexicographic.{slice_cmp}
use Rattle.std.specs.List.{All, Contains}
use Rattle.std.specs.List.Sorted.{IsSortedByKey}
use Rattle.std.specs.Ordering.{nat_cmp}
use Rattle.std.specs.Str.{bytes_eq}
use Rattle.std.specs.declared.cmp.Ordering.TheVariants.{Less, Greater}
use Rattle.segment_image.specs.Head.{header_of}
use Rattle.segment_image.specs.declared.head.SegmentHead.{SegmentHead}
use Rattle.bucket_ranges.specs.Reading.{Histogram, IsReading, Reading}
use Rattle.bucket_ranges.specs.Spec.{SameSpec}
use Rattle.bucket_ranges.specs.Tally.{units_of}
use Rattle.image_reader.specs.declared.reading.HistReading.{HistReading}
use Rattle.segment_promises.specs.Reads.{mark_read, units_read}
use Rattle.segment_merge.specs.Marks.{AreAscending, HasFewer, ReachesItsMark}
use Rattle.segment_merge.specs.Remainder.{marked}

-- ---- what histograms have together of a name

-- the units of a key
abbrev pub units_among : List Histogram → List ℕ → ℤ → ℕ
units_among hists name key = sum_by (λ h. if bytes_eq h.name name then units_read h key else 0) hists

-- the marks of a key
abbrev pub marks_among : List Histogram → List ℕ → ℤ → ℕ
marks_among hists name key = sum_by (λ h. if bytes_eq h.name name then mark_read h key else 0) hists

-- the sums
abbrev pub sum_among : List Histogram → List ℕ → ℤ
sum_among hists name = fold ◌+ℤ◌ (pos 0) (map (λ h. if bytes_eq h.name name then h.sum else pos 0) hists)

-- the sum marks
abbrev pub sum_mark_among : List Histogram → List ℕ → ℤ
sum_mark_among hists name = fold ◌+ℤ◌ (pos 0) (map (λ h. if bytes_eq h.name name then h.sum_mark else pos 0) hists)

-- the units, of all names and keys
abbrev pub units_in_all : List Histogram → ℕ
units_in_all hists = sum_by (λ h. units_of h.counts) hists

-- ---- marks that are what is noted

-- a histogram but for its marks
abbrev pub unmarked : Histogram → Histogram
unmarked h = record h { marks = []; sum_mark = pos 0 }

-- of no key is the mark greater than the units
abbrev pub HasRisen : Histogram → Type 0
HasRisen h = All ReachesItsMark (marked h.counts h.marks)

-- A histogram has the name and the spec of one that is noted, and its marks are what is noted of that.
pub record IsMarkedBy (note h : Histogram) : Type 0 where
  pub name : h.name ≡ note.name
  pub spec : SameSpec note.spec h.spec
  pub units : (key : ℤ) → mark_read h key ≡ units_read note key
  pub sum : h.sum_mark ≡ note.sum

-- one of them is
abbrev pub IsNoteOf : List Histogram → Histogram → Type 0
IsNoteOf hists note = (h : Histogram) × Contains hists h × IsMarkedBy note h

-- Each histogram that is noted is there, with the same spec, no key of it has fewer units than are noted, and its marks are what is noted.
-- Beside that nothing is marked: of each name and key the marks together are what is noted, and so are the sum marks.
pub record AreMarkedBy (noted hists : List Histogram) : Type 0 where
  pub each : All (IsNoteOf hists) noted
  pub risen : All HasRisen hists
  pub units : (name : List ℕ) (key : ℤ) → marks_among hists name key ≡ units_among noted name key
  pub sums : (name : List ℕ) → sum_mark_among hists name ≡ sum_among noted name

-- ---- what is less than is noted

-- A reading has what is noted: of each histogram that is noted one of its name, with the same spec, and no key of it has fewer units.
abbrev pub HasAll : List Histogram → List Histogram → Type 0
HasAll noted hists = (note : Histogram) → Contains noted note
    → (h : Histogram) × Contains hists h × (h.name ≡ note.name) × SameSpec note.spec h.spec × ((key : ℤ) → units_read note key ≤ units_read h key)

-- What is noted is in each reading that has all of one in which it is: so of readings that rise none fell.
abbrev pub StaysWithin : Type 0
StaysWithin = (noted first second : List Histogram) → HasAll noted first → HasAll first second → HasAll noted second

-- it fell: it has not all that is noted
abbrev pub HasFallenBelow : List Histogram → List Histogram → Type 0
HasFallenBelow noted hists = ¬ (HasAll noted hists)

-- as readings of words are: each name is there once, and the keys of each histogram ascend
pub record IsReadingInOrder (hists : List Histogram) : Type 0 where
  pub once : (i j : ℕ) (g h : Histogram) → i ≢ j → get_elem? hists i ≡ some g → get_elem? hists j ≡ some h → g.name ≢ h.name
  pub keys : All (λ h. AreAscending h.counts) hists

-- what words with a valid header read as is
abbrev pub WordsAreInOrder : Type 0
WordsAreInOrder = (words : List ℕ) (head : SegmentHead) (reading : Reading) → header_of words ≡ Ok head → IsReading words head reading
    → IsReadingInOrder reading.hists

-- a name is before another one, as bytes compare
abbrev pub IsNameBefore : List ℕ → List ℕ → Type 0
IsNameBefore a b = slice_cmp nat_cmp a b ≡ Less

-- histograms by their names
abbrev pub AreByName : List HistReading → Type 0
AreByName hists = IsSortedByKey (λ (hist : HistReading). hist.name.items) (slice_cmp nat_cmp) hists

-- as notes of such readings are: the names ascend, and so do the keys of each histogram
pub record AreNotesInOrder (hists : List Histogram) : Type 0 where
  pub names : (i j : ℕ) (g h : Histogram) → i < j → get_elem? hists i ≡ some g → get_elem? hists j ≡ some h → IsNameBefore g.name h.name
  pub keys : All (λ h. AreAscending h.counts) hists

-- The histograms of a reading, in some order, with what is noted as their marks. Those of a reading that is in order are in the order of
-- their names.
pub record HaveNotes (noted hists marked_hists : List Histogram) : Type 0 where
  pub same : IsPermutation (map unmarked hists) (map unmarked marked_hists)
  pub by : AreMarkedBy noted marked_hists
  pub order : IsReadingInOrder hists → AreNotesInOrder marked_hists

-- ---- one histogram

-- nothing is noted of it
pub record HasNoNote (h : Histogram) : Type 0 where
  pub units : (key : ℤ) → mark_read h key ≡ 0
  pub sum : h.sum_mark ≡ pos 0

-- it is marked by the note at a place, or there is none for it and its name is before the one that is noted there
abbrev pub IsMarkedAt : List Histogram → ℕ → Histogram → Bool → Type 0
IsMarkedAt noted next h true = (next < length noted) × IsMarkedBy (slice_index_or noted next h) h
IsMarkedAt noted next h false = HasNoNote h × (next < length noted → IsNameBefore h.name (slice_index_or noted next h).name)

-- it has less than is noted of its name: another spec, or fewer units of a key
abbrev pub IsLessThan : Histogram → Histogram → Type 0
IsLessThan note h = (¬ (SameSpec note.spec h.spec)) ⊎ (AreAscending note.counts → AreAscending h.counts → HasFewer note.counts h.counts)

-- it has less than is noted at a place, or its name is behind that
abbrev pub IsFallenAt : List Histogram → ℕ → Histogram → Type 0
IsFallenAt noted next h =
    (next < length noted)
    × ((slice_cmp nat_cmp h.name (slice_index_or noted next h).name ≡ Greater)
    ⊎ ((h.name ≡ (slice_index_or noted next h).name) × IsLessThan (slice_index_or noted next h) h))
