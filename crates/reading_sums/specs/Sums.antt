-- The sum of a list of readings, each with a number.
use Rattle.std.specs.Prelude.{◌≡◌, ℕ, ◌+◌, List, [], ◌∷◌, ◌++◌, length, map, is_some, sum_by}
use Rattle.std.specs.List.{flat_map}
use Rattle.bucket_ranges.specs.Reading.{Reading}
use Rattle.reading_sums.specs.declared.sums.Sums.{Sums}
use Rattle.reading_sums.specs.declared.notes.Notes.{Notes}
use Rattle.reading_sums.specs.Notes.{AreNotesOfBoth, one_if}
use Rattle.reading_sums.specs.Totals.{Part, SameTotals, part_from}
use Rattle.reading_sums.specs.Views.{parts_of}

-- the histograms of a numbered reading, as parts
abbrev pub parts_of_one : ℕ × Reading → List Part
parts_of_one numbered = map (part_from numbered.0) numbered.1.hists

-- the histograms of all numbered readings, as parts
abbrev pub parts_in : List (ℕ × Reading) → List Part
parts_in readings = flat_map parts_of_one readings

-- notes of a list of numbered readings: how many there are, how many are full, corrupt or stop, and their bad records
pub record AreNotesIn (readings : List (ℕ × Reading)) (notes : Notes) : Type 0 where
  pub images : notes.images ≡ length readings
  pub full : notes.full ≡ sum_by (λ numbered. one_if numbered.1.full) readings
  pub corrupt : notes.corrupt ≡ sum_by (λ numbered. one_if numbered.1.corrupt) readings
  pub stopped : notes.stopped ≡ sum_by (λ numbered. one_if (is_some numbered.1.stopped)) readings
  pub bad : notes.bad ≡ sum_by (λ numbered. length numbered.1.bad) readings

-- A sum is that of a list of numbered readings: for each name and spec it has the totals of all their histograms of that name and spec, and
-- its notes are theirs.
pub record IsSumOver (readings : List (ℕ × Reading)) (sums : Sums) : Type 0 where
  pub hists : SameTotals (parts_of sums) (parts_in readings)
  pub notes : AreNotesIn readings sums.notes

-- two sums are the same: they have the same totals and the same notes
pub record HaveSameSum (a b : Sums) : Type 0 where
  pub hists : SameTotals (parts_of a) (parts_of b)
  pub notes : a.notes ≡ b.notes

-- a sum has what two others have together
pub record IsSumOfBoth (a b both : Sums) : Type 0 where
  pub hists : SameTotals (parts_of both) (parts_of a ++ parts_of b)
  pub notes : AreNotesOfBoth a.notes b.notes both.notes

-- a reading with its number raised
abbrev pub raised : ℕ → ℕ × Reading → ℕ × Reading
raised by numbered = (numbered.0 + by, numbered.1)

-- readings in their order, numbered from `first` on
abbrev pub numbered_from : ℕ → List Reading → List (ℕ × Reading)
numbered_from first [] = []
numbered_from first (reading ∷ rest) = (first, reading) ∷ numbered_from (first + 1) rest

-- a sum is that of readings in their order, numbered from 0 on
abbrev pub IsSumInOrder : List Reading → Sums → Type 0
IsSumInOrder readings sums = IsSumOver (numbered_from 0 readings) sums
