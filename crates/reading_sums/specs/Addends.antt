-- Sums that are added up in turn. Each is an addend, whose images come after those of the addends before it.
use Rattle.std.specs.Prelude.{◌≡◌, ℕ, ◌+◌, List, [], ◌∷◌, ◌++◌, map, length, is_some, sum_by}
use Rattle.bucket_ranges.specs.Reading.{Reading}
use Rattle.reading_sums.specs.declared.notes.Notes.{Notes}
use Rattle.reading_sums.specs.declared.sums.Sums.{Sums}
use Rattle.reading_sums.specs.Notes.{AreNotesOfBoth, one_if}
use Rattle.reading_sums.specs.Sums.{parts_of_one}
use Rattle.reading_sums.specs.Totals.{Part, SameTotals, raised_part}
use Rattle.reading_sums.specs.Views.{parts_of}

-- what is added to a sum: the parts of its histograms, of images that have the numbers from 0 on, and its notes
pub record Addend : Type 0 where
  pub parts : List Part
  pub notes : Notes

-- the notes of one image
abbrev pub notes_of_one : Reading → Notes
notes_of_one reading = record {
  images = 1;
  full = one_if reading.full;
  corrupt = one_if reading.corrupt;
  stopped = one_if (is_some reading.stopped);
  bad = length reading.bad;
}

-- an image that reads as this reading, as an addend
abbrev pub addend_of_reading : Reading → Addend
addend_of_reading reading = record { parts = parts_of_one (0, reading); notes = notes_of_one reading }

-- a sum gained one numbered reading
pub record AddsNumbered (numbered : ℕ × Reading) (before after : Sums) : Type 0 where
  pub hists : SameTotals (parts_of after) (parts_of before ++ parts_of_one numbered)
  pub notes : AreNotesOfBoth before.notes (notes_of_one numbered.1) after.notes

-- a sum, as an addend
abbrev pub addend_of : Sums → Addend
addend_of sums = record { parts = parts_of sums; notes = sums.notes }

-- nothing, as an addend
abbrev pub no_addend : Addend
no_addend = record { parts = []; notes = record { images = 0; full = 0; corrupt = 0; stopped = 0; bad = 0 } }

-- a sum gained one addend at its end: the addend's numbers are raised by how many images there were
pub record AddsAddend (addend : Addend) (before after : Sums) : Type 0 where
  pub hists : SameTotals (parts_of after) (parts_of before ++ map (raised_part before.notes.images) addend.parts)
  pub notes : AreNotesOfBoth before.notes addend.notes after.notes

-- the parts of addends in their order; the images of the first are numbered from `first` on
abbrev pub parts_in_turn : ℕ → List Addend → List Part
parts_in_turn first [] = []
parts_in_turn first (addend ∷ rest) = map (raised_part first) addend.parts ++ parts_in_turn (first + addend.notes.images) rest

-- a sum is that of addends in their order: its totals are those of all their parts, and so are its notes
pub record IsSumInTurn (addends : List Addend) (sums : Sums) : Type 0 where
  pub hists : SameTotals (parts_of sums) (parts_in_turn 0 addends)
  pub images : sums.notes.images ≡ sum_by (λ (addend : Addend). addend.notes.images) addends
  pub full : sums.notes.full ≡ sum_by (λ (addend : Addend). addend.notes.full) addends
  pub corrupt : sums.notes.corrupt ≡ sum_by (λ (addend : Addend). addend.notes.corrupt) addends
  pub stopped : sums.notes.stopped ≡ sum_by (λ (addend : Addend). addend.notes.stopped) addends
  pub bad : sums.notes.bad ≡ sum_by (λ (addend : Addend). addend.notes.bad) addends
