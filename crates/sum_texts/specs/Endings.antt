-- The report of a sum: that of its reading, followed by lines of what it leaves out.
use Rattle.std.specs.Prelude.{◌≡◌, Bool, ◌==◌, ◌&&◌, nat_le, nat_lt, if◌then◌else◌, ℕ, List, [], ◌∷◌, ◌++◌, length, None, codes}
use Rattle.std.specs.Fmt.{decimal}
use Rattle.std.specs.List.{flat_map, AllZip}
use Rattle.bucket_ranges.specs.Reading.{Reading}
use Rattle.reading_texts.specs.Text.{line, IsTextOf}
use Rattle.reading_sums.specs.declared.shown.OtherSpec.{OtherSpec}
use Rattle.reading_sums.specs.declared.sums.Sums.{Sums}
use Rattle.reading_sums.specs.Shown.{shown_parts, other_parts, IsOtherOf}
use Rattle.reading_sums.specs.Views.{parts_of}

-- ---- the lines after a report

-- the line of a name under a spec that the reading of a sum leaves out: how many images have it, and its units
abbrev pub other_line : OtherSpec → List ℕ
other_line other = line (codes "!other" ∷ other.name.items ∷ decimal other.images ∷ decimal other.units ∷ [])

-- the line of how many inputs were left out, if any were
abbrev pub inputs_line : ℕ → List ℕ
inputs_line left = if left == 0 then [] else line (codes "!left" ∷ decimal left ∷ [])

-- a report says all: it is of one image at most, no histogram is left out of it, and no other input was left out
abbrev pub is_all : ℕ → List OtherSpec → ℕ → Bool
is_all images others left = nat_le images 1 && (length others == 0 && left == 0)

-- the lines after the report of a sum of this many images: none if it says all
abbrev pub ending_text : ℕ → List OtherSpec → ℕ → List ℕ
ending_text images others left =
    if is_all images others left then []
    else line (codes "!images" ∷ decimal images ∷ []) ++ flat_map other_line others ++ inputs_line left

-- ---- the report of a sum

-- a reading is that of a sum: it has the histograms that the sum shows, is full or corrupt if an image is, and has no fault
pub record IsOfSum (sums : Sums) (reading : Reading) : Type 0 where
  pub hists : reading.hists ≡ shown_parts (parts_of sums)
  pub full : reading.full ≡ nat_lt 0 sums.notes.full
  pub corrupt : reading.corrupt ≡ nat_lt 0 sums.notes.corrupt
  pub bad : reading.bad ≡ []
  pub stopped : reading.stopped ≡ None

-- the text is the report of the reading of the sum, followed by the lines of what that leaves out
pub record IsSumReport (sums : Sums) (left : ℕ) (text : List ℕ) : Type 0 where
  pub reading : Reading
  pub others : List OtherSpec
  pub report : List ℕ
  pub of_sum : IsOfSum sums reading
  pub told : AllZip IsOtherOf (other_parts (parts_of sums)) others
  pub written : IsTextOf reading report
  pub behind : text ≡ report ++ ending_text sums.notes.images others left
