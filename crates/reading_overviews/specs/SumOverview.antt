-- The overview of a sum of images: what its inputs say apart from their histograms, and the histograms that it has.
use Rattle.std.specs.Prelude.{Bool, false, ◌==◌, if◌then◌else◌, ℕ, List, [], ◌∷◌, ◌++◌, codes}
use Rattle.bucket_ranges.specs.Reading.{Histogram}
use Rattle.reading_texts.specs.Exporting.{joined}
use Rattle.reading_overviews.specs.declared.sum_overview.SumHead.{SumHead}
use Rattle.reading_overviews.specs.Numbers.{number}
use Rattle.reading_overviews.specs.Overview.{kinds_line}
use Rattle.reading_overviews.specs.Spent.{spent_of}

-- the line of a number: what it counts, and the number
abbrev pub number_line : Bool → List ℕ → ℕ → List ℕ
number_line is_human label n = joined (label ∷ number is_human n ∷ codes "\n" ∷ [])

-- the same, if it is not 0
abbrev pub some_line : Bool → List ℕ → ℕ → List ℕ
some_line is_human label n = if n == 0 then [] else number_line is_human label n

-- the lines of the inputs: how many images there are, and, each if it is not 0, how many inputs are left out, and how many images are full,
-- or corrupt
abbrev pub input_lines : Bool → SumHead → List ℕ
input_lines is_human head =
    number_line is_human (codes "images       ") head.images
    ++ some_line is_human (codes "left out     ") head.left
    ++ some_line is_human (codes "full         ") head.full
    ++ some_line is_human (codes "corrupt      ") head.corrupt

-- the lines of what the numbers of the sum leave out: in how many images the list stops, how many records are bad, and how many specs are
-- not shown because another one with the same name is
abbrev pub lacking_lines : Bool → SumHead → List ℕ
lacking_lines is_human head =
    some_line is_human (codes "stopped      ") head.stopped
    ++ some_line is_human (codes "bad records  ") head.bad
    ++ some_line is_human (codes "other specs  ") head.others

-- all lines; the last gives the units of all histograms, or 2^64 - 1 if there are more
abbrev pub sum_overview : Bool → SumHead → List Histogram → List ℕ
sum_overview is_human head hists =
    input_lines is_human head
    ++ lacking_lines is_human head
    ++ kinds_line is_human hists
    ++ number_line is_human (codes "units        ") (spent_of false hists)
