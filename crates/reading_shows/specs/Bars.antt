-- The bar of a bucket. Its length is proportional to the height of the bucket, which is its units or their logarithm; the highest bucket
-- has the longest bar.
use Rattle.std.specs.Prelude.{Bool, ℕ, ◌+◌, ◌-◌, ◌*◌, ◌/◌, ◌%◌, if◌then◌else◌, ◌==◌, min, List, [], ◌∷◌, ◌++◌, codes}
use Rattle.reading_shows.specs.Columns.{times}
use Rattle.reading_shows.specs.Shares.{share_of}

-- how many of `marks` marks the bar of a number of units, or of their logarithm, has, rounded up: none for 0; else at least one, and all of
-- them if no bucket has more
abbrev pub marks_of : ℕ → ℕ → ℕ → ℕ
marks_of units most marks = min (share_of units most marks (most - 1)) marks

-- a cell of which 1 to 8 eighths are filled, in UTF-8
abbrev pub block : ℕ → List ℕ
block eighths = 226 ∷ (150 ∷ ((144 - eighths) ∷ []))

-- the part of a cell that comes after the whole ones
abbrev pub part_of_cell : ℕ → List ℕ
part_of_cell eighths = if eighths == 0 then [] else block eighths

-- a bar of blocks, and blanks up to its width
abbrev pub block_bar : ℕ → ℕ → List ℕ
block_bar width eighths =
    times (eighths / 8) (block 8) ++ part_of_cell (eighths % 8) ++ times (width - (eighths + 7) / 8) (codes " ")

-- a bar of plain signs, and blanks up to its width
abbrev pub sign_bar : ℕ → ℕ → List ℕ
sign_bar width signs = times signs (codes "#") ++ times (width - signs) (codes " ")

-- the bar of a number of units, of plain signs or of blocks, given its width in cells and the most units that a bar shows
abbrev pub bar : Bool → ℕ → ℕ → ℕ → List ℕ
bar is_ascii width units most =
    if is_ascii then sign_bar width (marks_of units most width)
    else block_bar width (marks_of units most (width * 8))
