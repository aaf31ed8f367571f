-- Lines of an export whose labels are text already, such as histogram="A".
use Rattle.std.specs.Prelude.{ℕ, ℤ, pos, ◌-ℤ◌, List, [], ◌∷◌, ◌++◌, codes}
use Rattle.std.specs.Fmt.{decimal, signed_decimal}
use Rattle.bucket_ranges.specs.Reading.{Histogram}
use Rattle.reading_texts.specs.declared.rows.HistRow.{HistRow}
use Rattle.reading_texts.specs.Rows.{units_of}
use Rattle.reading_texts.specs.Labels.{quoted}
use Rattle.reading_texts.specs.Exporting.{joined}

-- how the line of a row ends: a number as the value of its last label, and units
abbrev pub row_end : ℤ → ℕ → List (List ℕ)
row_end number units = quoted (signed_decimal number) ∷ codes "\"} " ∷ decimal units ∷ codes "\n" ∷ []

-- the line of a row, from its start
abbrev pub row_line : List ℕ → ℤ → ℕ → List ℕ
row_line start number units = joined (start ∷ row_end number units)

-- the row of a bucket, with the units up to its greatest value, and the row of a value
abbrev pub bucket_row : List ℕ → HistRow → List ℕ
bucket_row start row = row_line start (row.high -ℤ pos 1) row.up_to

abbrev pub value_row : List ℕ → HistRow → List ℕ
value_row start row = row_line start row.low row.units

-- the line of a bucket: the units up to its greatest value, which is one less than the boundary after it
abbrev pub bucket_line : List ℕ → List ℕ → HistRow → List ℕ
bucket_line name labels row =
    joined (name ∷ codes "_bucket{" ∷ labels ∷ codes ",le=\"" ∷ row_end (row.high -ℤ pos 1) row.up_to)

-- the line of a value of a sparse histogram: its units
abbrev pub value_line : List ℕ → List ℕ → HistRow → List ℕ
value_line name labels row =
    joined (name ∷ codes "{" ∷ labels ∷ codes ",value=\"" ∷ row_end row.low row.units)

-- a line of a histogram as a whole: the suffix of its metrics' name, the labels, what follows them in the braces, and the number
abbrev pub total_line : List ℕ → List ℕ → List ℕ → List ℕ → List ℕ → List ℕ
total_line name suffix labels end number =
    joined (name ∷ suffix ∷ codes "{" ∷ labels ∷ end ∷ codes "} " ∷ number ∷ codes "\n" ∷ [])

-- the lines of all units, of the sum and of the count, which is the number of all units again
abbrev pub total_lines : List ℕ → List ℕ → Histogram → List ℕ
total_lines name labels hist =
    total_line name (codes "_bucket") labels (codes ",le=\"+Inf\"") (decimal (units_of hist))
    ++ total_line name (codes "_sum") labels (codes "") (signed_decimal hist.sum)
    ++ total_line name (codes "_count") labels (codes "") (decimal (units_of hist))
