-- How the values of a row are written.
use Rattle.std.specs.Prelude.{Bool, true, false, ◌||◌, ◌&&◌, not, ◌==◌, if◌then◌else◌, int_lt, ℕ, pos, List, [], ◌∷◌, ◌++◌, codes}
use Rattle.std.specs.Ordering.{int_eq}
use Rattle.std.specs.Fmt.{signed_decimal}
use Rattle.bucket_ranges.specs.declared.limits.TheConstants.{LAST_BOUNDARY}
use Rattle.bucket_ranges.specs.declared.spec.Spec.{Spec}
use Rattle.bucket_ranges.specs.declared.spec.Spec.TheVariants.{Linear, Boolean, Custom, Sparse}
use Rattle.reading_texts.specs.declared.rows.HistRow.{HistRow}
use Rattle.reading_texts.specs.Exporting.{joined}
use Rattle.reading_shows.specs.declared.row_names.RowNames.{RowNames}
use Rattle.reading_shows.specs.declared.row_names.RowNames.TheVariants.{Value, Truth, Range}

-- how the rows of a histogram are named
abbrev pub row_names_of : Spec → RowNames
row_names_of (Linear min max n) = Range
row_names_of Boolean = Truth
row_names_of (Custom values) = Range
row_names_of Sparse = Value

-- whether the rows are named false and true
abbrev pub is_truth : RowNames → Bool
is_truth Value = false
is_truth Truth = true
is_truth Range = false

-- the values of a bucket: from the least to below what comes after it, and of the last bucket from the least on
abbrev pub bucket_text : HistRow → List ℕ
bucket_text row =
    if int_eq row.high (pos LAST_BOUNDARY) then codes ">= " ++ signed_decimal row.low
    else joined (codes "[" ∷ signed_decimal row.low ∷ codes ", " ∷ signed_decimal row.high ∷ codes ")" ∷ [])

-- the values of a bucket of a boolean histogram: 0 is false, and 1 is true
abbrev pub truth_text : HistRow → List ℕ
truth_text row =
    if int_eq row.low (pos 0) then codes "false"
    else (if int_eq row.low (pos 1) then codes "true" else bucket_text row)

-- the values of a row
abbrev pub range_text : RowNames → HistRow → List ℕ
range_text Value row = signed_decimal row.low
range_text Truth row = truth_text row
range_text Range row = bucket_text row

-- whether a row has a line of its own: if it has units, or is false or true
abbrev pub has_line : RowNames → HistRow → Bool
has_line row_names row = not (row.units == 0) || (is_truth row_names && int_lt row.low (pos 2))
