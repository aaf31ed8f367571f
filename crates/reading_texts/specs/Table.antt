-- The rows of a reading as a table, for engines that read CSV: a head line, and then only lines of five fields.
use Rattle.std.specs.Prelude.{◌≡◌, ℕ, List, [], ◌∷◌, ◌++◌, codes}
use Rattle.std.specs.List.{flat_map}
use Rattle.bucket_ranges.specs.Reading.{Histogram, Reading}
use Rattle.reading_texts.specs.Rows.{rows_of, AreSortedByName}
use Rattle.reading_texts.specs.Text.{line, bucket_text}

-- the line of the columns
abbrev pub table_head : List ℕ
table_head = line (codes "name" ∷ codes "kind" ∷ codes "low" ∷ codes "high" ∷ codes "count" ∷ [])

-- the rows of a histogram: for each bucket that has units, its line in the report
abbrev pub table_rows : Histogram → List ℕ
table_rows hist = flat_map (bucket_text hist) (rows_of hist)

-- the table of histograms that are given in the order of the report
abbrev pub table_in_order : List Histogram → List ℕ
table_in_order hists = table_head ++ flat_map table_rows hists

-- the table of a reading
abbrev pub IsTableOf : Reading → List ℕ → Type 0
IsTableOf reading text = (hists : List Histogram) × AreSortedByName hists reading × (text ≡ table_in_order hists)
