-- The rows of a histogram in a page.
use Rattle.std.specs.Prelude.{true, if◌then◌else◌, ℕ, List, [], ◌∷◌, length, codes}
use Rattle.std.specs.Fmt.{decimal}
use Rattle.std.specs.List.{flat_map, range_with_len}
use Rattle.reading_texts.specs.declared.rows.HistRow.{HistRow}
use Rattle.reading_texts.specs.Exporting.{joined}
use Rattle.reading_overviews.specs.Numbers.{number}
use Rattle.reading_shows.specs.declared.frame.Frame.{Frame}
use Rattle.reading_shows.specs.Shares.{percent}
use Rattle.reading_shows.specs.Bars.{marks_of}
use Rattle.reading_shows.specs.RowNames.{range_text, has_line}
use Rattle.reading_shows.specs.Showing.{row_or_none, begins_gap}

-- the bar of a number of units, given the most that a bar shows: a rectangle, in thousandths of the width of the longest one
abbrev pub drawn_bar : ℕ → ℕ → List ℕ
drawn_bar units most =
    joined (
    codes "<svg viewBox=\"0 0 1000 1\" preserveAspectRatio=\"none\" aria-hidden=\"true\"><rect width=\""
    ∷ decimal (marks_of units most 1000) ∷ codes "\" height=\"1\"/></svg>" ∷ [])

-- the row of a bucket or of a value: its values, its bar, its units, their percent, and the percent up to it
abbrev pub unit_row : Frame → HistRow → List ℕ
unit_row frame row =
    joined (
    codes "<tr><td>" ∷ range_text frame.row_names row ∷ codes "</td><td>" ∷ drawn_bar row.units frame.most ∷ codes "</td><td>"
    ∷ number true row.units ∷ codes "</td><td>" ∷ percent (codes "&lt;0.1%") row.units frame.total ∷ codes "</td><td>" ∷ percent (codes "&lt;0.1%") row.up_to frame.total
    ∷ codes "</td></tr>\n" ∷ [])

-- row `i`; neighbouring rows that have no row in the page share the row of a gap
abbrev pub row_in_page : Frame → List HistRow → ℕ → List ℕ
row_in_page frame rows i =
    if has_line frame.row_names (row_or_none rows i) then unit_row frame (row_or_none rows i)
    else (if begins_gap frame.row_names rows i then codes "<tr><td>...</td></tr>\n" else [])

-- the rows of a table
abbrev pub rows_in_page : Frame → List HistRow → List ℕ
rows_in_page frame rows = flat_map (row_in_page frame rows) (range_with_len 0 (length rows))
