-- Which rows of a histogram have lines: if it is sparse, those with the most units.
use Rattle.std.specs.Prelude.{Bool, not, ◌==◌, ◌&&◌, ◌||◌, nat_lt, int_lt, if◌then◌else◌, List, []}
use Rattle.std.specs.List.{count_by, filter}
use Rattle.reading_texts.specs.declared.rows.HistRow.{HistRow}

-- whether another row ranks before a row: it has more units, or as many and a lower value
abbrev pub is_ahead : HistRow → HistRow → Bool
is_ahead row other = nat_lt row.units other.units || ((other.units == row.units) && int_lt other.low row.low)

-- whether a row is one of the first 20 of these rows by rank: fewer than 20 rank before it
abbrev pub is_among_first : List HistRow → HistRow → Bool
is_among_first rows row = nat_lt (count_by (is_ahead row) rows) 20

-- the rows that have lines, in the order of all rows: all of them, or the first 20 by rank
abbrev pub shown_rows : Bool → List HistRow → List HistRow
shown_rows all rows = if all then rows else filter (is_among_first rows) rows

-- the other rows
abbrev pub left_out_rows : Bool → List HistRow → List HistRow
left_out_rows all rows = if all then [] else filter (λ row. not (is_among_first rows row)) rows
