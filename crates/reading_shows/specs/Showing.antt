-- The text of a reading for people.
use Rattle.std.specs.Prelude.{◌≡◌, Bool, ◌==◌, ◌||◌, ◌&&◌, not, nat_le, if◌then◌else◌, ℕ, ◌-◌, ◌*◌, max, ℤ, pos, ◌-ℤ◌, List, [], ◌∷◌, ◌++◌, length, get_or, sum_by, codes, Option, Some, None, IsPermutation, IsSortedByKey}
use Rattle.std.specs.Cmp.Lexicographic.{slice_cmp}
use Rattle.std.specs.Fmt.{decimal}
use Rattle.std.specs.List.{flat_map, find, filter, fold, list_any, range_with_len}
use Rattle.std.specs.Ordering.{int_eq, nat_cmp}
use Rattle.segment_image.specs.declared.fault.ImageFault.{ImageFault}
use Rattle.bucket_ranges.specs.declared.reading.RecordFault.{RecordFault}
use Rattle.bucket_ranges.specs.Reading.{Histogram, Reading}
use Rattle.reading_texts.specs.declared.rows.HistRow.{HistRow}
use Rattle.reading_texts.specs.Rows.{units_of, rows_of}
use Rattle.reading_texts.specs.Text.{kind_word, record_fault_word, image_fault_word}
use Rattle.reading_texts.specs.Exporting.{joined, is_sparse}
use Rattle.reading_overviews.specs.Numbers.{number, signed}
use Rattle.text_styles.specs.declared.style.Style.{Style}
use Rattle.text_styles.specs.declared.choice.Choice.{Choice}
use Rattle.text_styles.specs.declared.drawn.Drawn.{Drawn}
use Rattle.reading_shows.specs.declared.frame.Frame.{Frame}
use Rattle.reading_shows.specs.declared.frame.LineColumns.{LineColumns}
use Rattle.reading_shows.specs.declared.row_names.RowNames.{RowNames}
use Rattle.reading_shows.specs.Choice.{is_chosen}
use Rattle.reading_shows.specs.Most.{shown_rows, left_out_rows}
use Rattle.reading_shows.specs.RowNames.{row_names_of, is_truth, range_text, has_line}
use Rattle.reading_shows.specs.Columns.{at_right, times}
use Rattle.reading_shows.specs.Shares.{mean, percent}
use Rattle.reading_shows.specs.Since.{Since, untold, told_since, counts_before, came_to_rows, came_to_all, came_text}
use Rattle.reading_shows.specs.Bars.{bar}
use Rattle.reading_shows.specs.Heights.{height_of}

-- ---- the head of a histogram

-- the line of the kind, the units and what came to them, the sum and the mean
abbrev pub number_line : Bool → List ℕ → ℤ → ℕ → ℕ → List ℕ
number_line is_human kind sum units came =
    joined (
    codes "  " ∷ kind ∷ codes ", units " ∷ number is_human units ∷ came_text is_human came ∷ codes ", sum "
    ∷ signed is_human sum ∷ codes ", mean " ∷ mean is_human sum units ∷ codes "\n" ∷ [])

-- whether the units up to a row are at least this many thousandths of all
abbrev pub reaches : ℕ → ℕ → HistRow → Bool
reaches total thousandths row = nat_le (thousandths * total) (1000 * row.up_to)

-- the row that holds a quantile: the first up to which there are at least this many thousandths of the units; none if there are no units
abbrev pub quantile : ℕ → List HistRow → ℕ → Option HistRow
quantile total rows thousandths = if total == 0 then None else find (reaches total thousandths) rows

-- whether a row has units
abbrev pub has_units : HistRow → Bool
has_units row = not (row.units == 0)

-- the values of a row, or the word none
abbrev pub range_of_found : RowNames → Option HistRow → List ℕ
range_of_found row_names None = codes "none"
range_of_found row_names (Some row) = range_text row_names row

-- the line of the quantiles
abbrev pub quantile_line : RowNames → ℕ → List HistRow → List ℕ
quantile_line row_names total rows =
    joined (
    codes "  50%: " ∷ range_of_found row_names (quantile total rows 500)
    ∷ codes ", 90%: " ∷ range_of_found row_names (quantile total rows 900)
    ∷ codes ", 99%: " ∷ range_of_found row_names (quantile total rows 990)
    ∷ codes ", 99.9%: " ∷ range_of_found row_names (quantile total rows 999) ∷ codes "\n" ∷ [])

-- the line of the first row that has units, and of the last, up to which there are all units
abbrev pub ends_line : RowNames → ℕ → List HistRow → List ℕ
ends_line row_names total rows =
    joined (
    codes "  least: " ∷ range_of_found row_names (find has_units rows)
    ∷ codes ", greatest: " ∷ range_of_found row_names (quantile total rows 1000) ∷ codes "\n" ∷ [])

-- both lines; a boolean histogram has neither
abbrev pub rank_lines : RowNames → ℕ → List HistRow → List ℕ
rank_lines row_names total rows =
    if is_truth row_names then [] else (quantile_line row_names total rows ++ ends_line row_names total rows)

-- the units of a histogram that no delta has taken
abbrev pub left_of : Histogram → ℕ
left_of hist = sum_by (λ i. (get_or hist.counts i (pos 0, 0)).1 - get_or hist.marks i 0) (range_with_len 0 (length hist.counts))

-- whether a delta has taken something: a mark is not 0
abbrev pub was_taken : Histogram → Bool
was_taken hist = list_any (λ mark. not (mark == 0)) hist.marks || not (int_eq hist.sum_mark (pos 0))

-- the line that says that no delta has taken these units and this sum
abbrev pub left_text : Bool → ℕ → ℤ → List ℕ
left_text is_human units sum =
    joined (
    codes "  not yet taken by deltas: units " ∷ number is_human units ∷ codes ", sum " ∷ signed is_human sum ∷ codes "\n" ∷ [])

-- the line of what no delta has taken
abbrev pub left_line : Bool → Histogram → List ℕ
left_line is_human hist = left_text is_human (left_of hist) (hist.sum -ℤ hist.sum_mark)

-- the same line, if a delta has taken something
abbrev pub taken_line : Bool → Histogram → List ℕ
taken_line is_human hist = if was_taken hist then left_line is_human hist else []

-- the lines of all these numbers, given how many units came
abbrev pub number_lines : Bool → ℕ → Histogram → List ℕ
number_lines is_human came hist =
    number_line is_human (kind_word hist.spec) hist.sum (units_of hist) came
    ++ rank_lines (row_names_of hist.spec) (units_of hist) (rows_of hist)
    ++ taken_line is_human hist

-- ---- the lines of its rows

-- the most units that a row has
abbrev pub most_of : List HistRow → ℕ
most_of rows = fold (λ most row. max most row.units) 0 rows

-- row `i`, or an empty row if there is none
abbrev pub row_or_none : List HistRow → ℕ → HistRow
row_or_none rows i = get_or rows i (record { low = pos 0; high = pos 0; units = 0; up_to = 0 })

-- whether row `i`, which has no line, begins a gap: it is the first of all, or the one before has units; a boolean histogram
-- has no gap
abbrev pub begins_gap : RowNames → List HistRow → ℕ → Bool
begins_gap row_names rows i = not (is_truth row_names) && ((i == 0) || has_units (row_or_none rows (i - 1)))

-- a width at which the values of a row fit too, if it has a line
abbrev pub widened : RowNames → ℕ → HistRow → ℕ
widened row_names width row = if has_line row_names row then max width (length (range_text row_names row)) else width

-- how wide the column of the units that came is, with a blank before them: as wide as they or their head need; 0 if they are not shown
abbrev pub came_width : Bool → Bool → List ℕ → ℕ
came_width is_human is_told cames = if is_told then max 4 (length (came_text is_human (fold max 0 cames))) else 0

-- how wide the columns of a histogram are: values and units as wide as they or their heads need, and the bars fill the line
abbrev pub columns_of : Style → Frame → Bool → List ℕ → List HistRow → LineColumns
columns_of style frame is_told cames rows =
    let values = fold (widened frame.row_names) 6 rows in
    let units = max 5 (length (number style.is_human frame.most)) in
    let came = came_width style.is_human is_told cames in
    record { values = values; bars = style.width - values - units - came - 20; units = units; came = came }

-- the head of the column of the units that came, if there is this column
abbrev pub came_head : ℕ → List ℕ
came_head width = if width == 0 then [] else at_right width (codes " new")

-- the heads of the columns
abbrev pub head_line : LineColumns → List ℕ
head_line columns =
    joined (
    codes "  " ∷ at_right columns.values (codes "values") ∷ codes "  " ∷ times columns.bars (codes " ")
    ∷ at_right columns.units (codes "units") ∷ came_head columns.came ∷ codes " percent   up to\n" ∷ [])

-- the line of a row: its values, its bar, its units, how many of them came, their percent, and the percent up to it
abbrev pub unit_line : Style → LineColumns → Frame → HistRow → ℕ → List ℕ
unit_line style columns frame row came =
    joined (
    codes "  " ∷ at_right columns.values (range_text frame.row_names row) ∷ codes " "
    ∷ bar style.is_ascii columns.bars (height_of style.is_log row.units) (height_of style.is_log frame.most) ∷ codes " " ∷ at_right columns.units (number style.is_human row.units)
    ∷ at_right columns.came (came_text style.is_human came)
    ∷ at_right 8 (percent (codes "<0.1%") row.units frame.total)
    ∷ at_right 8 (percent (codes "<0.1%") row.up_to frame.total) ∷ codes "\n" ∷ [])

-- the line of a gap
abbrev pub gap_line : LineColumns → List ℕ
gap_line columns = joined (codes "  " ∷ at_right columns.values (codes "...") ∷ codes "\n" ∷ [])

-- the line of row `i`; neighbouring rows without lines share the line of a gap
abbrev pub line_at : Style → LineColumns → Frame → List ℕ → List HistRow → ℕ → List ℕ
line_at style columns frame cames rows i =
    if has_line frame.row_names (row_or_none rows i) then unit_line style columns frame (row_or_none rows i) (get_or cames i 0)
    else (if begins_gap frame.row_names rows i then gap_line columns else [])

-- the lines of rows in these columns
abbrev pub lines_in : Style → LineColumns → Frame → List ℕ → List HistRow → List ℕ
lines_in style columns frame cames rows =
    head_line columns ++ flat_map (line_at style columns frame cames rows) (range_with_len 0 (length rows))

-- the lines of rows, with the units that came to each if the text says them; if there are no rows, there are no heads either
abbrev pub row_lines : Style → Frame → Bool → List ℕ → List HistRow → List ℕ
row_lines style frame is_told cames rows =
    if length rows == 0 then [] else lines_in style (columns_of style frame is_told cames rows) frame cames rows

-- the plural ending of a word for `n` things
abbrev pub plural : ℕ → List ℕ
plural n = if n == 1 then codes "" else codes "s"

-- the line that says how many rows are left out, and how many units they have
abbrev pub left_out_text : Bool → ℕ → ℕ → List ℕ
left_out_text is_human rows units =
    joined (
    codes "  " ∷ number is_human rows ∷ codes " more value" ∷ plural rows ∷ codes ", with " ∷ number is_human units ∷ codes " unit"
    ∷ plural units ∷ codes " in all (--all shows them)\n" ∷ [])

-- the line of the rows that are left out, if there are any: how many there are, and their units together
abbrev pub left_out_line : Bool → List HistRow → List ℕ
left_out_line is_human rows =
    if length rows == 0 then [] else left_out_text is_human (length rows) (sum_by (λ row. row.units) rows)

-- the line of these units, which were counted a second time
abbrev pub redundant_text : Bool → ℕ → List ℕ
redundant_text is_human units = joined (codes "  counted once more: " ∷ number is_human units ∷ codes "\n" ∷ [])

-- the line of the redundant count, if it is asked for and differs from the units
abbrev pub redundant_line : Style → Histogram → List ℕ
redundant_line style hist =
    if style.shows_redundant && not (hist.redundant == units_of hist) then redundant_text style.is_human hist.redundant else []

-- the line that marks a histogram as counted in while it was looked at, if that is asked for and its redundant count differs from its units
abbrev pub meanwhile_line : Style → Histogram → List ℕ
meanwhile_line style hist =
    if style.marks_meanwhile && not (hist.redundant == units_of hist) then codes "  counted meanwhile\n" else []

-- what the lines of a histogram have in common
abbrev pub frame_of : Histogram → Frame
frame_of hist = record {
  row_names = row_names_of hist.spec;
  total = units_of hist;
  most = most_of (rows_of hist);
}

-- whether all rows of a histogram may have lines: not if it is sparse, unless all values are asked for
abbrev pub shows_all_of : Bool → Histogram → Bool
shows_all_of all hist = all || not (is_sparse hist.spec)

-- the lines of those rows of a histogram that have lines, given the counts that it had before
abbrev pub shown_lines : Style → Bool → List (ℤ × ℕ) → Histogram → List HistRow → List ℕ
shown_lines style is_told before hist rows = row_lines style (frame_of hist) is_told (came_to_rows is_told before rows) rows

-- the text of a histogram that had these counts before, with what came since if the text says that
abbrev pub text_behind : Style → Bool → List (ℤ × ℕ) → Histogram → List ℕ
text_behind style is_told before hist =
    hist.name
    ++ codes "\n"
    ++ meanwhile_line style hist
    ++ number_lines style.is_human (came_to_all is_told before (rows_of hist)) hist
    ++ shown_lines style is_told before hist (shown_rows (shows_all_of style.shows_all hist) (rows_of hist))
    ++ left_out_line style.is_human (left_out_rows (shows_all_of style.shows_all hist) (rows_of hist))
    ++ redundant_line style hist
    ++ codes "\n"

-- the text of a histogram, with what came to it since an earlier reading if the text says that
abbrev pub histogram_text : Style → Since → Histogram → List ℕ
histogram_text style since hist = text_behind style since.is_told (counts_before since.hists hist) hist

-- ---- the end

-- the sentence of a flag, if it is set
abbrev pub flag_sentence : Bool → List ℕ → List ℕ
flag_sentence flag sentence = if flag then sentence else []

-- the sentence of a bad record
abbrev pub bad_sentence : ℕ × RecordFault → List ℕ
bad_sentence bad = joined (codes "The record at word " ∷ decimal bad.0 ∷ codes " cannot be read: " ∷ record_fault_word bad.1 ∷ codes ".\n" ∷ [])

-- the sentence that says why the list stopped, if it did
abbrev pub stopped_sentence : Option ImageFault → List ℕ
stopped_sentence None = []
stopped_sentence (Some fault) = joined (codes "The list of records stops before its end: " ∷ image_fault_word fault ∷ codes ".\n" ∷ [])

-- the sentence that says that no histogram is shown, if none is
abbrev pub none_sentence : List Histogram → List ℕ
none_sentence [] = codes "No histogram is shown.\n"
none_sentence (hist ∷ hists) = []

-- all sentences that follow these histograms of a reading
abbrev pub ending : List Histogram → Reading → List ℕ
ending hists reading =
    none_sentence hists
    ++ flag_sentence reading.corrupt (codes "The segment is marked as corrupt.\n")
    ++ flag_sentence reading.full (codes "The segment was full: an allocation did not fit.\n")
    ++ flat_map bad_sentence reading.bad
    ++ stopped_sentence reading.stopped

-- ---- the text

-- the chosen histograms of a reading, ascending by the bytes of their names
pub record AreShown (choice : Choice) (hists : List Histogram) (reading : Reading) : Type 0 where
  pub same : IsPermutation hists (filter (is_chosen choice) reading.hists)
  pub ascending : IsSortedByKey (λ hist. hist.name) (slice_cmp nat_cmp) hists

-- the text of a reading, of which these histograms are shown in this order
abbrev pub text_in_order : Style → Since → List Histogram → Reading → List ℕ
text_in_order style since hists reading = flat_map (histogram_text style since) hists ++ ending hists reading

-- the text of a reading, with what came since an earlier one if the text says that
abbrev pub IsShowTold : Drawn → Since → Reading → List ℕ → Type 0
IsShowTold drawn since reading text =
    (hists : List Histogram) × AreShown drawn.choice hists reading × (text ≡ text_in_order drawn.style since hists reading)

-- the text of a reading
abbrev pub IsShowOf : Drawn → Reading → List ℕ → Type 0
IsShowOf drawn reading text = IsShowTold drawn untold reading text

-- the text of a reading, with what came to its histograms since an earlier one
abbrev pub IsShowSince : Drawn → Reading → Reading → List ℕ → Type 0
IsShowSince drawn earlier reading text = IsShowTold drawn (told_since earlier) reading text
