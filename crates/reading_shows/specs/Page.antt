-- The web page of an image, or of a sum of images: its overview, and the list, the numbers and the sentences of its texts for people, as
-- one self-contained HTML document.
use Rattle.std.specs.Prelude.{◌≡◌, Bool, true, ℕ, List, [], ◌∷◌, ◌++◌, codes}
use Rattle.std.specs.Fmt.{decimal}
use Rattle.std.specs.List.{flat_map, enumerate_from}
use Rattle.segment_image.specs.declared.head.SegmentHead.{SegmentHead}
use Rattle.bucket_ranges.specs.Reading.{Histogram, Reading}
use Rattle.reading_texts.specs.Rows.{rows_of}
use Rattle.reading_texts.specs.Exporting.{joined}
use Rattle.reading_overviews.specs.declared.sum_overview.SumHead.{SumHead}
use Rattle.reading_overviews.specs.Overview.{overview}
use Rattle.reading_overviews.specs.SumOverview.{sum_overview}
use Rattle.text_styles.specs.declared.drawn.Drawn.{Drawn}
use Rattle.reading_shows.specs.declared.source.Source.{Source}
use Rattle.reading_shows.specs.Escapes.{escaped}
use Rattle.reading_shows.specs.Most.{shown_rows, left_out_rows}
use Rattle.reading_shows.specs.PageLists.{page_list, page_overview, source_text}
use Rattle.reading_shows.specs.PageRows.{rows_in_page}
use Rattle.reading_shows.specs.Sheet.{page_head}
use Rattle.reading_shows.specs.Showing.{AreShown, number_lines, frame_of, shows_all_of, left_out_line, ending}

-- the beginning of a table: the heads of its columns
abbrev pub columns : List ℕ
columns = codes "<table>\n<tr><th>values</th><th></th><th>units</th><th>percent</th><th>up to here</th></tr>\n"

-- the table of a histogram's rows, and how many others there are
abbrev pub table : Bool → Histogram → List ℕ
table all hist =
    columns
    ++ rows_in_page (frame_of hist) (shown_rows (shows_all_of all hist) (rows_of hist))
    ++ codes "</table>\n<p>"
    ++ left_out_line true (left_out_rows (shows_all_of all hist) (rows_of hist))
    ++ codes "</p>\n</section>\n"

-- the name of a numbered histogram, to which the list has a link
abbrev pub title : ℕ × Histogram → List ℕ
title numbered =
    joined (codes "<section id=\"h" ∷ decimal numbered.0 ∷ codes "\">\n<h2>" ∷ escaped numbered.1.name ∷ codes "</h2>\n<p>" ∷ [])

-- a numbered histogram: its name, its numbers and its table
abbrev pub section : Bool → ℕ × Histogram → List ℕ
section all numbered =
    title numbered
    ++ number_lines true 0 numbered.1
    ++ codes "</p>\n"
    ++ table all numbered.1

-- the page of a reading from this source, whose overview has these lines, and of which these histograms are shown in this order, numbered
-- from 0
abbrev pub page_in_order : Source → Bool → List Histogram → List ℕ → Reading → List ℕ
page_in_order source all hists lines reading =
    page_head (source_text source)
    ++ page_overview lines
    ++ page_list hists
    ++ codes "<main>\n"
    ++ flat_map (section all) (enumerate_from 0 hists)
    ++ codes "</main>\n<footer>"
    ++ ending hists reading
    ++ codes "</footer>\n</body>\n</html>\n"

-- the page of a reading whose overview has these lines; with all values of sparse histograms, or those that rank first
abbrev pub IsPageWith : Source → Drawn → List ℕ → Reading → List ℕ → Type 0
IsPageWith source drawn lines reading page =
    (hists : List Histogram) × AreShown drawn.choice hists reading × (page ≡ page_in_order source drawn.style.shows_all hists lines reading)

-- the page of an image; with all values of sparse histograms, or those that rank first
abbrev pub IsPageOf : Source → Drawn → SegmentHead → Reading → List ℕ → Type 0
IsPageOf source drawn head reading page = IsPageWith source drawn (overview true head reading) reading page

-- the page of a sum of images: that of its reading, with the overview of a sum
abbrev pub IsPageOfSum : Source → Drawn → SumHead → Reading → List ℕ → Type 0
IsPageOfSum source drawn head reading page = IsPageWith source drawn (sum_overview true head reading.hists) reading page
