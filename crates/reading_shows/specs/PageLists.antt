-- What a page begins with: where its image comes from, the overview, and the list of its histograms.
use Rattle.std.specs.Prelude.{true, nat_lt, if◌then◌else◌, ℕ, List, [], ◌∷◌, ◌++◌, codes}
use Rattle.std.specs.Fmt.{decimal}
use Rattle.std.specs.List.{flat_map, enumerate_from}
use Rattle.bucket_ranges.specs.Reading.{Histogram}
use Rattle.reading_texts.specs.Exporting.{joined}
use Rattle.reading_overviews.specs.Numbers.{number}
use Rattle.reading_shows.specs.declared.source.Source.{Source}
use Rattle.reading_shows.specs.declared.source.Source.TheVariants.{Input, File, Several}
use Rattle.reading_shows.specs.Escapes.{escaped, escaped_byte}
use Rattle.reading_shows.specs.Listing.{ListLine, line_of}

-- how a page writes a byte of a path, which is UTF-8 already
abbrev pub path_byte : ℕ → List ℕ
path_byte byte = if nat_lt 127 byte then byte ∷ [] else escaped_byte byte

-- a path as a page writes it
abbrev pub path_text : List ℕ → List ℕ
path_text path = flat_map path_byte path

-- where an image, or a sum, comes from, as a page writes it
abbrev pub source_text : Source → List ℕ
source_text Input = codes "standard input"
source_text (File path) = path_text path.now
source_text (Several first more) = path_text first.now ++ codes " and " ++ number true more ++ codes " more"

-- an overview with these lines, as a page writes it
abbrev pub page_overview : List ℕ → List ℕ
page_overview lines = codes "<header>\n<p>" ++ lines ++ codes "</p>\n</header>\n"

-- the row of a numbered histogram in the list: its name, as a link to it, and its numbers
abbrev pub list_row : ℕ → ListLine → List ℕ
list_row number line =
    joined (
    codes "<tr><td><a href=\"#h" ∷ decimal number ∷ codes "\">" ∷ escaped line.name ∷ codes "</a></td><td>" ∷ line.kind
    ∷ codes "</td><td>" ∷ line.units ∷ codes "</td><td>" ∷ line.mean ∷ codes "</td><td>" ∷ line.median
    ∷ codes "</td><td>" ∷ line.high ∷ codes "</td><td>" ∷ line.greatest ∷ codes "</td></tr>\n" ∷ [])

-- the same row, from the histogram itself
abbrev pub row_of_numbered : ℕ × Histogram → List ℕ
row_of_numbered numbered = list_row numbered.0 (line_of true numbered.1)

-- the list of histograms, numbered from 0
abbrev pub page_list : List Histogram → List ℕ
page_list hists =
    codes "<nav>\n<table>\n<tr><th>name</th><th>kind</th><th>units</th><th>mean</th><th>50%</th><th>99%</th><th>greatest</th></tr>\n"
    ++ flat_map row_of_numbered (enumerate_from 0 hists)
    ++ codes "</table>\n</nav>\n"
