-- The list of the histograms of a reading: a line for each, with its numbers in columns.
use Rattle.std.specs.Prelude.{◌≡◌, Bool, true, false, ◌==◌, nat_lt, if◌then◌else◌, ℕ, ◌-◌, max, min, List, [], ◌∷◌, ◌++◌, length, map, codes, IsPermutation, IsSortedByKey}
use Rattle.std.specs.Cmp.Lexicographic.{slice_cmp}
use Rattle.std.specs.List.{flat_map, fold}
use Rattle.std.specs.Ordering.{nat_cmp}
use Rattle.bucket_ranges.specs.Reading.{Histogram, Reading}
use Rattle.reading_texts.specs.Rows.{units_of, rows_of}
use Rattle.reading_texts.specs.Text.{kind_word}
use Rattle.reading_texts.specs.Exporting.{joined}
use Rattle.reading_overviews.specs.Numbers.{number}
use Rattle.reading_shows.specs.declared.listing.ListColumns.{ListColumns}
use Rattle.text_styles.specs.declared.drawn.Drawn.{Drawn}
use Rattle.reading_shows.specs.Columns.{at_left, at_right, times}
use Rattle.reading_shows.specs.RowNames.{row_names_of}
use Rattle.reading_shows.specs.Shares.{mean}
use Rattle.reading_shows.specs.Showing.{AreShown, ending, quantile, range_of_found}

-- what a line has: the name, the kind, the units and their mean, two quantiles, and the greatest bucket that has units
pub record ListLine : Type 0 where
  pub name : List ℕ
  pub kind : List ℕ
  pub units : List ℕ
  pub mean : List ℕ
  pub median : List ℕ
  pub high : List ℕ
  pub greatest : List ℕ
  pub rank : List ℕ

-- the values of the row of a histogram that holds a quantile
abbrev pub quantile_text : Histogram → ℕ → List ℕ
quantile_text hist thousandths = range_of_found (row_names_of hist.spec) (quantile (units_of hist) (rows_of hist) thousandths)

-- the key by which lines are sorted by units: 2^64 - 1 less the units, and then the bytes of the name
abbrev pub rank_of : Histogram → List ℕ
rank_of hist = (18446744073709551615 - units_of hist) ∷ hist.name

-- the line of a histogram
abbrev pub line_of : Bool → Histogram → ListLine
line_of is_human hist = record {
  name = hist.name;
  kind = kind_word hist.spec;
  units = number is_human (units_of hist);
  mean = mean is_human hist.sum (units_of hist);
  median = quantile_text hist 500;
  high = quantile_text hist 990;
  greatest = quantile_text hist 1000;
  rank = rank_of hist;
}

-- the heads of the columns
abbrev pub heads : ListLine
heads = record {
  name = codes "name";
  kind = codes "kind";
  units = codes "units";
  mean = codes "mean";
  median = codes "50%";
  high = codes "99%";
  greatest = codes "greatest";
  rank = [];
}

-- columns widened so that a line fits too
abbrev pub widened_by : ListColumns → ListLine → ListColumns
widened_by columns line = record {
  name = max columns.name (length line.name);
  kind = max columns.kind (length line.kind);
  units = max columns.units (length line.units);
  mean = max columns.mean (length line.mean);
  median = max columns.median (length line.median);
  high = max columns.high (length line.high);
  greatest = max columns.greatest (length line.greatest);
}

-- columns without a width
abbrev pub no_columns : ListColumns
no_columns = record { name = 0; kind = 0; units = 0; mean = 0; median = 0; high = 0; greatest = 0 }

-- how much the other columns leave for the names; before each of them there are two blanks
abbrev pub room_for_names : ℕ → ListColumns → ℕ
room_for_names width columns =
    width - columns.kind - columns.units - columns.mean - columns.median - columns.high - columns.greatest - 12

-- the columns of a list: each as wide as its widest text, but names only as wide as the line has room for, and at least as wide as their
-- head
abbrev pub fitted : ℕ → ListColumns → ListColumns
fitted width columns = record {
  name = min columns.name (max 4 (room_for_names width columns));
  kind = columns.kind;
  units = columns.units;
  mean = columns.mean;
  median = columns.median;
  high = columns.high;
  greatest = columns.greatest;
}

-- a name in its column; a longer one gets a line of its own
abbrev pub name_text : ℕ → List ℕ → List ℕ
name_text width name = if nat_lt width (length name) then name ++ codes "\n" ++ times width (codes " ") else at_left width name

-- a line in these columns
abbrev pub list_line : ListColumns → ListLine → List ℕ
list_line columns line =
    joined (
    name_text columns.name line.name ∷ codes "  " ∷ at_left columns.kind line.kind ∷ codes "  " ∷ at_right columns.units line.units
    ∷ codes "  " ∷ at_right columns.mean line.mean ∷ codes "  " ∷ at_right columns.median line.median
    ∷ codes "  " ∷ at_right columns.high line.high ∷ codes "  " ∷ at_right columns.greatest line.greatest ∷ codes "\n" ∷ [])

-- lines in columns that fit them
abbrev pub list_lines : ℕ → List ListLine → List ℕ
list_lines width lines = flat_map (list_line (fitted width (fold widened_by no_columns lines))) lines

-- the heads and the lines of histograms, or nothing if there are none
abbrev pub list_of_some : ℕ → List ListLine → List ℕ
list_of_some width lines = if length lines == 0 then [] else list_lines width (heads ∷ lines)

-- these lines, by units: those with the most come first, and among those with equal units the names ascend
pub record AreRanked (found lines : List ListLine) : Type 0 where
  pub same : IsPermutation found lines
  pub ascending : IsSortedByKey (λ line. line.rank) (slice_cmp nat_cmp) lines

-- the lines in the order that is asked for; they are given sorted by name
abbrev pub AreOrdered : Bool → List ListLine → List ListLine → Type 0
AreOrdered true found lines = AreRanked found lines
AreOrdered false found lines = lines ≡ found

-- the list of a reading: lines of the chosen histograms, and the sentences after them
pub record IsListOf (drawn : Drawn) (reading : Reading) (text : List ℕ) : Type 0 where
  pub hists : List Histogram
  pub lines : List ListLine
  pub shown : AreShown drawn.choice hists reading
  pub ordered : AreOrdered drawn.is_by_units (map (line_of drawn.style.is_human) hists) lines
  pub is : text ≡ list_of_some drawn.style.width lines ++ ending hists reading
