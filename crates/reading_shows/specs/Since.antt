-- What came to the histograms of a reading since an earlier one.
use Rattle.std.specs.Prelude.{Bool, true, false, ◌==◌, ◌&&◌, if◌then◌else◌, ℕ, ◌-◌, ℤ, List, [], ◌++◌, map, sum, codes, Option, Some, None}
use Rattle.std.specs.List.{find, fold}
use Rattle.std.specs.Ordering.{int_eq}
use Rattle.std.specs.Str.{bytes_eq}
use Rattle.bucket_ranges.specs.declared.spec.Spec.{Spec}
use Rattle.bucket_ranges.specs.Spec.{spec_fields, spec_ranges}
use Rattle.bucket_ranges.specs.Reading.{Histogram, Reading}
use Rattle.reading_texts.specs.declared.rows.HistRow.{HistRow}
use Rattle.reading_overviews.specs.Numbers.{number}

-- whether a text says what came since an earlier reading, and the histograms of that reading
pub record Since : Type 0 where
  pub is_told : Bool
  pub hists : List Histogram

-- a text that does not say what came
abbrev pub untold : Since
untold = record { is_told = false; hists = [] }

-- a text that says what came since this reading
abbrev pub told_since : Reading → Since
told_since earlier = record { is_told = true; hists = earlier.hists }

-- ---- what there was before

-- whether two specs are the same: kind, minimum, maximum, number of buckets and, of custom ones, all ranges
abbrev pub same_spec : Spec → Spec → Bool
same_spec a b = bytes_eq (spec_fields a) (spec_fields b) && bytes_eq (spec_ranges a) (spec_ranges b)

-- whether an earlier histogram has the name and the spec of a histogram
abbrev pub is_same : Histogram → Histogram → Bool
is_same hist earlier = bytes_eq earlier.name hist.name && same_spec earlier.spec hist.spec

-- the counts of a histogram that was found; none if none was found
abbrev pub counts_found : Option Histogram → List (ℤ × ℕ)
counts_found None = []
counts_found (Some hist) = hist.counts

-- the counts that a histogram had: those of the earlier one with its name and its spec. A histogram that is new, or has another spec than
-- before, had none, so all its units came since.
abbrev pub counts_before : List Histogram → Histogram → List (ℤ × ℕ)
counts_before earlier hist = counts_found (find (is_same hist) earlier)

-- the units of a value in counts: those of its last entry if it has several, and 0 if it has none
abbrev pub units_at : List (ℤ × ℕ) → ℤ → ℕ
units_at counts value = fold (λ units count. if int_eq count.0 value then count.1 else units) 0 counts

-- ---- what came

-- the units that came to a bucket, or to a value of a sparse histogram: those that it has, less those that it had, or 0 if it has fewer. Of
-- two looks at one segment, one after the other, the later one never has fewer (`look_promises::readings_rise`); a reading can have fewer
-- if the file holds another segment by then.
abbrev pub came_to : List (ℤ × ℕ) → HistRow → ℕ
came_to before row = row.units - units_at before row.low

-- the units that came to each of these rows, or no numbers if the text does not say what came
abbrev pub came_to_rows : Bool → List (ℤ × ℕ) → List HistRow → List ℕ
came_to_rows is_told before rows = if is_told then map (came_to before) rows else []

-- the units that came to all of these rows together
abbrev pub came_to_all : Bool → List (ℤ × ℕ) → List HistRow → ℕ
came_to_all is_told before rows = sum (came_to_rows is_told before rows)

-- how units that came are written after all units: a blank, a plus sign and their number; nothing if none came
abbrev pub came_text : Bool → ℕ → List ℕ
came_text is_human came = if came == 0 then [] else codes " +" ++ number is_human came
