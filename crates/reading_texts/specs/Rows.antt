-- The rows of a histogram, and the order of the histograms, from which every text of a reading is made.
use Rattle.std.specs.Prelude.{ℕ, ◌+◌, ℤ, pos, ◌+ℤ◌, List, map, take, drop, length, get_or, sum_by, IsPermutation, IsSortedByKey}
use Rattle.std.specs.List.{range_with_len}
use Rattle.std.specs.Ordering.{nat_cmp}
use Rattle.std.specs.Cmp.Lexicographic.{slice_cmp}
use Rattle.bucket_ranges.specs.declared.spec.Spec.{Spec}
use Rattle.bucket_ranges.specs.declared.spec.Spec.TheVariants.{Sparse}
use Rattle.bucket_ranges.specs.Ranges.{boundaries_of}
use Rattle.bucket_ranges.specs.Reading.{Histogram, Reading}
use Rattle.reading_texts.specs.declared.rows.HistRow.{HistRow}

-- the boundary after each bucket: the least value of the next, or 2,147,483,647; after a value of a sparse histogram, the next value
abbrev pub highs_of : Spec → List (ℤ × ℕ) → List ℤ
highs_of Sparse counts = map (λ count. count.0 +ℤ pos 1) counts
highs_of spec counts = map pos (drop 1 (boundaries_of spec))

-- the units of a histogram
abbrev pub units_of : Histogram → ℕ
units_of hist = sum_by (λ count. count.1) hist.counts

-- row `i` of a histogram: its least value, the boundary after it, its units, and the units up to it
abbrev pub row_at : Histogram → ℕ → HistRow
row_at hist i = record {
  low = (get_or hist.counts i (pos 0, 0)).0;
  high = get_or (highs_of hist.spec hist.counts) i (pos 0);
  units = (get_or hist.counts i (pos 0, 0)).1;
  up_to = sum_by (λ count. count.1) (take (i + 1) hist.counts);
}

-- a row for each bucket, or for each value of a sparse histogram, ascending
abbrev pub rows_of : Histogram → List HistRow
rows_of hist = map (row_at hist) (range_with_len 0 (length hist.counts))

-- the histograms of a reading, ascending by the bytes of their names
pub record AreSortedByName (hists : List Histogram) (reading : Reading) : Type 0 where
  pub same : IsPermutation hists reading.hists
  pub ascending : IsSortedByKey (λ hist. hist.name) (slice_cmp nat_cmp) hists
