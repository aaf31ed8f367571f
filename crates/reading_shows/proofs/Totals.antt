-- The units of the rows of a histogram together.
use Rattle.std.proofs.Common.{◌≡◌, ◌∙◌, ℕ, zero, suc, ◌+◌, ◌≤◌, ◌<◌, Bool, true, false, not, List, length, take, get_or, pos, map, refl, ap, sym, subst, arith}
use Rattle.std.specs.List.{range_with_len, sum_by}
use Rattle.std.proofs.lemmas.List.{take_all}
use Rattle.std.proofs.lemmas.List.Filters.{sum_by-filter_both}
use Rattle.std.proofs.lemmas.List.FromFn.{sum_by-map-range_with_len_more}
use Rattle.std.proofs.lemmas.List.Sums.{sum_by_more}
use Rattle.bucket_ranges.specs.Reading.{Histogram}
use Rattle.reading_texts.specs.declared.rows.HistRow.{HistRow}
use Rattle.reading_texts.specs.Rows.{row_at, rows_of, units_of}
use Rattle.reading_shows.specs.Most.{is_among_first, left_out_rows}

-- those of the first rows are those of the first counts
units-first : (hist : Histogram) (k : ℕ) → k ≤ length hist.counts
    → sum_by (λ (row : HistRow). row.units) (map (row_at hist) (range_with_len 0 k)) ≡ sum_by (λ count. count.1) (take k hist.counts)
units-first hist zero h = refl
units-first hist (suc k) h =
    let within : k < length hist.counts = omega (arith, h) in
    let rows = sum_by-map-range_with_len_more (λ (row : HistRow). row.units) (row_at hist) 0 k k (omega arith) in
    let counts = sum_by_more (λ count. count.1) hist.counts k (pos 0, 0) within in
    let before = units-first hist k (omega (arith, h)) in
    let next : k + 1 ≡ suc k = omega arith in
    subst (λ n. sum_by (λ (row : HistRow). row.units) (map (row_at hist) (range_with_len 0 n)) ≡ sum_by (λ count. count.1) (take n hist.counts)) next
    (rows ∙ (ap (λ n. n + (get_or hist.counts k (pos 0, 0)).1) before ∙ sym counts))

pub units-all : (hist : Histogram) → sum_by (λ (row : HistRow). row.units) (rows_of hist) ≡ units_of hist
units-all hist =
    units-first hist (length hist.counts) (omega arith) ∙ ap (sum_by (λ count. count.1)) (take_all (length hist.counts) hist.counts (omega arith))

-- what is left out of rows has no more units than all of them
left-out-within : (all : Bool) (rows : List HistRow) → sum_by (λ row. row.units) (left_out_rows all rows) ≤ sum_by (λ row. row.units) rows
left-out-within true rows = omega arith
left-out-within false rows =
    let both = sum_by-filter_both (is_among_first rows) (λ row. not (is_among_first rows row)) (λ row. refl) (λ row. row.units) rows in
    omega (arith, both)

-- so they fit if those of the histogram do
pub left-out-fits : (all : Bool) (hist : Histogram) (bound : ℕ) → units_of hist < bound → sum_by (λ row. row.units) (left_out_rows all (rows_of hist)) < bound
left-out-fits all hist bound h = omega (arith, left-out-within all (rows_of hist), units-all hist, h)
