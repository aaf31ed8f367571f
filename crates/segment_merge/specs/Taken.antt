-- What deltas took of a histogram.
use Rattle.std.specs.Prelude.{ℕ, ℤ, map, min}
use Rattle.bucket_ranges.specs.Reading.{Histogram}
use Rattle.segment_merge.specs.Remainder.{marked}

-- of a key its mark, or all its units if they are fewer
abbrev pub taken_key : (ℤ × ℕ) × ℕ → ℤ × ℕ
taken_key ((key, units), mark) = (key, min units mark)

-- that of each key, and the sum mark
abbrev pub taken : Histogram → Histogram
taken h = record h { counts = map taken_key (marked h.counts h.marks); sum = h.sum_mark }
