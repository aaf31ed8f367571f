-- What is noted of a histogram of which not all was added: its first items were, its sum was not.
use Rattle.std.specs.Prelude.{nat_lt, ◌==◌, ◌&&◌, if◌then◌else◌, ℕ, ◌-◌, ℤ, List, [], ◌∷◌}
use Rattle.bucket_ranges.specs.Reading.{Histogram}
use Rattle.segment_merge.specs.Remainder.{marked}

-- what is noted of a key, while this many items are left: all its units, or its mark if it has more units and no item is left for them
abbrev pub kept_of : ℕ → (ℤ × ℕ) × ℕ → ℤ × ℕ
kept_of left ((key, units), mark) = (key, if nat_lt mark units && (left == 0) then mark else units)

-- how many items are left behind that key
abbrev pub left_behind : ℕ → (ℤ × ℕ) × ℕ → ℕ
left_behind left ((key, units), mark) = if nat_lt mark units then left - 1 else left

-- what is noted of the keys, each with its mark
abbrev pub kept : ℕ → List ((ℤ × ℕ) × ℕ) → List (ℤ × ℕ)
kept left [] = []
kept left (each ∷ rest) = kept_of left each ∷ kept (left_behind left each) rest

-- what is noted of a histogram, whose marks are what was noted before, once this many items were added
abbrev pub cut_at : ℕ → Histogram → Histogram
cut_at items h = record h { counts = kept items (marked h.counts h.marks); sum = h.sum_mark }
