-- The totals of the buckets of a histogram, with which a snapshot begins.
use Rattle.std.specs.Prelude.{ℕ, ℤ, List, []}
use Rattle.bucket_ranges.specs.Tally.{bucket_counts}

-- the keys of all buckets of these ranges in order, each with no units yet
abbrev pub blank_totals : List ℕ → List (ℤ × ℕ)
blank_totals boundaries = bucket_counts boundaries []
