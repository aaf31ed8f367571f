-- What a sum of one reading reads as.
use Rattle.std.specs.Prelude.{◌≡◌, ℕ, List, [], ◌∷◌, map, length, IsPermutation}
use Rattle.std.specs.Ordering.{nat_cmp}
use Rattle.std.specs.Cmp.Lexicographic.{slice_cmp}
use Rattle.std.specs.List.{All, enumerate_from}
use Rattle.std.specs.List.Sorted.{IsStrictlySortedBy}
use Rattle.bucket_ranges.specs.Reading.{Histogram, Reading}
use Rattle.reading_sums.specs.declared.sums.Sums.{Sums}
use Rattle.reading_sums.specs.Sums.{IsSumOver}
use Rattle.reading_sums.specs.Whole.{IsWholeReading, IsWellFormed}

-- a histogram that has a mark for each count
abbrev pub HasItsMarks : Histogram → Type 0
HasItsMarks hist = length hist.marks ≡ length hist.counts

-- a well-formed sum of one reading, which has a number, is whole, and has a mark for each count
pub record IsSumOfOne (number : ℕ) (reading : Reading) (sums : Sums) : Type 0 where
  pub whole : IsWholeReading reading
  pub marks : All HasItsMarks reading.hists
  pub well_formed : IsWellFormed sums
  pub sum : IsSumOver ((number, reading) ∷ []) sums

-- the same histograms, each with its index as reference
abbrev pub renumbered : ℕ → List Histogram → List Histogram
renumbered index hists = map (λ (one : ℕ × Histogram). record one.1 { reference = one.0 }) (enumerate_from index hists)

-- what is shown is all histograms, each unchanged except for its reference, in the order of their names
pub record ShowsInOrder (hists shown : List Histogram) : Type 0 where
  pub listed : List Histogram
  pub all : IsPermutation listed hists
  pub ascending : IsStrictlySortedBy (slice_cmp nat_cmp) (map (λ (hist : Histogram). hist.name) listed)
  pub same : shown ≡ renumbered 0 listed
