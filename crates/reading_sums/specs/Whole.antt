-- Which histograms are whole, and which sums are well formed.
use Rattle.std.specs.Prelude.{◌≡◌, ℕ, ◌<◌, ◌^◌, ℤ, pos, FitsSigned, List, ◌∷◌, map, take, sum_by, None, ⊤}
use Rattle.std.specs.Int.{w128}
use Rattle.std.specs.Ordering.{nat_cmp}
use Rattle.std.specs.Str.{bytes_eq}
use Rattle.std.specs.List.{All, IsDistinct}
use Rattle.std.specs.List.Sorted.{IsStrictlySortedBy}
use Rattle.bucket_ranges.specs.declared.spec.Spec.{Spec}
use Rattle.bucket_ranges.specs.declared.spec.Spec.TheVariants.{Linear, Boolean, Custom, Sparse}
use Rattle.bucket_ranges.specs.Spec.{spec_fault, buckets_of}
use Rattle.bucket_ranges.specs.Ranges.{boundaries_of}
use Rattle.bucket_ranges.specs.Reading.{Histogram, Reading}
use Rattle.reading_sums.specs.declared.hist.HistSum.{HistSum}
use Rattle.reading_sums.specs.declared.key.KeySum.{KeySum}
use Rattle.reading_sums.specs.declared.sums.Sums.{Sums}
use Rattle.reading_sums.specs.Keys.{keys_from}
use Rattle.reading_sums.specs.Orders.{hist_cmp, key_cmp}

-- the values of keys
abbrev pub values_of : List KeySum → List ℤ
values_of keys = map (λ key. key.value) keys

-- the units of all keys
abbrev pub units_of : List KeySum → ℕ
units_of keys = sum_by (λ key. key.units) keys

-- the least values of the buckets of a spec
abbrev pub lows_of : Spec → List ℤ
lows_of spec = map pos (take (buckets_of spec) (boundaries_of spec))

-- there is one key for each bucket, with its least value; if there are no buckets, the keys may be any
abbrev pub AreBuckets : Spec → List KeySum → Type 0
AreBuckets (Linear min max n) keys = values_of keys ≡ lows_of (Linear min max n)
AreBuckets Boolean keys = values_of keys ≡ lows_of Boolean
AreBuckets (Custom values) keys = values_of keys ≡ lows_of (Custom values)
AreBuckets Sparse keys = ⊤

-- the values of a custom spec ascend from 1, as in a segment
abbrev pub IsInForm : Spec → Type 0
IsInForm (Linear min max n) = ⊤
IsInForm Boolean = ⊤
IsInForm (Custom values) = IsStrictlySortedBy nat_cmp (0 ∷ values)
IsInForm Sparse = ⊤

-- a valid spec and the whole list of keys of a histogram with it: they ascend, they are its buckets, and their units fit 64 bits
pub record IsWholeList (spec : Spec) (keys : List KeySum) : Type 0 where
  pub lawful : spec_fault spec ≡ None
  pub form : IsInForm spec
  pub ascending : IsStrictlySortedBy key_cmp keys
  pub buckets : AreBuckets spec keys
  pub small : units_of keys < 2 ^ 64

-- a histogram of a sum that is whole
abbrev pub IsWholeHist : HistSum → Type 0
IsWholeHist hist = IsWholeList hist.spec hist.keys.items

-- a histogram whose spec is valid, and whose keys are its buckets
pub record HasItsBuckets (hist : HistSum) : Type 0 where
  pub lawful : spec_fault hist.spec ≡ None
  pub buckets : AreBuckets hist.spec hist.keys.items

-- the marks of keys fit 64 bits
abbrev pub AreMarksInRange : List KeySum → Type 0
AreMarksInRange keys = All (λ key. key.marks < 2 ^ 64) keys

-- the numbers of a histogram of a sum are in range: its marks, its redundant count and the number of its images fit 64 bits, and its
-- amounts 128 bits with a sign; so it is of each one in memory
pub record IsInRange (hist : HistSum) : Type 0 where
  pub marks : AreMarksInRange hist.keys.items
  pub sum : FitsSigned w128 hist.sum
  pub sum_mark : FitsSigned w128 hist.sum_mark
  pub redundant : hist.redundant < 2 ^ 64
  pub images : hist.images < 2 ^ 64

-- histograms that ascend by name and spec, so each name and spec is there once; each of them is whole, and its numbers are in range
pub record AreWhole (hists : List HistSum) : Type 0 where
  pub ascending : IsStrictlySortedBy hist_cmp hists
  pub whole : All IsWholeHist hists
  pub range : All IsInRange hists

-- a sum of such histograms
abbrev pub IsWellFormed : Sums → Type 0
IsWellFormed sums = AreWhole sums.hists.items

-- a histogram of a reading that is whole
abbrev pub IsWholeHistogram : Histogram → Type 0
IsWholeHistogram hist = IsWholeList hist.spec (keys_from hist.counts hist.marks)

-- each name is there once
abbrev pub HasNamesOnce : List Histogram → Type 0
HasNamesOnce hists = IsDistinct bytes_eq (map (λ (hist : Histogram). hist.name) hists)

-- a reading that has each name once, and whose histograms are whole
pub record IsWholeReading (reading : Reading) : Type 0 where
  pub names : HasNamesOnce reading.hists
  pub whole : All IsWholeHistogram reading.hists
