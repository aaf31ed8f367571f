-- What samples add up to, one by one. A sample is a value, and how many units of it there are.
use Rattle.std.specs.Prelude.{◌≡◌, Bool, ◌&&◌, nat_lt, nat_le, if◌then◌else◌, ℕ, ◌+◌, ◌-◌, ◌<◌, ℤ, pos, ◌+ℤ◌, ◌*ℤ◌, List, length, map, fold, slice_index, sum_by, All, IfSome}
use Rattle.std.specs.List.{range_with_len, Contains}
use Rattle.std.specs.List.Sorted.{IsStrictlySortedBy}
use Rattle.std.specs.Ordering.{int_cmp, int_eq}
use Rattle.std.specs.BTreeMap.{BTreeMap, get}
use Rattle.std.specs.Bool.{MatchBool}
use Rattle.bucket_ranges.specs.Ranges.{clamped}

-- the units of all samples
abbrev pub units_of : List (ℤ × ℕ) → ℕ
units_of samples = sum_by (λ sample. sample.1) samples

-- the units of the samples whose values pass a test
abbrev pub units_where : (ℤ → Bool) → List (ℤ × ℕ) → ℕ
units_where test samples = sum_by (λ sample. if test sample.0 then sample.1 else 0) samples

-- ---- with buckets

-- whether a value, clamped, lies in bucket i
abbrev pub is_in_bucket : List ℕ → ℕ → ℤ → Bool
is_in_bucket boundaries i value =
    nat_le (slice_index boundaries i) (clamped value) && nat_lt (clamped value) (slice_index boundaries (i + 1))

-- all buckets in order, each by its least value, with the units of the samples in it
abbrev pub bucket_counts : List ℕ → List (ℤ × ℕ) → List (ℤ × ℕ)
bucket_counts boundaries samples =
    map (λ i. (pos (slice_index boundaries i), units_where (is_in_bucket boundaries i) samples)) (range_with_len 0 (length boundaries - 1))

-- ---- each value for itself

-- the units of one value
abbrev pub units_at : List (ℤ × ℕ) → ℤ → ℕ
units_at samples value = units_where (int_eq value) samples

-- all values that have units, ascending, each with its units
pub record AreValueCounts (samples counts : List (ℤ × ℕ)) : Type 0 where
  pub ascending : IsStrictlySortedBy int_cmp (map (λ count. count.0) counts)
  pub each : All (λ count. (0 < count.1) × (count.1 ≡ units_at samples count.0)) counts
  pub every : (value : ℤ) → 0 < units_at samples value → Contains counts (value, units_at samples value)

-- ---- the tally

-- the counts: of the buckets if there are some, and of the values if there are none
abbrev pub AreCounts : List ℕ → List (ℤ × ℕ) → List (ℤ × ℕ) → Type 0
AreCounts boundaries samples counts =
    MatchBool (nat_lt 1 (length boundaries)) (counts ≡ bucket_counts boundaries samples) (AreValueCounts samples counts)

-- a value as it counts for the sum: clamped if there are buckets, and itself if there are none
abbrev pub counted_value : List ℕ → ℤ → ℤ
counted_value boundaries value = if nat_lt 1 (length boundaries) then pos (clamped value) else value

-- what a sample adds to the sum: its value as often as it has units
abbrev pub amount_of : List ℕ → ℤ × ℕ → ℤ
amount_of boundaries sample = counted_value boundaries sample.0 *ℤ pos sample.1

-- the sum of all amounts
abbrev pub sum_of : List ℕ → List (ℤ × ℕ) → ℤ
sum_of boundaries samples = fold ◌+ℤ◌ (pos 0) (map (amount_of boundaries) samples)

-- a map of units by value that has no value without units
abbrev pub HaveUnits : BTreeMap ℤ ℕ → Type 0
HaveUnits counts = (value : ℤ) → IfSome (get int_cmp counts value) (λ units. 0 < units)
