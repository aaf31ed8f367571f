-- The boundaries of buckets.
use Rattle.std.specs.Prelude.{◌≡◌, ℕ, ◌+◌, ◌-◌, ◌*◌, ◌/◌, ◌<◌, ◌≤◌, min, ℤ, pos, negsuc, List, [], ◌∷◌, ◌++◌, map, length, slice_index}
use Rattle.std.specs.List.{range_with_len}
use Rattle.bucket_ranges.specs.declared.limits.TheConstants.{LAST_BOUNDARY, MAX_VALUE}
use Rattle.bucket_ranges.specs.declared.spec.Spec.{Spec}
use Rattle.bucket_ranges.specs.declared.spec.Spec.TheVariants.{Linear, Boolean, Custom, Sparse}
use Rattle.bucket_ranges.specs.Spec.{distinct_values}

-- boundary i of a linear spec, for i from 1 to n - 1: as far from `min` to `max` as i is from 1 to n - 1, rounded
abbrev pub inner_boundary : ℕ → ℕ → ℕ → ℕ → ℕ
inner_boundary min max n i = (2 * (min * (n - 1 - i) + max * (i - 1)) + (n - 2)) / (2 * (n - 2))

-- all boundaries of a linear spec, from 0 to 2,147,483,647
abbrev pub linear_boundaries : ℕ → ℕ → ℕ → List ℕ
linear_boundaries min max n = 0 ∷ (map (inner_boundary min max n) (range_with_len 1 (n - 1)) ++ LAST_BOUNDARY ∷ [])

-- all boundaries of a custom spec: the distinct values above 0, ascending, between 0 and 2,147,483,647
abbrev pub custom_boundaries : List ℕ → List ℕ
custom_boundaries values = 0 ∷ (distinct_values values ++ LAST_BOUNDARY ∷ [])

-- the boundaries of a spec; a sparse one has none
abbrev pub boundaries_of : Spec → List ℕ
boundaries_of (Linear min max n) = linear_boundaries min max n
boundaries_of Boolean = linear_boundaries 1 2 3
boundaries_of (Custom values) = custom_boundaries values
boundaries_of Sparse = []

-- each is at most 2,147,483,647
abbrev pub AreValues : List ℕ → Type 0
AreValues boundaries = (i : ℕ) → slice_index boundaries i ≤ LAST_BOUNDARY

-- each is below the next
abbrev pub IsAscending : List ℕ → Type 0
IsAscending boundaries = (i : ℕ) → i + 1 < length boundaries → slice_index boundaries i < slice_index boundaries (i + 1)

-- what every list of boundaries keeps; if it is not empty it begins with 0 and ends with 2,147,483,647
pub record AreBoundaries (boundaries : List ℕ) : Type 0 where
  pub few : length boundaries ≤ 1001
  pub small : AreValues boundaries
  pub ascending : IsAscending boundaries
  pub ends : 0 < length boundaries
      → (slice_index boundaries 0 ≡ 0) × (slice_index boundaries (length boundaries - 1) ≡ LAST_BOUNDARY)

-- a value as it is counted: one below 0 as 0, one above 2,147,483,646 as that
abbrev pub clamped : ℤ → ℕ
clamped (pos value) = min value MAX_VALUE
clamped (negsuc value) = 0

-- the bucket of a value: the one whose boundaries hold it
pub record IsBucketOf (boundaries : List ℕ) (value bucket : ℕ) : Type 0 where
  pub within : bucket + 1 < length boundaries
  pub low : slice_index boundaries bucket ≤ value
  pub high : value < slice_index boundaries (bucket + 1)

-- boundaries that split the values below 2,147,483,647 among this many buckets, none of them empty
pub record SplitsValues (buckets : ℕ) (boundaries : List ℕ) : Type 0 where
  pub count : length boundaries ≡ buckets + 1
  pub first : slice_index boundaries 0 ≡ 0
  pub last : slice_index boundaries buckets ≡ LAST_BOUNDARY
  pub ascending : IsAscending boundaries
