-- Which specs are valid, and which are the same.
use Rattle.std.specs.Prelude.{◌≡◌, ◌↔◌, Bool, not, ◌||◌, ◌==◌, nat_lt, nat_le, if◌then◌else◌, ℕ, ◌+◌, ◌-◌, ◌<◌, ◌≤◌, List, [], ◌∷◌, length, slice_index, Option}
use Rattle.std.specs.List.{All, Any, Contains, list_any, list_all}
use Rattle.std.specs.List.Sorted.{IsStrictlyIncreasing}
use Rattle.segment_image.specs.Checks.{first_fault}
use Rattle.segment_image.specs.declared.layout.TheConstants.{KIND_LINEAR, KIND_BOOLEAN, KIND_CUSTOM, KIND_SPARSE}
use Rattle.bucket_ranges.specs.declared.limits.TheConstants.{MAX_VALUE, MAX_BUCKETS, MAX_CUSTOM_VALUES}
use Rattle.bucket_ranges.specs.declared.spec.Spec.{Spec}
use Rattle.bucket_ranges.specs.declared.spec.Spec.TheVariants.{Linear, Boolean, Custom, Sparse}
use Rattle.bucket_ranges.specs.declared.spec.SpecFault.{SpecFault}
use Rattle.bucket_ranges.specs.declared.spec.SpecFault.TheVariants.{BadMin, BadMax, TooFew, TooMany, BadRange, Empty}

-- what can be wrong with a linear spec, in order
abbrev pub linear_checks : ℕ → ℕ → ℕ → List (Bool × SpecFault)
linear_checks min max n =
    (min == 0, BadMin)
    ∷ (nat_le max min || nat_lt MAX_VALUE max, BadMax)
    ∷ (nat_lt n 3, TooFew)
    ∷ (nat_lt MAX_BUCKETS n || nat_lt (max - min + 2) n, TooMany)
    ∷ []

-- what can be wrong with the values of a custom spec, in order
abbrev pub custom_checks : List ℕ → List (Bool × SpecFault)
custom_checks values =
    (nat_lt MAX_CUSTOM_VALUES (length values), TooMany)
    ∷ (list_any (λ value. nat_lt MAX_VALUE value) values, BadRange)
    ∷ (not (list_any (λ value. nat_lt 0 value) values), Empty)
    ∷ []

-- what can be wrong with a spec, in order
abbrev pub spec_checks : Spec → List (Bool × SpecFault)
spec_checks (Linear min max n) = linear_checks min max n
spec_checks Boolean = []
spec_checks (Custom values) = custom_checks values
spec_checks Sparse = []

-- the first fault of a spec
abbrev pub spec_fault : Spec → Option SpecFault
spec_fault spec = first_fault (spec_checks spec)

-- an ascending list with one more value in its place; a value that it has already is not put in again
abbrev pub put_in_order : ℕ → List ℕ → List ℕ
put_in_order value [] = value ∷ []
put_in_order value (least ∷ rest) =
    if nat_lt value least then value ∷ least ∷ rest
    else (if value == least then least ∷ rest else least ∷ put_in_order value rest)

-- the distinct values above 0, ascending
abbrev pub distinct_values : List ℕ → List ℕ
distinct_values [] = []
distinct_values (value ∷ rest) = if value == 0 then distinct_values rest else put_in_order value (distinct_values rest)

-- a list that has exactly those of the values that are above 0, each once and below the next
pub record AreDistinctValues (values distinct : List ℕ) : Type 0 where
  pub ascending : IsStrictlyIncreasing distinct
  pub members : (value : ℕ) → Contains distinct value ↔ (Contains values value × (0 < value))

-- the number of its buckets: a custom spec has one below the least of its values above 0, and one from each of them
-- on; a sparse one has none
abbrev pub buckets_of : Spec → ℕ
buckets_of (Linear min max n) = n
buckets_of Boolean = 3
buckets_of (Custom values) = length (distinct_values values) + 1
buckets_of Sparse = 0

-- ---- the same specs

-- the kind, the minimum, the maximum and the number of buckets of a spec, as its record has them
abbrev pub spec_fields : Spec → List ℕ
spec_fields (Linear min max n) = KIND_LINEAR ∷ min ∷ max ∷ n ∷ []
spec_fields Boolean = KIND_BOOLEAN ∷ 1 ∷ 2 ∷ 3 ∷ []
spec_fields (Custom values) =
    let inner = distinct_values values in
    KIND_CUSTOM ∷ slice_index inner 0 ∷ slice_index inner (length inner - 1) ∷ (length inner + 1) ∷ []
spec_fields Sparse = KIND_SPARSE ∷ 0 ∷ 0 ∷ 0 ∷ []

-- the ranges that follow the name in the record of a custom spec
abbrev pub spec_ranges : Spec → List ℕ
spec_ranges (Linear min max n) = []
spec_ranges Boolean = []
spec_ranges (Custom values) = distinct_values values
spec_ranges Sparse = []

-- two specs are the same: kind, minimum, maximum, number of buckets and, of custom ones, all ranges
abbrev pub SameSpec : Spec → Spec → Type 0
SameSpec a b = (spec_fields a ≡ spec_fields b) × (spec_ranges a ≡ spec_ranges b)

-- whether each of the values that is above 0 is among the others
abbrev pub has_values : List ℕ → List ℕ → Bool
has_values others values = list_all (λ value. (value == 0) || list_any (λ other. other == value) others) values

-- ---- valid specs

-- a linear spec that has no fault
pub record IsLinear (min max n : ℕ) : Type 0 where
  pub min_above : 0 < min
  pub max_above : min < max
  pub max_below : max ≤ MAX_VALUE
  pub few : 3 ≤ n
  pub many : n ≤ MAX_BUCKETS
  pub room : n ≤ max - min + 2

-- the values of a custom spec that has no fault
pub record IsCustom (values : List ℕ) : Type 0 where
  pub few : length values ≤ MAX_CUSTOM_VALUES
  pub below : All (λ value. value ≤ MAX_VALUE) values
  pub some : Any (λ value. 0 < value) values
