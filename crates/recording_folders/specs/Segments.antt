-- Segments, each by its number and its id, and how often lists have them.
use Rattle.std.specs.Prelude.{◌≡◌, ◌==◌, ◌&&◌, ◌≤◌, ℕ, Bool, not, List}
use Rattle.std.specs.List.{list_any, count_by, filter}

-- whether two segments are the same
abbrev pub is_same : ℕ × ℕ → ℕ × ℕ → Bool
is_same one other = (one.0 == other.0) && (one.1 == other.1)

-- how often a segment is in a list
abbrev pub times : ℕ × ℕ → List (ℕ × ℕ) → ℕ
times segment segments = count_by (is_same segment) segments

-- whether a segment is among the names
abbrev pub is_named : List (ℕ × ℕ) → ℕ × ℕ → Bool
is_named names segment = list_any (is_same segment) names

-- the segments that are not named
abbrev pub unnamed : List (ℕ × ℕ) → List (ℕ × ℕ) → List (ℕ × ℕ)
unnamed names segments = filter (λ segment. not (is_named names segment)) segments

-- what is counted is each segment of a list, once
pub record AreEachOnce (segments counted : List (ℕ × ℕ)) : Type 0 where
  pub all : (segment : ℕ × ℕ) → times segment counted ≡ times segment segments
  pub once : (segment : ℕ × ℕ) → times segment counted ≤ 1
