-- The samples of a list that are not the first of their histogram and value.
use Rattle.std.specs.Prelude.{Bool, ◌&&◌, ◌==◌, ℕ, List, map}
use Rattle.std.specs.List.{filter, list_any}
use Rattle.std.specs.Ordering.{is_eq}
use Rattle.segment_image.specs.declared.head.SegmentHead.{SegmentHead}
use Rattle.bucket_ranges.specs.Reading.{by_value, lawful_samples, sample_histogram, with_earlier}

-- whether another sample has the histogram and the value of this one
abbrev pub is_same_sample : List ℕ → ℕ → ℕ → Bool
is_same_sample words sample other =
    (sample_histogram words other == sample_histogram words sample) && is_eq (by_value words sample other)

-- whether a sample comes after another one of its histogram and value, given the samples before it
abbrev pub is_later : List ℕ → List ℕ × ℕ → Bool
is_later words placed = list_any (is_same_sample words placed.1) placed.0

-- the samples without a fault on a list that come after another one of their histogram and value
abbrev pub later_samples : List ℕ → SegmentHead → List ℕ → List ℕ
later_samples words head references =
    map (λ placed. placed.1) (filter (is_later words) (with_earlier (lawful_samples words head references)))
