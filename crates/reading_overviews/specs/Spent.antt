-- The units that an image has used.
use Rattle.std.specs.Prelude.{Bool, ◌==◌, if◌then◌else◌, ℕ, ◌-◌, min, List, sum_by}
use Rattle.segment_image.specs.declared.head.SegmentHead.{SegmentHead}
use Rattle.segment_image.specs.declared.layout.TheConstants.{VERSION_FROZEN}
use Rattle.bucket_ranges.specs.declared.limits.TheConstants.{MAX_UNITS}
use Rattle.bucket_ranges.specs.Reading.{Histogram}
use Rattle.reading_texts.specs.Rows.{units_of}
use Rattle.image_rules.specs.Adoption.{used_by}

-- whether an image is of version 2, which may be adopted
abbrev pub is_frozen : SegmentHead → Bool
is_frozen head = head.version == VERSION_FROZEN

-- the units that a histogram has used: in version 2 those that adoption counts, in version 1 its units
abbrev pub spent_by : Bool → Histogram → ℕ
spent_by frozen hist = if frozen then used_by hist else units_of hist

-- the units that all histograms have used, or 2^64 - 1 if there are more
abbrev pub spent_of : Bool → List Histogram → ℕ
spent_of frozen hists = min (sum_by (spent_by frozen) hists) 18446744073709551615

-- the units that a segment has left when this many are used
abbrev pub units_left : ℕ → ℕ
units_left spent = MAX_UNITS - spent
