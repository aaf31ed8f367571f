-- The shape that is chosen for a number of words.
use Rattle.std.specs.Prelude.{ℕ, ◌+◌, ◌*◌, ◌/◌, ◌%◌, min}
use Rattle.segment_image.specs.Shape.{Dimensions}
use Rattle.segment_image.specs.declared.layout.TheConstants.{PAGE_STEP}
use Rattle.segment_image.specs.declared.fitting.TheConstants.{FITTED_PAGE}

-- the fewest pages that hold this many words if none has over 4,096
abbrev pub fitted_pages : ℕ → ℕ
fitted_pages words = words / FITTED_PAGE + min 1 (words % FITTED_PAGE)

-- each of them takes an equal part of the words, rounded down to a multiple of 16
abbrev pub fitted_page : ℕ → ℕ
fitted_page words = words / fitted_pages words / PAGE_STEP * PAGE_STEP

-- the segment has these pages
abbrev pub fitted : ℕ → Dimensions
fitted words = record { size = fitted_pages words * fitted_page words; page = fitted_page words }
