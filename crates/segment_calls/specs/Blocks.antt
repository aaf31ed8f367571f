-- The blocks that a histogram needs: its record, and what its units are counted in.
use Rattle.std.specs.Prelude.{Bool, true, false, ℕ, ◌+◌, ◌*◌, List, length, if◌then◌else◌}
use Rattle.segment_image.specs.declared.layout.TheConstants.{BLOCK_HEADER, HISTOGRAM_NAME, SAMPLE_LEAST}
use Rattle.bucket_ranges.specs.declared.spec.Spec.{Spec}
use Rattle.bucket_ranges.specs.declared.spec.Spec.TheVariants as spec
use Rattle.bucket_ranges.specs.Spec.{buckets_of, spec_ranges}
use Rattle.bucket_ranges.specs.Reading.{name_words}

-- the words of the record of a name and a spec
abbrev pub record_words : List ℕ → Spec → ℕ
record_words name spec = HISTOGRAM_NAME + (name_words (length name) + length (spec_ranges spec))

-- whether a spec has buckets
abbrev pub has_buckets : Spec → Bool
has_buckets (spec.Linear min max n) = true
has_buckets spec.Boolean = true
has_buckets (spec.Custom values) = true
has_buckets spec.Sparse = false

-- the words of its counts and marks; or of one sample, if it has no buckets
abbrev pub count_words : Spec → ℕ
count_words spec = if has_buckets spec then BLOCK_HEADER + 2 * buckets_of spec else SAMPLE_LEAST
