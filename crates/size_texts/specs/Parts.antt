-- The blocks of a histogram.
use Rattle.std.specs.Prelude.{◌≡◌, ℕ, ◌+◌, ◌-◌, ◌*◌, Option, Some, None, List, length}
use Rattle.segment_image.specs.declared.layout.TheConstants.{BLOCK_HEADER}
use Rattle.bucket_ranges.specs.declared.spec.Spec.{Spec}
use Rattle.bucket_ranges.specs.declared.spec.Spec.TheVariants.{Linear, Boolean, Custom, Sparse}
use Rattle.bucket_ranges.specs.Ranges.{boundaries_of}
use Rattle.segment_calls.specs.Asked.{IsPayloadFor}

-- the words of its record: the header's and those after it
pub record IsRecordSize (name : List ℕ) (spec : Spec) (size : ℕ) : Type 0 where
  pub payload : List ℕ
  pub letters : ℕ
  pub payload_is : IsPayloadFor name spec payload letters
  pub size_is : size ≡ BLOCK_HEADER + length payload

-- the words of a block of counts for these boundaries: the header's, a count and a mark for each bucket
abbrev pub counts_for : List ℕ → ℕ
counts_for boundaries = BLOCK_HEADER + 2 * (length boundaries - 1)

-- the words of its block of counts; a sparse one has none
abbrev pub counts_size : Spec → Option ℕ
counts_size (Linear min max n) = Some (counts_for (boundaries_of (Linear min max n)))
counts_size Boolean = Some (counts_for (boundaries_of Boolean))
counts_size (Custom values) = Some (counts_for (boundaries_of (Custom values)))
counts_size Sparse = None
