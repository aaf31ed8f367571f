-- How many keys a reading has.
use Rattle.std.specs.Prelude.{◌≡◌, Bool, ℕ, List, length, nat_lt, sum_by}
use Rattle.segment_image.specs.declared.head.SegmentHead.{SegmentHead}
use Rattle.bucket_ranges.specs.Reading.{IsReading, Reading}

-- the buckets of its histograms, and the values of the sparse ones
abbrev pub keys_of : Reading → ℕ
keys_of reading = sum_by (λ hist. length hist.counts) reading.hists

-- whether what the words read as has more keys than a number
abbrev pub HasMoreKeys : List ℕ → SegmentHead → ℕ → Bool → Type 0
HasMoreKeys words head most more = (reading : Reading) × IsReading words head reading × (more ≡ nat_lt most (keys_of reading))
