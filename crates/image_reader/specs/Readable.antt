-- What holds of every histogram that is read.
use Rattle.std.specs.Prelude.{◌≡◌, ℕ, ◌<◌, ◌^◌, length, sum_by, None, ⊤}
use Rattle.bucket_ranges.specs.declared.spec.Spec.{Spec}
use Rattle.bucket_ranges.specs.declared.spec.Spec.TheVariants.{Sparse}
use Rattle.bucket_ranges.specs.Spec.{spec_fault, buckets_of}
use Rattle.bucket_ranges.specs.Reading.{Histogram}

-- as many counts as buckets, unless the spec is sparse
abbrev pub IsOnePerBucket : Spec → ℕ → Type 0
IsOnePerBucket Sparse counts = ⊤
IsOnePerBucket spec counts = counts ≡ buckets_of spec

-- its spec is valid, each bucket has its count, and the units fit a word
pub record IsReadable (hist : Histogram) : Type 0 where
  pub lawful : spec_fault hist.spec ≡ None
  pub counted : IsOnePerBucket hist.spec (length hist.counts)
  pub small : sum_by (λ count. count.1) hist.counts < 2 ^ 64
