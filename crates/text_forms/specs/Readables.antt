-- That a histogram has as many counts as buckets can be shown in one way at most.
use Rattle.std.specs.Prelude.{ℕ}
use Rattle.std.specs.Coded.{Coded-set, coded_ℕ, Unit-prop}
use Rattle.bucket_ranges.specs.declared.spec.Spec.{Spec}
use Rattle.bucket_ranges.specs.declared.spec.Spec.TheVariants.{Linear, Boolean, Custom, Sparse}
use Rattle.bucket_ranges.specs.Spec.{buckets_of}
use Rattle.image_reader.specs.Readable.{IsOnePerBucket}

pub one_per_bucket_prop : (spec : Spec) (counts : ℕ) → IsProp (IsOnePerBucket spec counts)
one_per_bucket_prop (Linear min max n) counts = Coded-set coded_ℕ counts (buckets_of (Linear min max n))
one_per_bucket_prop Boolean counts = Coded-set coded_ℕ counts (buckets_of Boolean)
one_per_bucket_prop (Custom values) counts = Coded-set coded_ℕ counts (buckets_of (Custom values))
one_per_bucket_prop Sparse counts = Unit-prop
