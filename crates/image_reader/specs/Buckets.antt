-- The buckets of a record, as the reader holds them: where they are.
use Rattle.std.specs.Prelude.{◌≡◌, ◌<◌, ◌≤◌, ◌+◌, ℕ, List, length}
use Rattle.bucket_ranges.specs.declared.limits.TheConstants.{MAX_BUCKETS}
use Rattle.bucket_ranges.specs.Reading.{record_buckets, record_single, record_counts, record_single_mark, counts_words}
use Rattle.image_reader.specs.declared.buckets.Buckets.{Buckets}

-- these are the buckets of the record at a reference in a version
pub record AreBucketsAt (version : ℕ) (words : List ℕ) (at : ℕ) (buckets : Buckets) : Type 0 where
  pub version_is : buckets.version ≡ version
  pub number : buckets.number ≡ record_buckets words at
  pub few : buckets.number ≤ MAX_BUCKETS
  pub counts : buckets.counts ≡ record_counts words at
  pub single : buckets.single ≡ record_single version words at
  pub single_mark : buckets.single_mark ≡ record_single_mark words at

-- if there is a block of counts, the counts and the marks lie in the words
abbrev pub IsRoomFor : List ℕ → Buckets → Type 0
IsRoomFor words buckets = 0 < buckets.counts → buckets.counts + counts_words buckets.number ≤ length words
