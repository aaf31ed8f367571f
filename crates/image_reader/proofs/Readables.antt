-- Each histogram that is read is readable.
use Rattle.std.proofs.Common.{◌≡◌, ℕ, ◌+◌, ◌*◌, ◌^◌, ◌<◌, ◌≤◌, Bool, true, false, not, ◌||◌, ◌&&◌, ◌==◌, List, length, None, Ok, ap, All, ℤ, lit<, sum_by, arith, if◌then◌else◌}
use Rattle.std.specs.Prelude.{nat_lt, nat_le, ◌%◌}
use Rattle.std.proofs.lemmas.Bool.{ltb-false, not-false, or_parts, and_parts, leb-true}
use Rattle.std.proofs.lemmas.List.FromFn.{length-map-range_with_len}
use Rattle.std.proofs.lemmas.List.Sums.{sum_by-le}
use Rattle.segment_image.specs.Words.{word_at}
use Rattle.segment_image.specs.Shape.{is_size}
use Rattle.segment_image.specs.Head.{header_of, header_checks, head_of}
use Rattle.segment_image.specs.Blocks.{field_at}
use Rattle.image_reader.proofs.Headers.{checked_ok}
use Rattle.segment_image.specs.declared.head.SegmentHead.{SegmentHead}
use Rattle.bucket_ranges.specs.declared.spec.Spec.{Spec}
use Rattle.bucket_ranges.specs.declared.spec.Spec.TheVariants.{Linear, Boolean, Custom, Sparse}
use Rattle.bucket_ranges.proofs.Ascent.{is_linear-from_checks}
use Rattle.bucket_ranges.proofs.Customs.{is_custom-from_checks, length-distinct}
use Rattle.bucket_ranges.proofs.Named.{named-lawful}
use Rattle.bucket_ranges.proofs.Walks.{IsWalk-length}
use Rattle.bucket_ranges.specs.declared.reading.RecordFault.TheVariants.{BadSpec}
use Rattle.bucket_ranges.specs.Spec.{spec_fault, buckets_of}
use Rattle.bucket_ranges.specs.Reading.{IsListed, histogram_of, lawful_samples, first_samples, bucket_counts, sample_counts, is_sparse, is_bad_counts, has_large, inner_ranges, record_fault, has_spec, spec_of, totals_of, record_buckets, record_checks, has_counts}
use Rattle.image_reader.specs.Readable.{IsOnePerBucket, IsReadable}
use Rattle.image_reader.specs.Survey.{hist_at}
use Rattle.image_reader.proofs.Lawful.{IsSmallSample, all_pass, bucket_at, bucket_counts-small, lawful_samples-few, lawful_samples-small, sample_counts-few, sample_counts-small}

-- a valid spec has at most 1,000 buckets
few_buckets : (spec : Spec) → spec_fault spec ≡ None → buckets_of spec ≤ 1000
few_buckets (Linear min max n) e = (is_linear-from_checks min max n e).many
few_buckets Boolean e = omega arith
few_buckets (Custom values) e = omega (arith, (is_custom-from_checks values e).few, length-distinct values)
few_buckets Sparse e = omega arith

-- what the checks of a record say once they pass
pub record_lawful : (words : List ℕ) (head : SegmentHead) (reference : ℕ) → record_fault words head reference ≡ None
    → (has_spec words reference ≡ true) × (is_bad_counts words head reference ≡ false)
record_lawful words head reference e =
    let passes = all_pass (record_checks words head reference) e in
    let spec : (not (has_spec words reference) || nat_lt head.shape.page (4 + 2 * record_buckets words reference)) ≡ false = passes 2 (false, BadSpec) (lit< tt) in
    let counts : is_bad_counts words head reference ≡ false = passes 3 (false, BadSpec) (lit< tt) in
    (not-false (has_spec words reference) (or_parts _ _ spec).0, counts)

-- the spec of a valid record is valid
spec_lawful : (words : List ℕ) (reference : ℕ) → has_spec words reference ≡ true → spec_fault (spec_of words reference) ≡ None
spec_lawful words reference e =
    named-lawful (field_at words reference 4) (field_at words reference 5) (field_at words reference 6) (field_at words reference 7)
    (inner_ranges words reference) (and_parts _ _ e).1

-- as many counts as there are buckets
counted-from : (spec : Spec) (n : ℕ) → n ≡ buckets_of spec → IsOnePerBucket spec n
counted-from (Linear min max m) n e = e
counted-from Boolean n e = e
counted-from (Custom values) n e = e
counted-from Sparse n e = tt

-- counts that are small, and not too many, add up to less than a word can hold
small_sum : (counts : List (ℤ × ℕ)) → length counts ≤ 1048576 → All (λ count. count.1 ≤ 4294967295) counts
    → sum_by (λ count. count.1) counts < 2 ^ 64
small_sum counts few below =
    let units : sum_by (λ count. count.1) counts ≤ length counts * 4294967295 = sum_by-le (λ count. count.1) 4294967295 counts below in
    omega (arith, few, units)

-- counts are few and small
record AreSmall (counts : List (ℤ × ℕ)) : Type 0 where
  few : length counts ≤ 1048576
  below : All (λ count. count.1 ≤ 4294967295) counts

-- the counts of a histogram, of samples or of buckets
of_either : (sparse : Bool) (other : Spec) (sampled bucketed : List (ℤ × ℕ)) (a b : Bool) → (if sparse then a else b) ≡ false
    → AreSmall sampled → (b ≡ false → AreSmall bucketed) → length bucketed ≡ buckets_of (if sparse then Sparse else other)
    → IsOnePerBucket (if sparse then Sparse else other) (length (if sparse then sampled else bucketed)) × AreSmall (if sparse then sampled else bucketed)
of_either true other sampled bucketed a b e first second counted = (tt, first)
of_either false other sampled bucketed a b e first second counted = (counted-from other (length bucketed) counted, second e)

-- the counts of the samples of a histogram
sampled-small : (words samples : List ℕ) (reference : ℕ) → length samples ≤ 1048576 → All (IsSmallSample words) samples
    → AreSmall (sample_counts words (first_samples words samples reference))
sampled-small words samples reference few small =
    let fewer = sample_counts-few words samples reference in
    record { few = omega (arith, few, fewer); below = sample_counts-small words samples reference small }

-- the histogram of a valid record, if the samples are small and not too many
record_readable : (words : List ℕ) (head : SegmentHead) (samples : List ℕ) (reference : ℕ) → length samples ≤ 1048576
    → All (IsSmallSample words) samples → record_fault words head reference ≡ None → IsReadable (histogram_of head.version words samples reference)
record_readable words head samples reference few small e =
    let (named, counts) = record_lawful words head reference e in
    let spec = spec_lawful words reference named in
    let many : record_buckets words reference ≤ 1000 = few_buckets (spec_of words reference) spec in
    let buckets : length (bucket_counts head.version words reference) ≡ record_buckets words reference =
    length-map-range_with_len (bucket_at head.version words reference) 0 (record_buckets words reference) in
    let (counted, both) = of_either (is_sparse words reference) _ (sample_counts words (first_samples words samples reference)) (bucket_counts head.version words reference)
    (not ((field_at words reference 8 == 0) && (field_at words reference 9 == 0) && (field_at words reference 10 == 0)))
    (not (has_counts words head reference) || has_large (totals_of head.version words reference)) counts
    (sampled-small words samples reference few small)
    (λ passed. record { few = omega (arith, buckets, many); below = bucket_counts-small head.version words reference (or_parts _ _ passed).1 })
    buckets in
    record { lawful = spec; counted = counted; small = small_sum _ both.few both.below }

-- the samples of a list are few
listed_few : (words : List ℕ) (head : SegmentHead) (references : List ℕ) → head.free ≤ 1048576 → IsListed words head references
    → length (lawful_samples words head references) ≤ 1048576
listed_few words head references within listed =
    omega (arith, within, IsWalk-length words head references listed.walk, lawful_samples-few words head references)

-- a histogram that is read from a list is readable
pub hist_readable : (words : List ℕ) (head : SegmentHead) (references : List ℕ) (at : ℕ) → head.free ≤ 1048576 → IsListed words head references
    → record_fault words head at ≡ None → IsReadable (hist_at words head references at)
hist_readable words head references at within listed none =
    record_readable words head (lawful_samples words head references) at (listed_few words head references within listed)
    (lawful_samples-small words head references) none

-- and its values are few
pub values_few : (words : List ℕ) (head : SegmentHead) (references : List ℕ) (at : ℕ) → head.free ≤ 1048576 → IsListed words head references
    → length (sample_counts words (first_samples words (lawful_samples words head references) at)) ≤ 1048576
values_few words head references at within listed =
    omega (arith, listed_few words head references within listed, sample_counts-few words (lawful_samples words head references) at)

-- the free pointer of a valid header is at most the size of the largest segment
pub head_within : (words : List ℕ) (head : SegmentHead) → header_of words ≡ Ok head → head.free ≤ 1048576
head_within words head e =
    let passed = checked_ok (header_checks words) (head_of words) head e in
    let p = passed.0 in
    let sized : is_size (word_at words 2) (word_at words 3) ≡ true = not-false (is_size (word_at words 2) (word_at words 3))
    (or_parts (not (word_at words 2 == length words)) (not (is_size (word_at words 2) (word_at words 3))) p.1.1.1.1.0).1 in
    let most : word_at words 2 ≤ 1048576 = leb-true (word_at words 2) 1048576
    (and_parts (nat_le (word_at words 3) (word_at words 2)) (nat_le (word_at words 2) 1048576)
    (and_parts _ (word_at words 2 % word_at words 3 == 0) sized).0).1 in
    let free : word_at words 7 ≤ word_at words 2 = ltb-false (word_at words 2) (word_at words 7)
    (or_parts (nat_lt (word_at words 7) 16) (nat_lt (word_at words 2) (word_at words 7)) p.1.1.1.1.1.1.1.0).1 in
    let same : (head_of words).free ≡ head.free = ap (λ (h : SegmentHead). h.free) passed.1 in
    omega (arith, most, free, same)
