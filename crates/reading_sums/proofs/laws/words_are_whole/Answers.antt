-- Records without a fault are whole, and counts and marks are made of the same samples, or of the same buckets.
use Rattle.std.proofs.Common.{◌≡◌, Bool, true, false, if◌then◌else◌, ℕ, ℤ, List, map, length, ap, sym, subst, ◌∙◌}
use Rattle.std.specs.List.{All}
use Rattle.std.proofs.lemmas.List.{length-map}
use Rattle.std.proofs.lemmas.List.Elements.{All-map}
use Rattle.std.proofs.lemmas.List.FromFn.{length-map-range_with_len}
use Rattle.bucket_ranges.specs.Record.{record_buckets, is_sparse}
use Rattle.bucket_ranges.specs.Reading.{Histogram, Reading, histogram_of, read_records, lawful_samples, first_samples, sample_counts, sample_marks, bucket_counts, bucket_marks}
use Rattle.reading_sums.specs.Alone.{HasItsMarks}
use Rattle.reading_sums.proofs.WholeWords.{words-whole}
use Rattle.reading_sums.proofs.laws.words_are_whole.Goals as goal

as-long : (sparse : Bool) (sampled bucketed : List ℕ) (values ranged : List (ℤ × ℕ)) → length sampled ≡ length values → length bucketed ≡ length ranged
    → length (if sparse then sampled else bucketed) ≡ length (if sparse then values else ranged)
as-long true sampled bucketed values ranged one other = one
as-long false sampled bucketed values ranged one other = other

has-marks : (version : ℕ) (words samples : List ℕ) (reference : ℕ) → HasItsMarks (histogram_of version words samples reference)
has-marks version words samples reference =
    let firsts : List ℕ = first_samples words samples reference in
    as-long (is_sparse words reference) (sample_marks words firsts) (bucket_marks version words reference)
    (sample_counts words firsts) (bucket_counts version words reference)
    (length-map firsts _ ∙ sym (length-map firsts _))
    (length-map-range_with_len _ 0 (record_buckets words reference) ∙ sym (length-map-range_with_len _ 0 (record_buckets words reference)))

pub returns-clause-whole : goal.returns-clause-whole
returns-clause-whole c = words-whole

pub returns-clause-marks : goal.returns-clause-marks
returns-clause-marks c = λ words head reading opened is.
    let made : ℕ → Histogram = histogram_of head.version words (lawful_samples words head is.0) in
    let records : List ℕ = read_records words head is.0 in
    let hists : reading.hists ≡ map made records = ap (λ (r : Reading). r.hists) is.2 in
    subst (All HasItsMarks) (sym hists)
    (All-map HasItsMarks made records (λ k d h. has-marks head.version words (lawful_samples words head is.0) _))
