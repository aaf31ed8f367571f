-- Whole histograms are readable.
use Rattle.std.proofs.Common.{◌≡◌, ◌≢◌, ◌<◌, ◌+◌, ◌^◌, ℕ, ℤ, pos, List, [], ◌∷◌, length, take, sum_by, None, refl, ap, sym, subst, ◌∙◌, arith}
use Rattle.std.proofs.lemmas.List.{length-map, length-take-le}
use Rattle.std.proofs.lemmas.List.Sums.{sum_by-cons}
use Rattle.bucket_ranges.specs.declared.spec.Spec.{Spec}
use Rattle.bucket_ranges.specs.declared.spec.Spec.TheVariants.{Linear, Boolean, Custom, Sparse}
use Rattle.bucket_ranges.specs.Spec.{spec_fault, buckets_of}
use Rattle.bucket_ranges.specs.Ranges.{boundaries_of}
use Rattle.bucket_ranges.proofs.Ascent.{boundaries_of-split}
use Rattle.image_reader.specs.Readable.{IsReadable, IsOnePerBucket}
use Rattle.reading_sums.specs.declared.key.KeySum.{KeySum}
use Rattle.reading_sums.specs.Shown.{counts_of, shown_at}
use Rattle.reading_sums.specs.Totals.{Part}
use Rattle.reading_sums.specs.Whole.{IsWholeList, AreBuckets, lows_of, values_of, units_of}

lows-length : (spec : Spec) → spec_fault spec ≡ None → spec ≢ Sparse → length (lows_of spec) ≡ buckets_of spec
lows-length spec lawful split =
    let count = (boundaries_of-split spec lawful split).count in
    length-map (take (buckets_of spec) (boundaries_of spec)) pos
    ∙ length-take-le (buckets_of spec) (boundaries_of spec) (omega (arith, count))

counts-length : (keys : List KeySum) → length (counts_of keys) ≡ length (values_of keys)
counts-length keys = length-map keys (λ (key : KeySum). (key.value, key.units)) ∙ sym (length-map keys (λ (key : KeySum). key.value))

counted : (spec : Spec) (keys : List KeySum) → spec_fault spec ≡ None → AreBuckets spec keys → IsOnePerBucket spec (length (counts_of keys))
counted (Linear min max n) keys lawful buckets =
    counts-length keys ∙ (ap length buckets ∙ lows-length (Linear min max n) lawful (λ e. absurd (cc)))
counted Boolean keys lawful buckets = counts-length keys ∙ (ap length buckets ∙ lows-length Boolean lawful (λ e. absurd (cc)))
counted (Custom values) keys lawful buckets =
    counts-length keys ∙ (ap length buckets ∙ lows-length (Custom values) lawful (λ e. absurd (cc)))
counted Sparse keys lawful buckets = tt

pub counts-sum : (keys : List KeySum) → sum_by (λ (count : ℤ × ℕ). count.1) (counts_of keys) ≡ units_of keys
counts-sum [] = refl
counts-sum (key ∷ rest) =
    sum_by-cons (λ (count : ℤ × ℕ). count.1) (key.value, key.units) (counts_of rest)
    ∙ (ap (λ n. key.units + n) (counts-sum rest) ∙ sym (sum_by-cons (λ (key : KeySum). key.units) key rest))

pub shown-readable : (index : ℕ) (part : Part) → IsWholeList part.spec part.keys → IsReadable (shown_at index part)
shown-readable index part whole = record {
  lawful = whole.lawful;
  counted = counted part.spec part.keys whole.lawful whole.buckets;
  small = subst (λ (n : ℕ). n < 2 ^ 64) (sym (counts-sum part.keys)) whole.small;
}
