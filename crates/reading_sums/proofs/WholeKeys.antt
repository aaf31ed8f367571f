-- The keys of a histogram that words read as are whole.
use Rattle.std.proofs.Common.{◌≡◌, ◌≢◌, ◌+◌, ◌<◌, ◌^◌, ℕ, ℤ, ◌<ℤ◌, pos, List, map, take, length, get_or, slice_index, sum_by, None, ap, sym, subst, ◌∙◌, arith}
use Rattle.std.specs.Ordering.{int_cmp}
use Rattle.std.specs.List.{range_with_len}
use Rattle.std.specs.List.Sorted.{IsStrictlySortedBy}
use Rattle.std.specs.declared.cmp.Ordering.TheVariants.{Less}
use Rattle.std.proofs.lemmas.Int.{ints}
use Rattle.std.proofs.lemmas.List.{get_or-take, length-take-le, get_or-map, length-map}
use Rattle.std.proofs.lemmas.List.FromFn.{fill_by_all, get_or-map-range_with_len, length-map-range_with_len}
use Rattle.std.proofs.lemmas.Map.Keys.{sorted_from_all_adjacent, Less-from_sorted}
use Rattle.std.proofs.lemmas.Simd.{map-map}
use Rattle.bucket_ranges.specs.declared.spec.Spec.{Spec}
use Rattle.bucket_ranges.specs.declared.spec.Spec.TheVariants.{Linear, Boolean, Custom, Sparse}
use Rattle.bucket_ranges.specs.Spec.{spec_fault, buckets_of}
use Rattle.bucket_ranges.specs.Ranges.{boundaries_of}
use Rattle.bucket_ranges.specs.Reading.{first_samples, sample_counts, sample_value, sample_count, by_value}
use Rattle.bucket_ranges.proofs.Ascent.{boundaries_of-split}
use Rattle.bucket_ranges.proofs.FirstSamples.{first_samples-ascend}
use Rattle.reading_sums.specs.declared.key.KeySum.{KeySum}
use Rattle.reading_sums.specs.Keys.{key_from, keys_from}
use Rattle.reading_sums.specs.Orders.{key_cmp}
use Rattle.reading_sums.specs.Whole.{IsWholeList, IsInForm, AreBuckets, lows_of, values_of, units_of}
use Rattle.reading_sums.proofs.Alone.{counts-back}
use Rattle.reading_sums.proofs.KeyOrder.{key-total, int-less}
use Rattle.reading_sums.proofs.Readable.{counts-sum}

-- the value of each count is below the next
abbrev pub Rise : List (ℤ × ℕ) → Type 0
Rise counts = (k : ℕ) (d : ℤ × ℕ) → k + 1 < length counts → int_cmp (get_or counts k d).0 (get_or counts (k + 1) d).0 ≡ Less

keys-rise : (counts : List (ℤ × ℕ)) (marks : List ℕ) → Rise counts → IsStrictlySortedBy key_cmp (keys_from counts marks)
keys-rise counts marks rise =
    let none : ℤ × ℕ = (pos 0, 0) in
    let one : KeySum = key_from counts marks 0 in
    let f : ℕ → KeySum = key_from counts marks in
    let long : length (keys_from counts marks) ≡ length counts = length-map-range_with_len f 0 (length counts) in
    sorted_from_all_adjacent key-total (keys_from counts marks) one (λ k within.
    let here : get_or (keys_from counts marks) k one ≡ f k = get_or-map-range_with_len f 0 (length counts) k k one (omega (arith, long, within)) (omega arith) in
    let next : get_or (keys_from counts marks) (k + 1) one ≡ f (k + 1) =
    get_or-map-range_with_len f 0 (length counts) (k + 1) (k + 1) one (omega (arith, long, within)) (omega arith) in
    (λ i. key_cmp (here i) (next i)) ∙ rise k none (omega (arith, long, within)))

values-back : (counts : List (ℤ × ℕ)) (marks : List ℕ) → values_of (keys_from counts marks) ≡ map (λ (count : ℤ × ℕ). count.0) counts
values-back counts marks =
    sym (map-map (λ (count : ℤ × ℕ). count.0) (λ (key : KeySum). (key.value, key.units)) (keys_from counts marks))
    ∙ ap (map (λ (count : ℤ × ℕ). count.0)) (counts-back counts marks)

units-back : (counts : List (ℤ × ℕ)) (marks : List ℕ) → units_of (keys_from counts marks) ≡ sum_by (λ (count : ℤ × ℕ). count.1) counts
units-back counts marks =
    sym (counts-sum (keys_from counts marks)) ∙ ap (sum_by (λ (count : ℤ × ℕ). count.1)) (counts-back counts marks)

-- ---- buckets

-- counts with one entry for each bucket of a spec
abbrev pub bucketed_by : (ℕ → ℕ) → Spec → List (ℤ × ℕ)
bucketed_by units spec = map (λ i. (pos (slice_index (boundaries_of spec) i), units i)) (range_with_len 0 (buckets_of spec))

pos-less : (a b : ℕ) → a < b → pos a <ℤ pos b
pos-less a b below = omega (arith, ints)

pub buckets-rise : (units : ℕ → ℕ) (spec : Spec) → spec_fault spec ≡ None → spec ≢ Sparse → Rise (bucketed_by units spec)
buckets-rise units spec lawful split = λ k d within.
    let n : ℕ = buckets_of spec in
    let f : ℕ → ℤ × ℕ = λ i. (pos (slice_index (boundaries_of spec) i), units i) in
    let splits = boundaries_of-split spec lawful split in
    let long : length (bucketed_by units spec) ≡ n = length-map-range_with_len f 0 n in
    let here : get_or (bucketed_by units spec) k d ≡ f k = get_or-map-range_with_len f 0 n k k d (omega (arith, long, within)) (omega arith) in
    let next : get_or (bucketed_by units spec) (k + 1) d ≡ f (k + 1) =
    get_or-map-range_with_len f 0 n (k + 1) (k + 1) d (omega (arith, long, within)) (omega arith) in
    let count = splits.count in
    let below : slice_index (boundaries_of spec) k < slice_index (boundaries_of spec) (k + 1) = splits.ascending k (omega (arith, long, within, count)) in
    (λ i. int_cmp (here i).0 (next i).0)
    ∙ int-less (pos (slice_index (boundaries_of spec) k)) (pos (slice_index (boundaries_of spec) (k + 1)))
    (pos-less (slice_index (boundaries_of spec) k) (slice_index (boundaries_of spec) (k + 1)) below)

pub buckets-low : (units : ℕ → ℕ) (spec : Spec) → spec_fault spec ≡ None → spec ≢ Sparse → map (λ (count : ℤ × ℕ). count.0) (bucketed_by units spec) ≡ lows_of spec
buckets-low units spec lawful split =
    let n : ℕ = buckets_of spec in
    let bounds : List ℕ = boundaries_of spec in
    let count = (boundaries_of-split spec lawful split).count in
    map-map (λ (count : ℤ × ℕ). count.0) (λ i. (pos (slice_index bounds i), units i)) (range_with_len 0 n)
    ∙ (sym (map-map pos (slice_index bounds) (range_with_len 0 n))
    ∙ sym (ap (map pos) (fill_by_all (slice_index bounds) (take n bounds) n 0 (length-take-le n bounds (omega (arith, count)))
    (λ k within. get_or-take n bounds k 0 within))))

-- ---- samples

pub samples-rise : (words samples : List ℕ) (reference : ℕ) → Rise (sample_counts words (first_samples words samples reference))
samples-rise words samples reference = λ k d within.
    let firsts : List ℕ = first_samples words samples reference in
    let f : ℕ → ℤ × ℕ = λ sample. (sample_value words sample, sample_count words sample) in
    let long : length (map f firsts) ≡ length firsts = length-map firsts f in
    let here : get_or (map f firsts) k d ≡ f (get_or firsts k 0) = get_or-map f firsts k 0 d (omega (arith, long, within)) in
    let next : get_or (map f firsts) (k + 1) d ≡ f (get_or firsts (k + 1) 0) = get_or-map f firsts (k + 1) 0 d (omega (arith, long, within)) in
    (λ i. int_cmp (here i).0 (next i).0)
    ∙ Less-from_sorted (by_value words) firsts k (k + 1) 0 (first_samples-ascend words samples reference) (omega arith) (omega (arith, long, within))

-- ---- either

are-buckets : (spec : Spec) (keys : List KeySum) → (spec ≢ Sparse → values_of keys ≡ lows_of spec) → AreBuckets spec keys
are-buckets (Linear min max n) keys are = are (λ e. absurd (cc))
are-buckets Boolean keys are = are (λ e. absurd (cc))
are-buckets (Custom values) keys are = are (λ e. absurd (cc))
are-buckets Sparse keys are = tt

pub whole-list : (spec : Spec) (counts : List (ℤ × ℕ)) (marks : List ℕ) → spec_fault spec ≡ None → IsInForm spec → Rise counts
    → (spec ≢ Sparse → map (λ (count : ℤ × ℕ). count.0) counts ≡ lows_of spec) → sum_by (λ (count : ℤ × ℕ). count.1) counts < 2 ^ 64
    → IsWholeList spec (keys_from counts marks)
whole-list spec counts marks lawful form rise lows small = record {
  lawful = lawful;
  form = form;
  ascending = keys-rise counts marks rise;
  buckets = are-buckets spec (keys_from counts marks) (λ split. values-back counts marks ∙ lows split);
  small = subst (λ (n : ℕ). n < 2 ^ 64) (sym (units-back counts marks)) small;
}
