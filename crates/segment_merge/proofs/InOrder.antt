-- A reading of words is in order: each name is there once, and the keys of each histogram ascend.
use Rattle.std.proofs.Common.{◌≡◌, ◌≢◌, ◌∙◌, Bool, true, false, not, ◌==◌, if◌then◌else◌, ℕ, zero, suc, ◌+◌, ◌-◌, ◌<◌, ℤ, pos, ◌<ℤ◌, List, [], ◌∷◌, map, length, get_or, slice_index, None, inl, inr, refl, ap, sym, subst, arith}
use Rattle.std.specs.Str.{bytes_eq}
use Rattle.std.specs.List.{AllPairs, filter, range_with_len}
use Rattle.std.specs.Ordering.{int_cmp}
use Rattle.std.specs.declared.cmp.Ordering.TheVariants.{Less}
use mathlib.Core.Option.{some}
use lib.ListN.{get_elem?}
use Rattle.std.proofs.lemmas.Bool.{cases_lt, not-true}
use Rattle.std.proofs.lemmas.Cmp.{int_ranked}
use Rattle.std.proofs.lemmas.Int.{ints}
use Rattle.std.proofs.lemmas.List.{get_or-map, length-map}
use Rattle.std.proofs.lemmas.List.Elements.{All-map, filter_passes}
use Rattle.std.proofs.lemmas.List.FromFn.{get_or-map-range_with_len, length-map-range_with_len}
use Rattle.std.proofs.lemmas.List.Kept.{AllPairs-cons, AllPairs-filter}
use Rattle.std.proofs.lemmas.Map.Keys.{Less-from_sorted}
use Rattle.segment_image.specs.Blocks.{field_at}
use Rattle.segment_image.specs.declared.head.SegmentHead.{SegmentHead}
use Rattle.bucket_ranges.specs.declared.spec.Spec.{Spec}
use Rattle.bucket_ranges.specs.declared.spec.Spec.TheVariants.{Linear, Boolean, Custom, Sparse}
use Rattle.bucket_ranges.specs.Spec.{spec_fault, buckets_of}
use Rattle.bucket_ranges.specs.Ranges.{boundaries_of}
use Rattle.bucket_ranges.specs.Reading.{Histogram, Reading, inner_ranges, spec_of, is_sparse, histogram_of, read_records, lawful_records, lawful_samples, first_of_each, same_name, name_of, first_samples, sample_counts, sample_value, sample_count, bucket_counts, by_value, total_of}
use Rattle.bucket_ranges.proofs.Ascent.{boundaries_of-split}
use Rattle.bucket_ranges.proofs.FirstSamples.{first_samples-ascend}
use Rattle.image_reader.proofs.Lawful.{read_records-lawful}
use Rattle.image_reader.proofs.Readables.{head_within, hist_readable}
use Rattle.segment_invariant.proofs.Prelude.Std.{bytes_eq-Decides}
use Rattle.list_lemmas.proofs.Elements.{below_length, from_map, index_at}
use Rattle.segment_merge.specs.Marks.{AreAscending, count_at}
use Rattle.segment_merge.specs.Noted.{IsReadingInOrder, WordsAreInOrder}

-- ---- names

-- the first of each group of equals are not equal
firsts_apart : {X : Type 0} (same : X → X → Bool) (xs : List X) → AllPairs (λ a b. same a b ≡ false) (first_of_each same xs)
firsts_apart same [] = λ i j d below within. absurd (omega (arith, within))
firsts_apart same (x ∷ xs) =
    let firsts = first_of_each same xs in
    let others = filter (λ y. not (same x y)) firsts in
    AllPairs-cons (λ a b. same a b ≡ false) x others
    (λ k d h. not-true (same x (get_or others k d)) (filter_passes (λ y. not (same x y)) firsts k d h))
    (AllPairs-filter (λ a b. same a b ≡ false) (λ y. not (same x y)) firsts (firsts_apart same xs))

-- two records that are read have two names
names_apart : (words : List ℕ) (head : SegmentHead) (references : List ℕ) (i j x y : ℕ) → i < j → get_elem? (read_records words head references) i ≡ some x
    → get_elem? (read_records words head references) j ≡ some y → name_of words x ≡ name_of words y → ⊥
names_apart words head references i j x y less at_x at_y same =
    let records : List ℕ = read_records words head references in
    let apart : same_name words (get_or records i x) (get_or records j x) ≡ false =
    firsts_apart (same_name words) (lawful_records words head references) i j x less (below_length records j y at_y) in
    let its : bytes_eq (name_of words y) (name_of words x) ≡ false =
    (λ k. bytes_eq (name_of words (sym (index_at records j y x at_y) k)) (name_of words (sym (index_at records i x x at_x) k))) ∙ apart in
    let equal : bytes_eq (name_of words y) (name_of words x) ≡ true = (bytes_eq-Decides (name_of words y) (name_of words x)).1 (sym same) in
    absurd (cc (its, equal))

-- ---- keys

-- each key is before the next
abbrev Rises : List (ℤ × ℕ) → Type 0
Rises counts = (k : ℕ) → k + 1 < length counts → (count_at counts k).0 <ℤ (count_at counts (k + 1)).0

rises_far : (counts : List (ℤ × ℕ)) → Rises counts → (n i j : ℕ) → j ≡ i + suc n → j < length counts → (count_at counts i).0 <ℤ (count_at counts j).0
rises_far counts rise zero i j far within =
    let next : j ≡ i + 1 = omega (arith, far) in
    subst (λ (k : ℕ). (count_at counts i).0 <ℤ (count_at counts k).0) (sym next) (rise i (omega (arith, within, next)))
rises_far counts rise (suc n) i j far within =
    let before : ℕ = i + suc n in
    let next : j ≡ before + 1 = omega (arith, far) in
    let first = rises_far counts rise n i before refl (omega (arith, within, next)) in
    let last = rise before (omega (arith, within, next)) in
    subst (λ (k : ℕ). (count_at counts i).0 <ℤ (count_at counts k).0) (sym next) (omega (arith, ints, first, last))

ascending : (counts : List (ℤ × ℕ)) → Rises counts → AreAscending counts
ascending counts rise i j less within = rises_far counts rise (j - suc i) i j (omega (arith, less)) within

-- the boundaries of a valid spec ascend
buckets_rise : (units : ℕ → ℕ) (spec : Spec) → spec_fault spec ≡ None → spec ≢ Sparse
    → Rises (map (λ i. (pos (slice_index (boundaries_of spec) i), units i)) (range_with_len 0 (buckets_of spec)))
buckets_rise units spec lawful split = λ k within.
    let n : ℕ = buckets_of spec in
    let d : ℤ × ℕ = (pos 0, 0) in
    let f : ℕ → ℤ × ℕ = λ i. (pos (slice_index (boundaries_of spec) i), units i) in
    let splits = boundaries_of-split spec lawful split in
    let long : length (map f (range_with_len 0 n)) ≡ n = length-map-range_with_len f 0 n in
    let here : get_or (map f (range_with_len 0 n)) k d ≡ f k = get_or-map-range_with_len f 0 n k k d (omega (arith, long, within)) (omega arith) in
    let next : get_or (map f (range_with_len 0 n)) (k + 1) d ≡ f (k + 1) =
    get_or-map-range_with_len f 0 n (k + 1) (k + 1) d (omega (arith, long, within)) (omega arith) in
    let count = splits.count in
    let below : slice_index (boundaries_of spec) k < slice_index (boundaries_of spec) (k + 1) = splits.ascending k (omega (arith, long, within, count)) in
    let less : pos (slice_index (boundaries_of spec) k) <ℤ pos (slice_index (boundaries_of spec) (k + 1)) = omega (arith, ints, below) in
    subst (λ (both : ℤ × ℤ). both.0 <ℤ both.1) (λ i. ((sym here i).0, (sym next i).0)) less

-- samples come by their values
samples_rise : (words samples : List ℕ) (reference : ℕ) → Rises (sample_counts words (first_samples words samples reference))
samples_rise words samples reference = λ k within.
    let firsts : List ℕ = first_samples words samples reference in
    let d : ℤ × ℕ = (pos 0, 0) in
    let f : ℕ → ℤ × ℕ = λ sample. (sample_value words sample, sample_count words sample) in
    let long : length (map f firsts) ≡ length firsts = length-map firsts f in
    let here : get_or (map f firsts) k d ≡ f (get_or firsts k 0) = get_or-map f firsts k 0 d (omega (arith, long, within)) in
    let next : get_or (map f firsts) (k + 1) d ≡ f (get_or firsts (k + 1) 0) = get_or-map f firsts (k + 1) 0 d (omega (arith, long, within)) in
    let order : int_cmp (sample_value words (get_or firsts k 0)) (sample_value words (get_or firsts (k + 1) 0)) ≡ Less =
    Less-from_sorted (by_value words) firsts k (k + 1) 0 (first_samples-ascend words samples reference) (omega arith) (omega (arith, long, within)) in
    let less = int_ranked (sample_value words (get_or firsts k 0)) (sample_value words (get_or firsts (k + 1) 0)) Less (sym order) in
    subst (λ (both : ℤ × ℤ). both.0 <ℤ both.1) (λ i. ((sym here i).0, (sym next i).0)) less

-- a spec with buckets is not sparse
ranged : (custom boolean : Bool) (inner : List ℕ) (min max n : ℕ) → (if custom then Custom inner else (if boolean then Boolean else Linear min max n)) ≢ Sparse
ranged true boolean inner min max n e = absurd (cc)
ranged false true inner min max n e = absurd (cc)
ranged false false inner min max n e = absurd (cc)

either_ascends : (sparse : Bool) (other : Spec) (sampled bucketed : List (ℤ × ℕ)) → other ≢ Sparse → spec_fault (if sparse then Sparse else other) ≡ None
    → Rises sampled → (spec_fault (if sparse then Sparse else other) ≡ None → (if sparse then Sparse else other) ≢ Sparse → Rises bucketed)
    → AreAscending (if sparse then sampled else bucketed)
either_ascends true other sampled bucketed split lawful rise buckets = ascending sampled rise
either_ascends false other sampled bucketed split lawful rise buckets = ascending bucketed (buckets lawful split)

keys_ascend : (words : List ℕ) (head : SegmentHead) (samples : List ℕ) (reference : ℕ) → spec_fault (spec_of words reference) ≡ None
    → AreAscending (histogram_of head.version words samples reference).counts
keys_ascend words head samples reference lawful =
    let kind = field_at words reference 4 in
    either_ascends (is_sparse words reference) _ (sample_counts words (first_samples words samples reference)) (bucket_counts head.version words reference)
    (ranged (kind == 3) (kind == 2) (inner_ranges words reference) (field_at words reference 5) (field_at words reference 6) (field_at words reference 7))
    lawful (samples_rise words samples reference) (buckets_rise (total_of head.version words reference) (spec_of words reference))

-- ---- readings

pub words_in_order : WordsAreInOrder
words_in_order words head reading opened is =
    let references : List ℕ = is.0 in
    let samples : List ℕ = lawful_samples words head references in
    let made : ℕ → Histogram = histogram_of head.version words samples in
    let records : List ℕ = read_records words head references in
    let hists : reading.hists ≡ map made records = ap (λ (r : Reading). r.hists) is.2 in
    subst IsReadingInOrder (sym hists) (record {
      once = λ i j g h ne at_g at_h same.
          let (x, at_x, is_x) = from_map made records i g at_g in
          let (y, at_y, is_y) = from_map made records j h at_h in
          let names : name_of words x ≡ name_of words y =
          ap (λ (it : Histogram). it.name) is_x ∙ (same ∙ sym (ap (λ (it : Histogram). it.name) is_y)) in
          elim (cases_lt i j) [
            | inl less ↦ names_apart words head references i j x y less at_x at_y names
            | inr past ↦ names_apart words head references j i y x (omega (arith, past, ne)) at_y at_x (sym names)
          ];
      keys = All-map (λ (it : Histogram). AreAscending it.counts) made records (λ k d h.
          keys_ascend words head samples (get_or records k d)
          (hist_readable words head references (get_or records k d) (head_within words head opened) is.1 (read_records-lawful words head references k d h)).lawful);
    })
