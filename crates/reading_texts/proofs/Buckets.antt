-- The buckets of a valid spec and their boundaries.
use Rattle.std.proofs.Common.{◌≡◌, ◌≢◌, ◌∙◌, map, ℕ, ◌+◌, ◌<◌, List, length, None, ap, refl, arith}
use Rattle.std.proofs.Common.{ℤ, pos, get_or, drop, sym, All, false, ◌≤ℤ◌, rules}
use Rattle.std.proofs.lemmas.Grind.{get_or_after_one}
use Rattle.reading_texts.specs.Rows.{highs_of, row_at, rows_of}
use Rattle.reading_texts.specs.Exporting.{is_sparse}
use Rattle.bucket_ranges.specs.Reading.{Histogram}
use Rattle.std.proofs.lemmas.List.FromFn.{get_or-map-range_with_len, length-map-range_with_len}
use Rattle.image_reader.specs.Readable.{IsOnePerBucket, IsReadable}
use Rattle.std.specs.Prelude.{◌+ℤ◌}
use Rattle.std.proofs.lemmas.List.{length-drop, length-map, get_or-map}
use Rattle.bucket_ranges.specs.declared.spec.Spec.{Spec}
use Rattle.bucket_ranges.specs.declared.spec.Spec.TheVariants.{Linear, Boolean, Custom, Sparse}
use Rattle.bucket_ranges.specs.Spec.{spec_fault, buckets_of}
use Rattle.bucket_ranges.specs.Ranges.{boundaries_of}
use Rattle.bucket_ranges.proofs.Ascent.{boundaries_of-split}

-- the boundaries are one more than the buckets, if there are buckets
length-boundaries_of : (spec : Spec) → spec_fault spec ≡ None → spec ≢ Sparse → length (boundaries_of spec) ≡ buckets_of spec + 1
length-boundaries_of spec e ne = (boundaries_of-split spec e ne).count

-- there are `n` boundaries after `n` buckets
length-behind : (boundaries : List ℕ) (n : ℕ) → length boundaries ≡ n + 1 → length (map pos (drop 1 boundaries)) ≡ n
length-behind boundaries n e = omega (arith, length-map (drop 1 boundaries) pos, length-drop 1 boundaries, e)

-- as many as the counts
pub length-highs : (spec : Spec) (counts : List (ℤ × ℕ)) → spec_fault spec ≡ None → IsOnePerBucket spec (length counts)
    → length (highs_of spec counts) ≡ length counts
length-highs (Linear min max n) counts lawful counted =
    length-behind (boundaries_of (Linear min max n)) n (length-boundaries_of (Linear min max n) lawful (λ same. absurd (cc))) ∙ sym counted
length-highs Boolean counts lawful counted = length-behind (boundaries_of Boolean) 3 (length-boundaries_of Boolean lawful (λ same. absurd (cc))) ∙ sym counted
length-highs (Custom values) counts lawful counted =
    length-behind (boundaries_of (Custom values)) (buckets_of (Custom values)) (length-boundaries_of (Custom values) lawful (λ same. absurd (cc))) ∙ sym counted
length-highs Sparse counts lawful counted = length-map counts (λ (count : ℤ × ℕ). count.0 +ℤ pos 1)

-- the boundaries after buckets are all but the first boundary
highs_of-boundaries : (spec : Spec) (counts : List (ℤ × ℕ)) → (spec ≡ Sparse → ⊥) → highs_of spec counts ≡ map pos (drop 1 (boundaries_of spec))
highs_of-boundaries (Linear min max n) counts ne = refl
highs_of-boundaries Boolean counts ne = refl
highs_of-boundaries (Custom values) counts ne = refl
highs_of-boundaries Sparse counts ne = absurd (ne refl)

pub bucket_behind : (spec : Spec) (counts : List (ℤ × ℕ)) (i : ℕ) → (spec ≡ Sparse → ⊥) → i + 1 < length (boundaries_of spec)
    → get_or (highs_of spec counts) i (pos 0) ≡ pos (get_or (boundaries_of spec) (i + 1) 0)
bucket_behind spec counts i ne within =
    let boundaries : List ℕ = boundaries_of spec in
    let inside : i < length (drop 1 boundaries) = omega (arith, within, length-drop 1 boundaries) in
    ap (λ highs. get_or highs i (pos 0)) (highs_of-boundaries spec counts ne)
    ∙ (get_or-map pos (drop 1 boundaries) i 0 (pos 0) inside
    ∙ ap pos (get_or_after_one boundaries i 0 ∙ ap (λ k. get_or boundaries k 0) (omega arith)))

-- so a bucket of counts that are all counted has a boundary after it
pub has_behind : (spec : Spec) (counts : List (ℤ × ℕ)) (i : ℕ) → spec_fault spec ≡ None → (spec ≡ Sparse → ⊥) → IsOnePerBucket spec (length counts)
    → i < length counts → i + 1 < length (boundaries_of spec)
has_behind spec counts i lawful ne counted within =
    omega (
      arith,
      length-highs spec counts lawful counted,
      ap length (highs_of-boundaries spec counts ne),
      length-map (drop 1 (boundaries_of spec)) pos,
      length-drop 1 (boundaries_of spec),
      within,
    )

-- after a value comes the next one
pub value_behind : (counts : List (ℤ × ℕ)) (i : ℕ) (count : ℤ × ℕ) → i < length counts → count ≡ get_or counts i count
    → get_or (highs_of Sparse counts) i (pos 0) ≡ count.0 +ℤ pos 1
value_behind counts i count within is =
    get_or-map (λ (c : ℤ × ℕ). c.0 +ℤ pos 1) counts i count (pos 0) within ∙ ap (λ (c : ℤ × ℕ). c.0 +ℤ pos 1) (sym is)

-- what has ranges is not sparse
pub not_sparse : (spec : Spec) → is_sparse spec ≡ false → spec ≡ Sparse → ⊥
not_sparse spec ranged e = absurd (cc)

-- the boundary after a bucket of a histogram with ranges is not below 0
pub highs_positive : (hist : Histogram) → IsReadable hist → is_sparse hist.spec ≡ false → All (λ row. pos 0 ≤ℤ row.high) (rows_of hist)
highs_positive hist readable ranged = λ k d h.
    let within : k < length hist.counts = rw length-map-range_with_len at h in
    let behind = has_behind hist.spec hist.counts k readable.lawful (not_sparse hist.spec ranged) readable.counted within in
    rw (get_or-map-range_with_len (row_at hist) 0 (length hist.counts) k k d within (omega arith), bucket_behind hist.spec hist.counts k (not_sparse hist.spec ranged) behind)
    (search rules)
