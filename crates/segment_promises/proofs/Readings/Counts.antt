-- The counts of a histogram in a kept state's words: they are there, and if its totals are bounded, none is too large.
use Rattle.segment_invariant.proofs.Prelude.Std.{◌≡◌, Bool, true, false, if◌then◌else◌, ℕ, ◌<◌, refl, sym, ap, ◌∙◌, arith, List, not, ◌==◌, nat_lt, slice_index, range_with_len, and_from, eq-eqb, le-ltb}
use Rattle.segment_invariant.proofs.Prelude.Machine.{Dimensions, head_of, field_at, buckets_of, spec_fields, is_sparse, record_buckets, total_of, IsShown}
use Rattle.segment_invariant.proofs.Prelude.Invariant.{Record, record_words, Anatomy, layout_of, HasRecord, IsLawfulRecord}
use Rattle.std.proofs.lemmas.Bool.{or_from}
use Rattle.std.proofs.lemmas.List.Elements.{All-map}
use Rattle.std.proofs.lemmas.List.Folds.{list_any_none}
use Rattle.bucket_ranges.specs.declared.spec.Spec.TheVariants as spec
use Rattle.bucket_ranges.specs.Reading.{totals_of, has_large, has_no_units, is_bad_bucket_counts, is_bad_counts, has_counts}
use Rattle.list_lemmas.proofs.Elements.{all_from}
use Rattle.segment_invariant.specs.Words.{AreBounded}
use Rattle.segment_invariant.proofs.Consistency.Books.{range_at}
use Rattle.segment_invariant.proofs.Consistency.Records.{record_word}
use Rattle.segment_invariant.proofs.Consistency.Specs.{buckets_are}
use Rattle.segment_invariant.proofs.Consistency.Totals.{sparse_kind}
use Rattle.segment_promises.proofs.Readings.Heads.{version_is}

module _ (shape : Dimensions) (words : List ℕ) (anatomy : Anatomy) (shown : IsShown shape words (layout_of anatomy)) (version at : ℕ) (r : Record)
    (has : HasRecord anatomy.pieces at r) (right : IsLawfulRecord version shape.page r) where
  word : (j : ℕ) → j < 15 → field_at words at j ≡ slice_index (record_words r) j
  word j below = record_word shape words anatomy shown at r j has below

  sparse_empty : r.spec ≡ spec.Sparse → has_no_units words at ≡ true
  sparse_empty sparse =
      let (counts, single, mark) = right.sparse sparse in
      and_from _ _ (and_from _ _ (eq-eqb (field_at words at 8) 0 (word 8 (omega arith) ∙ counts)) (eq-eqb (field_at words at 9) 0 (word 9 (omega arith) ∙ single)))
      (eq-eqb (field_at words at 10) 0 (word 10 (omega arith) ∙ mark))

  module _ (bounded : AreBounded version words at (buckets_of r.spec)) where
    none_large : has_large (totals_of version words at) ≡ false
    none_large =
        let n : ℕ = record_buckets words at in
        let many = buckets_are shape words anatomy shown version at r has right in
        let total : ℕ → ℕ = total_of version words at in
        list_any_none (λ (total : ℕ). nat_lt 4294967295 total) (totals_of version words at)
        (All-map (λ (total : ℕ). nat_lt 4294967295 total ≡ false) total (range_with_len 0 n)
        (all_from (λ (i : ℕ). nat_lt 4294967295 (total i) ≡ false) (range_with_len 0 n) (λ j i there.
        let (e, lt) = range_at 0 n j i there in
        le-ltb 4294967295 (total i) (bounded.total i (omega (arith, e, lt, many))))))

    pub counts_are_right : has_counts words (head_of words) at ≡ true → (head_of words).version ≡ version → is_bad_counts words (head_of words) at ≡ false
    counts_are_right there version_is = by_kind (is_sparse words at) refl
      where
        is_kind : (b : Bool) → is_sparse words at ≡ b → (slice_index (spec_fields r.spec) 0 == 4) ≡ b
        is_kind b is = sym (ap (λ (n : ℕ). n == 4) (word 4 (omega arith))) ∙ is

        by_kind : (b : Bool) → is_sparse words at ≡ b
            → (if b then not (has_no_units words at) else is_bad_bucket_counts words (head_of words) at) ≡ false
        by_kind true is = ap not (sparse_empty (sparse_kind r.spec (is_kind true is)))
        by_kind false is =
            or_from _ _ (ap not there)
            (ap (λ (v : ℕ). has_large (totals_of v words at)) version_is ∙ none_large)
