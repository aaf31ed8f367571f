-- The marks of a histogram in a kept state's words: if they are bounded, their check finds nothing.
use Rattle.segment_invariant.proofs.Prelude.Std.{◌≡◌, ◌⊎◌, Bool, false, ◌||◌, ◌&&◌, ◌==◌, ℕ, ◌≤◌, inl, inr, refl, sym, ap, ◌∙◌, arith, Option, Some, None, List, not, nat_lt, range_with_len, eq-eqb, le-ltb}
use Rattle.segment_invariant.proofs.Prelude.Machine.{Dimensions, field_at, SingleWord, buckets_of, packed_bucket, is_packed_bucket, record_buckets, record_single, total_of, mark_of, IsShown}
use Rattle.segment_invariant.proofs.Prelude.Invariant.{Record, Anatomy, layout_of, HasRecord, IsLawfulRecord}
use Rattle.std.specs.Prelude.{is_none}
use Rattle.std.proofs.lemmas.Bool.{or_from, and_left, and_right}
use Rattle.std.proofs.lemmas.List.Folds.{list_any_none}
use Rattle.bucket_ranges.specs.Reading.{is_large_mark, is_bad_mark}
use Rattle.list_lemmas.proofs.Elements.{all_from}
use Rattle.segment_invariant.specs.Words.{AreBounded}
use Rattle.segment_invariant.proofs.Consistency.Books.{range_at}
use Rattle.segment_invariant.proofs.Consistency.Records.{record_word}
use Rattle.segment_invariant.proofs.Consistency.Specs.{buckets_are, form_is}
use Rattle.segment_promises.proofs.Readings.Bounds.{packed_test}

-- a mark that is bounded is not too large
mark_small : (version mark total i : ℕ) (form : Option SingleWord)
    → (mark ≤ total) ⊎ ((version ≡ 1) × (packed_bucket form ≡ Some i) × (mark ≤ 65535))
    → is_large_mark version mark total (is_packed_bucket form i) ≡ false
mark_small version mark total i form (inl within) = and_left _ _ (le-ltb total mark within)
mark_small version mark total i form (inr (one, packed, few)) =
    and_right _ _ ((λ j. not (packed_test form i packed j && not (one j == 2)) || nat_lt 65535 mark) ∙ le-ltb 65535 mark few)

module _ (shape : Dimensions) (words : List ℕ) (anatomy : Anatomy) (shown : IsShown shape words (layout_of anatomy)) (version at : ℕ) (r : Record)
    (has : HasRecord anatomy.pieces at r) (right : IsLawfulRecord version shape.page r) where
  abbrev form : Option SingleWord
  form = record_single version words at

  -- while no bucket is or was packed the single mark is 0
  unpacked : (packed : Option ℕ) → packed_bucket form ≡ packed → (is_none packed && not (field_at words at 10 == 0)) ≡ false
  unpacked None is =
      let same = form_is shape words anatomy shown version at r has right version in
      let word = record_word shape words anatomy shown at r 10 has (omega arith) in
      ap not (eq-eqb (field_at words at 10) 0 (word ∙ right.unpacked (sym (ap packed_bucket same) ∙ is)))
  unpacked (Some bucket) is = refl

  pub marks_are_right : AreBounded version words at (buckets_of r.spec) → is_bad_mark version words at ≡ false
  marks_are_right bounded =
      let n : ℕ = record_buckets words at in
      let many = buckets_are shape words anatomy shown version at r has right in
      let large : ℕ → Bool = λ i.
      is_large_mark version (mark_of version words at i) (total_of version words at i) (is_packed_bucket form i) in
      or_from _ _ (unpacked (packed_bucket form) refl)
      (list_any_none large (range_with_len 0 n) (all_from (λ (i : ℕ). large i ≡ false) (range_with_len 0 n) (λ j i there.
      let (e, lt) = range_at 0 n j i there in
      mark_small version _ _ i form (bounded.mark i (omega (arith, e, lt, many))))))
