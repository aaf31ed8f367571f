-- A histogram's record without a fault, by its fields: its kind, name, spec, counts, single word, marks and sums.
use Rattle.segment_invariant.proofs.Prelude.Std.{◌≡◌, ◌≢◌, Bool, true, false, ℕ, ◌+◌, ◌*◌, ◌≤◌, List, refl, ⊎_elim, None, not, if◌then◌else◌, and_parts, eqb-true, leb-true, ltb-false, some, get_elem?}
use Rattle.segment_invariant.proofs.Prelude.Machine.{field_at, is_block, name_of, is_sparse, record_buckets, record_single, record_fault}
use Rattle.std.proofs.lemmas.Bool.{or_parts, or_cases, not-false}
use Rattle.segment_image.specs.declared.head.SegmentHead.{SegmentHead}
use Rattle.bucket_ranges.specs.Reading.{is_kind, is_name, has_name, named_words, is_spec_named, inner_ranges, record_words, record_checks, has_counts, has_large, totals_of, is_bad_single, is_bad_mark, is_bad_record_sum, has_no_units, is_bad_bucket_counts}
use Rattle.segment_promises.proofs.Adopting.Images.{faults_pass}

module _ (words : List ℕ) (head : SegmentHead) (at : ℕ) (none : record_fault words head at ≡ None) where
  check : (i : ℕ) (c : Bool × _) → get_elem? (record_checks words head at) i ≡ some c → c.0 ≡ false
  check = faults_pass (record_checks words head at) none

  pub kind_found : (16 ≤ field_at words at 0) × (is_kind (field_at words at 4) ≡ true)
  kind_found =
      let parts = or_parts _ _ (check 0 _ refl) in
      (ltb-false (field_at words at 0) 16 parts.0, not-false _ parts.1)

  pub name_found : (named_words words at ≤ field_at words at 0) × (is_name (name_of words at) ≡ true)
  name_found =
      let parts = and_parts _ _ (not-false (has_name words at) (check 1 _ refl)) in
      (leb-true (named_words words at) (field_at words at 0) parts.0, parts.1)

  pub spec_found : (record_words words at ≤ field_at words at 0)
      × (is_spec_named (field_at words at 4) (field_at words at 5) (field_at words at 6) (field_at words at 7) (inner_ranges words at) ≡ true)
      × (4 + 2 * record_buckets words at ≤ head.shape.page)
  spec_found =
      let parts = or_parts _ _ (check 2 _ refl) in
      let both = and_parts _ _ (not-false _ parts.0) in
      (leb-true (record_words words at) (field_at words at 0) both.0, both.1, ltb-false head.shape.page _ parts.1)

  -- a sparse one has neither counts nor a single word
  pub sparse_found : is_sparse words at ≡ true → (field_at words at 8 ≡ 0) × (field_at words at 9 ≡ 0) × (field_at words at 10 ≡ 0)
  sparse_found sparse = by_kind (is_sparse words at) sparse (check 3 _ refl)
    where
      by_kind : (b : Bool) → b ≡ true → (if b then not (has_no_units words at) else is_bad_bucket_counts words head at) ≡ false
          → (field_at words at 8 ≡ 0) × (field_at words at 9 ≡ 0) × (field_at words at 10 ≡ 0)
      by_kind true is found =
          let all = and_parts _ _ (not-false (has_no_units words at) found) in
          let two = and_parts _ _ all.0 in
          (eqb-true (field_at words at 8) 0 two.0, eqb-true (field_at words at 9) 0 two.1, eqb-true (field_at words at 10) 0 all.1)
      by_kind false is found = cc is

  pub counts_found : is_sparse words at ≡ false → (has_counts words head at ≡ true) × (has_large (totals_of head.version words at) ≡ false)
  counts_found buckets = by_kind (is_sparse words at) buckets (check 3 _ refl)
    where
      by_kind : (b : Bool) → b ≡ false → (if b then not (has_no_units words at) else is_bad_bucket_counts words head at) ≡ false
          → (has_counts words head at ≡ true) × (has_large (totals_of head.version words at) ≡ false)
      by_kind true is found = cc is
      by_kind false is found = let parts = or_parts _ _ found in (not-false (has_counts words head at) parts.0, parts.1)

  pub single_found : is_bad_single (record_single head.version words at) (field_at words at 8) ≡ false
  single_found = check 4 _ refl

  pub mark_found : is_bad_mark head.version words at ≡ false
  mark_found = check 5 _ refl

  pub sums_found : is_bad_record_sum words at ≡ false
  sums_found = check 6 _ refl

  -- the counts that it names are a valid block for them
  pub named_found : field_at words at 8 ≢ 0 → (is_sparse words at ≡ false) × (is_block words head (field_at words at 8) ≡ true)
      × (field_at words (field_at words at 8) 2 ≡ 2) × (4 + 2 * record_buckets words at ≤ field_at words (field_at words at 8) 0)
  named_found some_there = by_kind (is_sparse words at) refl
    where
      place : ℕ
      place = field_at words at 8

      by_kind : (b : Bool) → is_sparse words at ≡ b → (is_sparse words at ≡ false) × (is_block words head (field_at words at 8) ≡ true)
          × (field_at words (field_at words at 8) 2 ≡ 2) × (4 + 2 * record_buckets words at ≤ field_at words (field_at words at 8) 0)
      by_kind true is = absurd (some_there (sparse_found is).0)
      by_kind false is = ⊎_elim
          (λ zero_there. absurd (some_there (eqb-true (field_at words at 8) 0 zero_there)))
          (λ found.
          let parts = and_parts _ _ found in
          let both = and_parts _ _ parts.0 in
          (is, both.0, eqb-true (field_at words (field_at words at 8) 2) 2 both.1, leb-true _ (field_at words (field_at words at 8) 0) parts.1))
          (or_cases _ _ (counts_found is).0)
