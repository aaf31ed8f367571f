-- The buckets of a histogram among words that are laid out, as a reading lists them: each under its key, with what is held of the key.
use Rattle.segment_invariant.proofs.Prelude.Std.{◌≡◌, ◌≢◌, Bool, true, false, ◌==◌, if◌then◌else◌, ℕ, ◌+◌, ◌<◌, ℤ, List, length, ⊎_elim, refl, sym, ap, subst, ◌∙◌, inl, inr, arith, Option, Some, None, slice_index, int_eq, eqb-true, eqb-false, range_with_len}
use Rattle.segment_invariant.proofs.Prelude.Machine.{Dimensions, Spec, buckets_of, spec_fields, packed_bucket, record_buckets, total_of, mark_of}
use Rattle.segment_invariant.proofs.Prelude.Invariant.{Record, Counts, Sample, Body, Anatomy, form_at, key_of_bucket, at_bucket, keyed, units_held, marks_held, all_held, HasRecord, IsFirst, HasKey, IsCountsOf}
use Rattle.bucket_ranges.specs.declared.spec.Spec.TheVariants as spec
use Rattle.segment_invariant.specs.Consistent.{key_at}
use Rattle.segment_invariant.specs.Words.{AreLaid}
use Rattle.segment_invariant.proofs.Lists.FewTerms.{sum_none}
use Rattle.segment_invariant.proofs.Consistency.Books.{IsBook, units_book, marks_book, same_first, bucket_alone, bucket_mounted, value_absent, range_at, range_there}
use Rattle.segment_invariant.proofs.Consistency.Keys.{one_key, packed_within}
use Rattle.segment_invariant.proofs.Consistency.Specs.{buckets_are, key_is}
use Rattle.segment_invariant.proofs.Consistency.Totals.{sparse_kind, bucketed_kind, total_held}
use Rattle.segment_invariant.proofs.Consistency.Marks.{mark_held}
use Rattle.segment_promises.proofs.Readings.Keys.{IsListing, int_test}

-- what blocks hold of a name
module _ (anatomy : Anatomy) (name : List ℕ) where
  abbrev pub units_of_key : ℤ → ℕ
  units_of_key key = all_held (units_held anatomy.version name key) anatomy.pieces

  abbrev pub marks_of_key : ℤ → ℕ
  marks_of_key key = all_held (marks_held anatomy.version name key) anatomy.pieces

-- of a key that the name does not have they hold nothing
module _ (shape : Dimensions) (opened : Anatomy) (words : List ℕ) (kept : AreLaid shape opened words) (at : ℕ) (r : Record)
    (has : HasRecord kept.anatomy.pieces at r) (kind : Spec) (first : IsFirst kept.anatomy.records r.name kind at) (specified : r.spec ≡ kind)
    (key : ℤ) (absent : ¬ (HasKey kept.anatomy.records r.name key)) where
  no_bucket : (i : ℕ) → i < buckets_of r.spec → key_of_bucket r.spec i ≢ key
  no_bucket i below same = absent (
    kind,
    at,
    first,
    inl (i, subst (λ (kind : Spec). i < buckets_of kind) specified below, sym same ∙ ap (λ (kind : Spec). key_of_bucket kind i) specified),
  )

  module _ (holds : Body → ℕ) (packed : Record → ℕ) (buckets : Counts → List ℕ) (valued : Sample → ℕ)
      (book : IsBook kept.anatomy.version r.name key holds packed buckets valued)
      (long : (c : Counts) → IsCountsOf kept.anatomy.version at r c → length (buckets c) ≡ buckets_of r.spec) where
    packed_none : at_bucket r.spec key (packed_bucket (form_at kept.anatomy.version r)) (packed r) ≡ 0
    packed_none = by_packed (packed_bucket (form_at kept.anatomy.version r)) refl
      where
        by_packed : (bucket : Option ℕ) → packed_bucket (form_at kept.anatomy.version r) ≡ bucket → at_bucket r.spec key bucket (packed r) ≡ 0
        by_packed None is = refl
        by_packed (Some i) is =
            int_test (key_of_bucket r.spec i) key (packed r) (no_bucket i (packed_within kept.anatomy.version (buckets_of r.spec) r.single i is))

    keyed_none : (c : Counts) → IsCountsOf kept.anatomy.version at r c → keyed c.spec key (buckets c) ≡ 0
    keyed_none c of_it =
        ap (λ (kind : Spec). keyed kind key (buckets c)) of_it.same
        ∙ sum_none (λ i. if int_eq (key_of_bucket r.spec i) key then slice_index (buckets c) i else 0) (range_with_len 0 (length (buckets c))) (λ j i there _.
        let (same, within) = range_at 0 (length (buckets c)) j i there in
        let all = long c of_it in
        int_test (key_of_bucket r.spec i) key (slice_index (buckets c) i) (no_bucket i (omega (arith, same, within, all))))

    bucketed_none : r.spec ≢ spec.Sparse → all_held holds kept.anatomy.pieces ≡ 0
    bucketed_none bucketed = by_counts (r.counts == 0) (eqb-true r.counts 0) (eqb-false r.counts 0)
      where
        by_counts : (b : Bool) → (b ≡ true → r.counts ≡ 0) → (b ≡ false → r.counts ≢ 0) → all_held holds kept.anatomy.pieces ≡ 0
        by_counts true none_there some_there =
            bucket_alone shape opened words kept r.name kind at r first has refl specified key holds packed buckets valued book bucketed (none_there refl)
            ∙ packed_none
        by_counts false none_there some_there =
            let (c, mounted, of_it) = kept.records.mounted at r has (some_there refl) in
            let all = bucket_mounted shape opened words kept r.name kind at r first has refl specified key holds packed buckets valued book bucketed c mounted of_it.named in
            let none = keyed_none c of_it in
            omega (arith, all, packed_none, none)

    nothing_held : all_held holds kept.anatomy.pieces ≡ 0
    nothing_held = by_kind (slice_index (spec_fields r.spec) 0 == 4) refl
      where
        by_kind : (b : Bool) → (slice_index (spec_fields r.spec) 0 == 4) ≡ b → all_held holds kept.anatomy.pieces ≡ 0
        by_kind true is =
            let sparse = sparse_kind r.spec is in
            value_absent shape opened words kept r.name kind at r first has refl specified key holds packed buckets valued book sparse
            (λ (place, its). absent (kind, at, first, inr (sym specified ∙ sparse, place, its)))
        by_kind false is = bucketed_none (bucketed_kind r.spec is)

  pub no_units : units_of_key kept.anatomy r.name key ≡ 0
  no_units = nothing_held _ _ _ _ (units_book kept.anatomy.version r.name key kept.versions) (λ c of_it. of_it.units)

  pub no_marks : marks_of_key kept.anatomy r.name key ≡ 0
  no_marks = nothing_held _ _ _ _ (marks_book kept.anatomy.version r.name key) (λ c of_it. of_it.marks)

module _ (shape : Dimensions) (opened : Anatomy) (words : List ℕ) (kept : AreLaid shape opened words) (at : ℕ) (r : Record)
    (has : HasRecord kept.anatomy.pieces at r) (kind : Spec) (first : IsFirst kept.anatomy.records r.name kind at) (specified : r.spec ≡ kind)
    (bucketed : r.spec ≢ spec.Sparse) where
  many : record_buckets words at ≡ buckets_of r.spec
  many = buckets_are shape words kept.anatomy kept.shown kept.anatomy.version at r has (kept.records.lawful at r has)

  key : (i : ℕ) → key_at words at i ≡ key_of_bucket r.spec i
  key = key_is shape words kept.anatomy kept.shown kept.anatomy.version at r has (kept.records.lawful at r has)

  -- numbers of buckets that are held of their keys are listed under these
  bucket_listing : (number : ℕ → ℕ) (held : ℤ → ℕ) → ((i : ℕ) → i < buckets_of r.spec → number i ≡ held (key_of_bucket r.spec i))
      → ((k : ℤ) → ¬ (HasKey kept.anatomy.records r.name k) → held k ≡ 0)
      → IsListing (key_at words at) number held (range_with_len 0 (record_buckets words at))
  bucket_listing number held each absent = record {
    apart = λ i j x y here there same.
        let (low, within) = range_at 0 (record_buckets words at) i x here in
        let (high, inside) = range_at 0 (record_buckets words at) j y there in
        let one = one_key r.spec x y (kept.records.lawful at r has).lawful bucketed (omega (arith, low, within, many)) (omega (arith, high, inside, many))
        (sym (key x) ∙ (same ∙ key y)) in
        omega (arith, low, high, one);
    holds = λ i x here.
        let (low, within) = range_at 0 (record_buckets words at) i x here in
        each x (omega (arith, low, within, many)) ∙ ap held (sym (key x));
    others = λ k none. absent k (λ (other, place, its, keyed).
        let (same_place, same_kind) = same_first kept.anatomy.records r.name other kind place at its first in
        ⊎_elim
        (λ (bucket, below, is).
        let here : bucket < record_buckets words at =
        let same : buckets_of other ≡ buckets_of r.spec = ap buckets_of (same_kind ∙ sym specified) in omega (arith, below, same, many) in
        none (
          bucket,
          0 + bucket,
          range_there 0 (record_buckets words at) bucket here,
          (let e : 0 + bucket ≡ bucket = omega arith in ap (key_at words at) e)
              ∙ (key bucket ∙ (ap (λ (kind : Spec). key_of_bucket kind bucket) (specified ∙ sym same_kind) ∙ sym is)),
        ))
        (λ (sparse, place, first_value). bucketed (specified ∙ (sym same_kind ∙ sparse)))
        keyed);
  }

  pub totals_listed : IsListing (key_at words at) (total_of kept.anatomy.version words at) (units_of_key kept.anatomy r.name)
      (range_with_len 0 (record_buckets words at))
  totals_listed = bucket_listing (total_of kept.anatomy.version words at) (units_of_key kept.anatomy r.name)
      (λ i below. total_held shape opened words kept r.name kind at r first has refl specified bucketed i below)
      (no_units shape opened words kept at r has kind first specified)

  pub marks_listed : IsListing (key_at words at) (mark_of kept.anatomy.version words at) (marks_of_key kept.anatomy r.name)
      (range_with_len 0 (record_buckets words at))
  marks_listed = bucket_listing (mark_of kept.anatomy.version words at) (marks_of_key kept.anatomy r.name)
      (λ i below. mark_held shape opened words kept r.name kind at r first has refl specified bucketed i below)
      (no_marks shape opened words kept at r has kind first specified)
