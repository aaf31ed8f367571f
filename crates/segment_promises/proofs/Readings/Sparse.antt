-- The samples of a sparse histogram among words that are kept, as a reading lists them: of each value the first, with what is held of the
-- value.
use Rattle.segment_invariant.proofs.Prelude.Std.{◌≡◌, Bool, true, false, ◌&&◌, ◌==◌, ℕ, zero, suc, ◌<◌, ℤ, List, [], ◌∷◌, inl, inr, ⊎_elim, refl, sym, ap, subst, ◌∙◌, arith, Some, filter, AllByRecursion, int_eq, and_parts, and_from, eqb-true, eq-eqb, cases_order, Decides-int_eq, All-weaker, some, some-injective, get_elem?, none_at}
use Rattle.segment_invariant.proofs.Prelude.Machine.{Dimensions, head_of, field_at, Spec, buckets_of, is_of_type, sample_value}
use Rattle.segment_invariant.proofs.Prelude.Invariant.{Record, Sample, Anatomy, order_of, HasRecord, HasSample, IsFirst, IsFirstOf, HasKey}
use Rattle.std.specs.List.{find}
use Rattle.std.specs.List.Sorted.{IsStrictlySortedBy}
use Rattle.std.specs.declared.cmp.Ordering.{Ordering}
use Rattle.std.specs.declared.cmp.Ordering.TheVariants.{Less}
use Rattle.bucket_ranges.specs.declared.spec.Spec.TheVariants as spec
use Rattle.bucket_ranges.specs.Reading.{sample_count, sample_mark, sample_histogram, by_value, lawful_samples, first_samples}
use Rattle.bucket_ranges.proofs.FirstSamples.{first_samples-ascend, first_samples-first}
use Rattle.segment_invariant.specs.Consistent.{IsSample, IsSampleOf}
use Rattle.segment_invariant.specs.Words.{WordsAreKept}
use Rattle.segment_invariant.proofs.Blocks.Pieces.{piece_word}
use Rattle.segment_invariant.proofs.Consistency.Books.{same_first, units_book, marks_book, value_held}
use Rattle.segment_invariant.proofs.Consistency.Firsts.{first_of_value, value_of_first}
use Rattle.segment_promises.proofs.Counts.{less_differs}
use Rattle.segment_promises.proofs.Readings.Keys.{IsUnder, IsListing}
use Rattle.segment_promises.proofs.Readings.Finds.{find_there, find_from, found_at, find_one, find_both}
use Rattle.segment_promises.proofs.Readings.Buckets.{units_of_key, marks_of_key, no_units, no_marks}
use Rattle.segment_promises.proofs.Readings.Samples.{samples_are}

-- ---- what ascends

-- what holds of all holds of one of them
held_behind : {K : Type 0} (P : K → Type 0) (list : List K) (i : ℕ) (x : K) → AllByRecursion P list → get_elem? list i ≡ some x → P x
held_behind P [] i x all there = absurd (none_at i x there)
held_behind P (y ∷ rest) zero x all there = subst P (some-injective y x there) all.0
held_behind P (y ∷ rest) (suc i) x all there = held_behind P rest i x all.1 there

ascend_apart : {K : Type 0} (cmp : K → K → Ordering) (list : List K) (i j : ℕ) (x y : K) → IsStrictlySortedBy cmp list → i < j
    → get_elem? list i ≡ some x → get_elem? list j ≡ some y → cmp x y ≡ Less
unfolding IsStrictlySortedBy
ascend_apart cmp [] i j x y sorted before here there = absurd (none_at i x here)
ascend_apart cmp (z ∷ rest) i zero x y sorted before here there = absurd (omega (arith, before))
ascend_apart cmp (z ∷ rest) zero (suc j) x y sorted before here there =
    subst (λ (z : _). cmp z y ≡ Less) (some-injective z x here) (held_behind (λ w. cmp z w ≡ Less) rest j y sorted.0 there)
ascend_apart cmp (z ∷ rest) (suc i) (suc j) x y sorted before here there = ascend_apart cmp rest i j x y sorted.1 (omega (arith, before)) here there

module _ (words : List ℕ) where
  -- of samples whose values ascend, each value has one
  pub one_of_value : (list : List ℕ) (i j x y : ℕ) → IsStrictlySortedBy (by_value words) list → get_elem? list i ≡ some x → get_elem? list j ≡ some y
      → sample_value words x ≡ sample_value words y → i ≡ j
  one_of_value list i j x y sorted here there same = elim (cases_order i j) [
    | inl equal ↦ equal
    | inr other ↦ elim other [
      | inl before ↦ absurd (less_differs (sample_value words x) (sample_value words y) (ascend_apart (by_value words) list i j x y sorted before here there) same)
      | inr behind ↦ absurd (less_differs (sample_value words y) (sample_value words x) (ascend_apart (by_value words) list j i y x sorted behind there here) (sym same))
    ]
  ]

  -- the test of a sample of a value
  abbrev pub is_sample_of : ℕ → ℤ → ℕ → Bool
  is_sample_of of value at = is_of_type words 3 at && ((sample_histogram words at == of) && int_eq value (sample_value words at))

  passes_sample : (of : ℕ) (value : ℤ) (at : ℕ) → is_sample_of of value at ≡ true → IsSampleOf words of value at
  passes_sample of value at passes =
      let parts = and_parts _ _ passes in
      let more = and_parts _ _ parts.1 in
      (eqb-true (field_at words at 2) 3 parts.0, eqb-true (sample_histogram words at) of more.0, sym ((Decides-int_eq value (sample_value words at)).0 more.1))

  sample_passes : (of : ℕ) (value : ℤ) (at : ℕ) → IsSampleOf words of value at → is_sample_of of value at ≡ true
  sample_passes of value at is =
      and_from _ _ (eq-eqb (field_at words at 2) 3 is.0)
      (and_from _ _ (eq-eqb (sample_histogram words at) of is.1) ((Decides-int_eq value (sample_value words at)).1 (sym is.2)))

  fails_sample : (of : ℕ) (value : ℤ) (at : ℕ) → ¬ (IsSampleOf words of value at) → is_sample_of of value at ≡ false
  fails_sample of value at absent = by_test (is_sample_of of value at) refl
    where
      by_test : (b : Bool) → is_sample_of of value at ≡ b → b ≡ false
      by_test true passes = absurd (absent (passes_sample of value at passes))
      by_test false fails = refl

  -- the sample of a value is the one that is found
  pub found_sample : (chain : List ℕ) (of : ℕ) (value : ℤ) (at : ℕ) → find (is_sample_of of value) chain ≡ Some at → IsSample words chain of value at
  found_sample chain of value at is =
      let (front, behind, split, none_before, passes) = find_from (is_sample_of of value) chain at is in (
        front,
        behind,
        split,
        All-weaker (λ other. is_sample_of of value other ≡ false) (λ other. ¬ (IsSampleOf words of value other))
            (λ other fails its. cc (fails, sample_passes of value other its)) front none_before,
        passes_sample of value at passes,
      )

  pub sample_found : (chain : List ℕ) (of : ℕ) (value : ℤ) (at : ℕ) → IsSample words chain of value at → find (is_sample_of of value) chain ≡ Some at
  sample_found chain of value at (front, behind, stands, first, its) =
      ap (find (is_sample_of of value)) stands
      ∙ find_there (is_sample_of of value) front behind at
      (All-weaker (λ other. ¬ (IsSampleOf words of value other)) (λ other. is_sample_of of value other ≡ false) (fails_sample of value) front first)
      (sample_passes of value at its)

-- ---- words that are kept

module _ (shape : Dimensions) (opened : Anatomy) (words : List ℕ) (kept : WordsAreKept shape opened words) (at : ℕ) (r : Record)
    (has : HasRecord kept.laid.anatomy.pieces at r) (kind : Spec) (first : IsFirst kept.laid.anatomy.records r.name kind at) (specified : r.spec ≡ kind)
    (sparse : r.spec ≡ spec.Sparse) where
  abbrev pub samples : List ℕ
  samples = first_samples words (lawful_samples words (head_of words) (order_of kept.laid.anatomy)) at

  ascending : IsStrictlySortedBy (by_value words) samples
  ascending = first_samples-ascend words (lawful_samples words (head_of words) (order_of kept.laid.anatomy)) at

  -- of a value the sample that is listed is the first on the list
  of_value : (value : ℤ)
      → find (λ s. int_eq value (sample_value words s)) samples ≡ find (is_sample_of words at value) (order_of kept.laid.anatomy)
  of_value value =
      first_samples-first words (lawful_samples words (head_of words) (order_of kept.laid.anatomy)) at value
      ∙ (ap (λ (list : List ℕ). find (λ s. int_eq value (sample_value words s)) (filter (λ s. field_at words s 4 == at) list))
      (samples_are shape opened words kept)
      ∙ (find_both (λ s. int_eq value (sample_value words s)) (λ s. field_at words s 4 == at) (filter (is_of_type words 3) (order_of kept.laid.anatomy))
      ∙ find_both (λ s. (field_at words s 4 == at) && int_eq value (sample_value words s)) (is_of_type words 3) (order_of kept.laid.anatomy)))

  listed_first : (i x : ℕ) → get_elem? samples i ≡ some x → IsSample words (order_of kept.laid.anatomy) at (sample_value words x) x
  listed_first i x there =
      let value : ℤ = sample_value words x in
      found_sample words (order_of kept.laid.anatomy) at value x
      (sym (of_value value)
      ∙ find_one (λ s. int_eq value (sample_value words s)) samples i x there ((Decides-int_eq value value).1 refl)
      (λ j y here same. one_of_value words samples j i y x ascending here there (sym ((Decides-int_eq value (sample_value words y)).0 same))))

  first_listed : (value : ℤ) (place : ℕ) → IsFirstOf kept.laid.anatomy.records at value place → IsUnder (sample_value words) samples value
  first_listed value place its =
      let found = of_value value ∙ sample_found words (order_of kept.laid.anatomy) at value place (value_of_first shape opened words kept.laid at value place its) in
      let (i, there, same) = found_at (λ s. int_eq value (sample_value words s)) samples place found in
      (i, place, there, sym ((Decides-int_eq value (sample_value words place)).0 same))

  -- numbers of samples that are held of their values are listed under these
  sample_listing : (number : ℕ → ℕ) (held : ℤ → ℕ)
      → ((place : ℕ) (s : Sample) → IsFirstOf kept.laid.anatomy.records at s.value place → HasSample kept.laid.anatomy.pieces place s → s.of ≡ at → number place ≡ held s.value)
      → ((k : ℤ) → ¬ (HasKey kept.laid.anatomy.records r.name k) → held k ≡ 0)
      → IsListing (sample_value words) number held samples
  sample_listing number held each absent = record {
    apart = λ i j x y here there same. one_of_value words samples i j x y ascending here there same;
    holds = λ i x there.
        let value : ℤ = sample_value words x in
        let (s, its, (stands, of_it, valued)) = first_of_value shape opened words kept.laid at value x (listed_first i x there) in
        each x s (subst (λ (v : ℤ). IsFirstOf kept.laid.anatomy.records at v x) (sym valued) its) stands of_it ∙ ap held valued;
    others = λ k none. absent k (λ (other, place, its, keyed).
        let (same_place, same_kind) = same_first kept.laid.anatomy.records r.name other kind place at its first in
        ⊎_elim
        (λ (bucket, below, is).
        let empty : buckets_of other ≡ 0 = ap buckets_of (same_kind ∙ (sym specified ∙ sparse)) in
        absurd (omega (arith, below, empty)))
        (λ (is_sparse, spot, first_value). none (first_listed k spot (subst (λ (at : ℕ). IsFirstOf kept.laid.anatomy.records at k spot) same_place first_value)))
        keyed);
  }

  pub counts_listed : IsListing (sample_value words) (sample_count words) (units_of_key kept.laid.anatomy r.name) samples
  counts_listed = sample_listing (sample_count words) (units_of_key kept.laid.anatomy r.name)
      (λ place s its stands of_it.
      piece_word shape words kept.laid.anatomy kept.laid.shown stands.0 _ 6 stands.1 (omega arith)
      ∙ sym (value_held shape opened words kept.laid r.name kind at r first has refl specified s.value _ _ _ _
      (units_book kept.laid.anatomy.version r.name s.value kept.laid.versions) sparse place s its stands of_it refl))
      (no_units shape opened words kept.laid at r has kind first specified)

  pub marks_listed : IsListing (sample_value words) (sample_mark words) (marks_of_key kept.laid.anatomy r.name) samples
  marks_listed = sample_listing (sample_mark words) (marks_of_key kept.laid.anatomy r.name)
      (λ place s its stands of_it.
      piece_word shape words kept.laid.anatomy kept.laid.shown stands.0 _ 7 stands.1 (omega arith)
      ∙ sym (value_held shape opened words kept.laid r.name kind at r first has refl specified s.value _ _ _ _
      (marks_book kept.laid.anatomy.version r.name s.value) sparse place s its stands of_it refl))
      (no_marks shape opened words kept.laid at r has kind first specified)
