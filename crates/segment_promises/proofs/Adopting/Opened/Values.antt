-- The samples of an image: each names a sparse histogram that is read before it, and in its anatomy the first of a value is the first of its words.
use Rattle.segment_invariant.proofs.Prelude.Std.{◌≡◌, ◌≢◌, inl, inr, true, false, ℕ, ◌+◌, ◌-◌, ◌^◌, ◌<◌, ◌≤◌, ℤ, List, map, take, drop, All, Contains, refl, sym, ap, ◌∙◌, subst, arith, Some, None, not, ◌==◌, ◌&&◌, nat_lt, and_parts, eqb-true, ltb-false, take-append-drop, some, get_elem?, first_longer, contains_at}
use Rattle.segment_invariant.proofs.Prelude.Machine.{field_at, head_of, Spec, name_of, spec_of, is_sparse, record_fault, sample_value, IsListed, Reading, reading_along}
use Rattle.segment_invariant.proofs.Prelude.Invariant.{Body, histogram, sample, Listed, Anatomy, IsHistogram, IsValued, IsFirst, IsFirstOf}
use Rattle.std.proofs.lemmas.Bool.{cond-true, or_parts, not-false}
use Rattle.std.proofs.lemmas.List.Folds.{Any-from_list_any}
use Rattle.bucket_ranges.specs.declared.spec.Spec.TheVariants as spec
use Rattle.bucket_ranges.specs.Reading.{read_records, is_i32, is_sparse_read}
use Rattle.segment_machine.specs.declared.actor.Made.TheVariants as made
use Rattle.segment_invariant.specs.Consistent.{HasName, IsSample, IsSampleOf}
use Rattle.segment_invariant.specs.Invariant.{IsLawfulSample}
use Rattle.segment_invariant.proofs.Consistency.Firsts.{first_valued}
use Rattle.list_lemmas.proofs.Firsts.{first_from, first_image}
use Rattle.list_lemmas.proofs.Maps.{contains_take}
use Rattle.segment_promises.specs.Adoption.{IsAdoptable}
use Rattle.segment_promises.proofs.Readings.Firsts.{read_from, read_to}
use Rattle.segment_promises.proofs.Adopting.Slices.{run_long}
use Rattle.segment_promises.proofs.Adopting.Bodies.{record_at, sample_at, size_at}
use Rattle.segment_promises.proofs.Adopting.Images.{no_record_fault, no_sample_fault, block_page, listed_block, free_bounds}
use Rattle.segment_promises.proofs.Adopting.Opened.Anatomy.{made_by, listed_at, opened}
use Rattle.segment_promises.proofs.Adopting.Opened.Blocks.{record_body}
use Rattle.segment_promises.proofs.Adopting.Opened.Pieces.{record_cases}
use Rattle.segment_promises.proofs.Adopting.Opened.Names.{read, first_among}

given_sample : (b : Body) (of : ℕ) (value : ℤ) (at : ℕ) (words : List ℕ) → b ≡ sample (sample_at words at) → made_by b ≡ Some (made.Sample of value)
    → (field_at words at 4 ≡ of) × (sample_value words at ≡ value)
given_sample b of value at words is given =
    let same : Some (made.Sample (field_at words at 4) (sample_value words at)) ≡ Some (made.Sample of value) = ap made_by (sym is) ∙ given in
    (cc same, cc same)

not_given : (b c : Body) (of : ℕ) (value : ℤ) → b ≡ c → made_by c ≡ None → made_by b ≢ Some (made.Sample of value)
not_given b c of value is nothing given = cc (sym nothing ∙ (ap made_by (sym is) ∙ given))

not_histogram : (b : Body) (of : ℕ) (value : ℤ) (at : ℕ) (words : List ℕ) → b ≡ histogram (record_at words at) → made_by b ≢ Some (made.Sample of value)
not_histogram b of value at words is given = cc (ap made_by (sym is) ∙ given)

-- the spec of a sparse record
pub sparse_named : (words : List ℕ) (at : ℕ) → is_sparse words at ≡ true → spec_of words at ≡ spec.Sparse
sparse_named words at is = cond-true (is_sparse words at) spec.Sparse _ is

module _ (words references : List ℕ) (reading : Reading) (narrow : All (λ word. word < 2 ^ 64) words) (listed : IsListed words (head_of words) references)
    (reads : reading ≡ reading_along words (head_of words) references) (adoptable : IsAdoptable words references reading) where
  abbrev its : Anatomy
  its = opened words references reading narrow listed reads adoptable

  -- what is listed as a sample is one, of its words
  pub listed_sample : (at of : ℕ) (value : ℤ) → made_by (record_body words references at) ≡ Some (made.Sample of value) → IsSampleOf words of value at
  listed_sample at of value given = elim (record_cases words references reading narrow listed reads adoptable at) [
    | inl (one, first, is) ↦ absurd (not_histogram _ of value at words is given)
    | inr (inl (one, first, is)) ↦ absurd (not_given _ _ of value is refl given)
    | inr (inr (inl (three, is))) ↦ let same = given_sample _ of value at words is given in (three, same.0, same.1)
    | inr (inr (inr (un, third, is))) ↦ absurd (not_given _ _ of value is refl given)
  ]

  pub sample_listed : (at : ℕ) → field_at words at 2 ≡ 3 → record_body words references at ≡ sample (sample_at words at)
  sample_listed at three = elim (record_cases words references reading narrow listed reads adoptable at) [
    | inl (one, first, is) ↦ absurd (omega (arith, one, three))
    | inr (inl (one, first, is)) ↦ absurd (omega (arith, one, three))
    | inr (inr (inl (tag, is))) ↦ is
    | inr (inr (inr (un, third, is))) ↦ absurd (third three)
  ]

  given_sample_at : (at of : ℕ) (value : ℤ) → IsSampleOf words of value at → IsValued of value (listed_at words references at)
  given_sample_at at of value is = ap made_by (sample_listed at is.0) ∙ (λ i. Some (made.Sample (is.1 i) (is.2 i)))

  -- the first of a value in the anatomy is the first of its words
  pub value_first : (of : ℕ) (value : ℤ) (at : ℕ) → IsFirstOf its.records of value at → IsSample words references of value at
  value_first of value at first =
      let (x, its, same) = first_from (listed_at words references) references (IsSampleOf words of value) (IsValued of value)
      (λ front behind x split given. inl (listed_sample x of value given)) (λ l. ¬ (IsValued of value l))
      (λ x there sampled absent. absent (given_sample_at x of value sampled)) _ first in
      subst (IsSample words references of value) (ap (λ (l : Listed). l.reference) same) its

  pub first_value : (of : ℕ) (value : ℤ) (at : ℕ) → IsSample words references of value at → IsFirstOf its.records of value at
  first_value of value at is =
      let given = given_sample_at at of value is.4 in
      first_valued its.records of value (listed_at words references at) at
      (first_image (listed_at words references) references (IsSampleOf words of value) (IsValued of value)
      (λ front behind x split given. inl (listed_sample x of value given)) at is given) refl

  -- ---- a sample without a fault

  module _ (k at : ℕ) (here : get_elem? references k ≡ some at) (three : field_at words at 2 ≡ 3) where
    abbrev of : ℕ
    of = field_at words at 4

    parts : (nat_lt (field_at words at 0) 8 ≡ false) × (not (is_i32 (sample_value words at)) ≡ false) × (nat_lt 4294967295 (field_at words at 6) ≡ false)
        × (nat_lt (field_at words at 6) (field_at words at 7) ≡ false) × (not (is_sparse_read words (head_of words) (take k references) (field_at words at 4)) ≡ false)
    parts =
        let all = or_parts _ _ (no_sample_fault words references reading listed reads adoptable k at here three) in
        let three_parts = or_parts _ _ all.0 in
        let two = or_parts _ _ three_parts.0 in
        let one = or_parts _ _ two.0 in
        (one.0, one.1, two.1, three_parts.1, all.1)

    pub lawful_sample : IsLawfulSample (sample_at words at)
    lawful_sample =
        let (from, least, within, paged, cookie) = block_page words references reading listed reads adoptable at
        (listed_block words references reading listed reads adoptable at (contains_at references k at here)) in
        let bound = (free_bounds words references reading listed reads adoptable).1 in
        let size = ltb-false (field_at words at 0) 8 parts.0 in
        let long = run_long words (at + 8) (size_at words at - 8) (omega (arith, within, bound, size)) in
        record { sized = omega (arith, long, size); valued = not-false _ parts.1; taken = ltb-false (field_at words at 6) (field_at words at 7) parts.3 }

    pub sample_bound : field_at words at 6 ≤ 4294967295
    sample_bound = ltb-false 4294967295 (field_at words at 6) parts.2

    earlier_lawful : (place : ℕ) → Contains (take k references) place → field_at words place 2 ≡ 1 → record_fault words (head_of words) place ≡ None
    earlier_lawful place there = no_record_fault words references reading listed reads adoptable place (contains_take k references place there)

    -- its histogram is sparse, and read before it
    earlier : IsHistogram words (take k references) (name_of words of) of × (is_sparse words of ≡ true)
    earlier =
        let (i, x, below, is, passes) = Any-from_list_any (λ (reference : ℕ). (reference == of) && is_sparse words reference)
        (read_records words (head_of words) (take k references)) (not-false _ parts.4) in
        let both = and_parts _ _ passes in
        let same = eqb-true x of both.0 in (
          subst (λ (x : ℕ). IsHistogram words (take k references) (name_of words x) x) same (read_from words (head_of words) (take k references) earlier_lawful x (i, below, is)),
          subst (λ (x : ℕ). is_sparse words x ≡ true) same both.1,
        )

    pub its_read : Contains (read words references reading narrow listed reads adoptable) of
    its_read =
        read_to words (head_of words) references (no_record_fault words references reading listed reads adoptable) (name_of words of) of
        (subst (λ (chain : List ℕ). IsHistogram words chain (name_of words of) of) (take-append-drop k references)
        (first_longer (HasName words (name_of words of)) (take k references) (drop k references) of earlier.0))

    pub its_sparse : spec_of words of ≡ spec.Sparse
    its_sparse = sparse_named words of earlier.1

    -- among what is listed before it
    pub its_first : IsFirst (map (listed_at words references) (take k references)) (name_of words of) spec.Sparse of
    its_first =
        subst (λ (kind : Spec). IsFirst (map (listed_at words references) (take k references)) (name_of words of) kind of) its_sparse
        (first_among words references reading narrow listed reads adoptable (take k references) of (name_of words of) earlier.0 its_read)
