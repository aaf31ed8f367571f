-- What the words of a histogram's record say of its spec: its buckets, their keys and the form of its single word.
use Rattle.segment_invariant.proofs.Prelude.Std.{◌≡◌, ℕ, ◌+◌, ◌-◌, ◌<◌, pos, List, [], ◌∷◌, ◌++◌, length, take, refl, sym, ap, ◌∙◌, arith, length-append, append_assoc, slice_index, none}
use Rattle.segment_invariant.proofs.Prelude.Machine.{Dimensions, field_at, Spec, Linear, Boolean, Custom, Sparse, buckets_of, spec_fields, spec_ranges, SameSpec, boundaries_of, name_words, spec_of, record_buckets, record_single, IsShown, single_of}
use Rattle.segment_invariant.proofs.Prelude.Invariant.{Record, histogram, Anatomy, layout_of, record_words, form_at, key_of_bucket, HasRecord, IsLawfulRecord}
use Rattle.std.specs.List.{slice_range}
use Rattle.bucket_ranges.specs.Spec.{distinct_values}
use Rattle.bucket_ranges.specs.Reading.{spec_named, inner_ranges}
use Rattle.bucket_ranges.proofs.Distinct.{distinct-ascends, distinct-member, distinct-of_ascending}
use Rattle.segment_invariant.specs.Consistent.{key_at}
use Rattle.segment_invariant.proofs.Consistency.Records.{piece_part, record_word, name_long}

-- ---- a spec by its words

-- distinct values are their own
distinct_again : (values : List ℕ) → distinct_values (distinct_values values) ≡ distinct_values values
distinct_again values = distinct-of_ascending (distinct_values values) (distinct-ascends values) (λ y m. (distinct-member values y m).1)

-- the spec that the words of a spec name: a custom one has its distinct values
abbrev pub spelled : Spec → Spec
spelled (Linear min max n) = Linear min max n
spelled Boolean = Boolean
spelled (Custom values) = Custom (distinct_values values)
spelled Sparse = Sparse

pub same_spelled : (spec : Spec) → SameSpec (spelled spec) spec
same_spelled (Linear min max n) = (refl, refl)
same_spelled Boolean = (refl, refl)
same_spelled (Custom values) = (
  ap (λ (inner : List ℕ). 3 ∷ slice_index inner 0 ∷ slice_index inner (length inner - 1) ∷ (length inner + 1) ∷ []) (distinct_again values),
  distinct_again values,
)
same_spelled Sparse = (refl, refl)

pub buckets_spelled : (spec : Spec) → buckets_of (spelled spec) ≡ buckets_of spec
buckets_spelled (Linear min max n) = refl
buckets_spelled Boolean = refl
buckets_spelled (Custom values) = ap (λ (inner : List ℕ). length inner + 1) (distinct_again values)
buckets_spelled Sparse = refl

pub boundaries_spelled : (spec : Spec) → boundaries_of (spelled spec) ≡ boundaries_of spec
boundaries_spelled (Linear min max n) = refl
boundaries_spelled Boolean = refl
boundaries_spelled (Custom values) = ap (λ (inner : List ℕ). 0 ∷ (inner ++ 2147483647 ∷ [])) (distinct_again values)
boundaries_spelled Sparse = refl

-- the fields of a spec and its ranges name it
abbrev pub field_named : List ℕ → List ℕ → Spec
field_named fields inner = spec_named (slice_index fields 0) (slice_index fields 1) (slice_index fields 2) (slice_index fields 3) inner

pub named_by : (spec : Spec) (inner : List ℕ) → (slice_index (spec_fields spec) 0 ≡ 3 → inner ≡ spec_ranges spec) → field_named (spec_fields spec) inner ≡ spelled spec
named_by (Linear min max n) inner ranges = refl
named_by Boolean inner ranges = refl
named_by (Custom values) inner ranges = ap Custom (ranges refl)
named_by Sparse inner ranges = refl

-- a custom spec has one range fewer than buckets
pub ranges_fewer : (spec : Spec) → slice_index (spec_fields spec) 0 ≡ 3 → slice_index (spec_fields spec) 3 - 1 ≡ length (spec_ranges spec)
ranges_fewer (Linear min max n) e = absurd (omega (arith, e))
ranges_fewer Boolean e = absurd (omega (arith, e))
ranges_fewer (Custom values) e = omega arith
ranges_fewer Sparse e = absurd (omega (arith, e))

-- ---- a record's

module _ (shape : Dimensions) (words : List ℕ) (anatomy : Anatomy) (shown : IsShown shape words (layout_of anatomy))
    (version at : ℕ) (r : Record) (there : HasRecord anatomy.pieces at r) (lawful : IsLawfulRecord version shape.page r) where
  word : (j : ℕ) → j < 15 → field_at words at j ≡ slice_index (record_words r) j
  word j below = record_word shape words anatomy shown at r j there below

  -- the ranges of a custom record
  pub ranges_part : slice_index (spec_fields r.spec) 0 ≡ 3 → inner_ranges words at ≡ spec_ranges r.spec
  ranges_part custom =
      let fields : List ℕ = take 15 (record_words r) in
      let front : List ℕ = fields ++ r.letters in
      let letters = name_long shape words anatomy shown version r lawful in
      let long = length-append fields r.letters in
      let fewer = ranges_fewer r.spec custom in
      let part = piece_part shape words anatomy shown there.0 (record { at = at; owner = none; body = histogram r }) front (spec_ranges r.spec) r.rest there.1
      (ap (λ (behind : List ℕ). fields ++ behind) (append_assoc r.letters (spec_ranges r.spec) r.rest)
      ∙ sym (append_assoc fields r.letters (spec_ranges r.spec ++ r.rest))) in
      let from : at + 15 + name_words (length r.name) ≡ at + length front = omega (arith, letters, long) in
      ap (λ (len : ℕ). let first = at + 15 + name_words len in slice_range words first (first + (field_at words at 7 - 1))) (word 14 (omega arith))
      ∙ (ap (λ (first : ℕ). slice_range words first (first + (field_at words at 7 - 1))) from
      ∙ (ap (λ (n : ℕ). slice_range words (at + length front) (at + length front + (n - 1))) (word 7 (omega arith))
      ∙ (ap (λ (n : ℕ). slice_range words (at + length front) (at + length front + n)) fewer ∙ part)))

  -- the spec of a record is the one that it was given, as its words spell it
  pub record_spec : spec_of words at ≡ spelled r.spec
  record_spec =
      (λ i. spec_named (word 4 (omega arith) i) (word 5 (omega arith) i) (word 6 (omega arith) i) (word 7 (omega arith) i) (inner_ranges words at))
      ∙ named_by r.spec (inner_ranges words at) ranges_part

  pub buckets_are : record_buckets words at ≡ buckets_of r.spec
  buckets_are = ap buckets_of record_spec ∙ buckets_spelled r.spec

  pub boundaries_are : boundaries_of (spec_of words at) ≡ boundaries_of r.spec
  boundaries_are = ap boundaries_of record_spec ∙ boundaries_spelled r.spec

  pub key_is : (i : ℕ) → key_at words at i ≡ key_of_bucket r.spec i
  key_is i = ap (λ (boundaries : List ℕ). pos (slice_index boundaries i)) boundaries_are

  pub form_is : (v : ℕ) → record_single v words at ≡ form_at v r
  form_is v = λ i. single_of v (buckets_are i) (word 9 (omega arith) i)
