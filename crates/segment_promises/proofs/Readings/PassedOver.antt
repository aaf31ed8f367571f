-- A record that is passed over among words that are laid out: its counts are there, its totals and marks are bounded, and so are its sums.
use Rattle.segment_invariant.proofs.Prelude.Std.{◌≡◌, ◌≢◌, Bool, true, false, if◌then◌else◌, ℕ, ◌+◌, ◌<◌, ◌≤◌, inl, refl, ap, ◌∙◌, arith, Option, Some, List, None, ◌==◌, w64, cast_signed, eq-eqb, ne_eqb, eqb-true, eqb-false}
use Rattle.segment_invariant.proofs.Prelude.Machine.{Dimensions, field_at, buckets_of, SingleWord, units_packed, packed_bucket, is_packed_bucket, total_of, mark_of, is_off}
use Rattle.segment_invariant.proofs.Prelude.Invariant.{Record, Listed, Anatomy, form_at, IsPassedOver}
use Rattle.bucket_ranges.specs.Reading.{count_at, is_bad_sum, is_bad_record_sum}
use Rattle.segment_invariant.specs.Invariant.{total_in, mark_in}
use Rattle.segment_invariant.specs.Words.{AreBounded, AreLaid}
use Rattle.segment_invariant.proofs.Packing.Forms.{units_most}
use Rattle.segment_invariant.proofs.Packing.OffForms.{few_buckets, disabling}
use Rattle.segment_invariant.proofs.Consistency.Marks.{packed_all}
use Rattle.segment_invariant.proofs.Consistency.Forms.{TellsRecord, tells_passed, tells_counts, told_count, told_mark}

-- a number is a test's mark if that test finds it
tested : (form : Option SingleWord) (i : ℕ) → is_packed_bucket form i ≡ true → packed_bucket form ≡ Some i
tested form i is = by_packed (packed_bucket form) refl
  where
    by_packed : (packed : Option ℕ) → packed_bucket form ≡ packed → packed_bucket form ≡ Some i
    by_packed None here = cc (is, here)
    by_packed (Some bucket) here = here ∙ ap Some (eqb-true bucket i (cc (is, here)))

module _ (shape : Dimensions) (opened : Anatomy) (words : List ℕ) (kept : AreLaid shape opened words) (front : List Listed) (at : ℕ) (r : Record)
    (over : IsPassedOver kept.anatomy.version shape.page kept.anatomy.pieces front at r) where
  abbrev version : ℕ
  version = kept.anatomy.version

  tells : TellsRecord words shape.page version at r
  tells = tells_passed shape opened words kept front at r over

  -- its sums
  pub passed_sum : is_bad_record_sum words at ≡ false
  passed_sum = (λ i. is_bad_sum (cast_signed w64 (tells.word 11 (omega arith) i)) (cast_signed w64 (tells.word 12 (omega arith) i))) ∙ over.sums

  -- ---- its totals and marks

  total_is : (i : ℕ) → total_of version words at i ≡ count_at words r.counts i + units_packed (form_at version r) i
  total_is i = λ j. count_at words (tells.word 8 (omega arith) j) i + units_packed (tells.form j) i

  abbrev mark_words : ℕ → ℕ → ℕ → ℕ
  mark_words reference n i = if reference == 0 then 0 else field_at words reference (4 + n + i)

  mark_is : (i : ℕ) → mark_of version words at i ≡ (if is_packed_bucket (form_at version r) i then r.mark else mark_words r.counts (buckets_of r.spec) i)
  mark_is i = λ j. if is_packed_bucket (tells.form j) i then tells.word 10 (omega arith) j else mark_words (tells.word 8 (omega arith) j) (tells.many j) i

  -- if it names no counts, the packed units alone
  alone : r.counts ≡ 0 → (i : ℕ) → (total_of version words at i ≤ 4294967295) × (mark_of version words at i ≤ total_of version words at i)
  alone none_there i =
      let lawful = over.lawful in
      let nothing : count_at words r.counts i ≡ 0 = ap (λ (b : Bool). if b then 0 else field_at words r.counts (4 + i)) (eq-eqb r.counts 0 none_there) in
      let total = total_is i in
      let on : is_off r.single ≡ false = not_off (is_off r.single) refl in
      let few = (disabling version (buckets_of r.spec) r.single kept.versions (let many = few_buckets r.spec lawful.lawful in omega (arith, many)) lawful.formed on).few in
      let most = units_most (form_at version r) i in
      let mark = mark_is i in
      let small : (if is_packed_bucket (form_at version r) i then r.mark else mark_words r.counts (buckets_of r.spec) i) ≤ units_packed (form_at version r) i =
      by_test (is_packed_bucket (form_at version r) i) refl in
      (omega (arith, nothing, total, few, most), omega (arith, nothing, total, mark, small))
    where
      not_off : (b : Bool) → is_off r.single ≡ b → is_off r.single ≡ false
      not_off true off = absurd (over.lawful.off off none_there)
      not_off false on = on

      by_test : (b : Bool) → is_packed_bucket (form_at version r) i ≡ b
          → (if b then r.mark else mark_words r.counts (buckets_of r.spec) i) ≤ units_packed (form_at version r) i
      by_test true packs =
          let least = over.packed none_there in
          let all = packed_all (form_at version r) i (tested (form_at version r) i packs) in
          omega (arith, least, all)
      by_test false packs =
          let nothing : mark_words r.counts (buckets_of r.spec) i ≡ 0 =
          ap (λ (b : Bool). if b then 0 else field_at words r.counts (4 + buckets_of r.spec + i)) (eq-eqb r.counts 0 none_there) in
          omega (arith, nothing)

  -- if it does, with its counts
  mounted : r.counts ≢ 0 → (i : ℕ) → i < buckets_of r.spec
      → (total_of version words at i ≤ 4294967295) × (mark_of version words at i ≤ total_of version words at i)
  mounted some_there i below =
      let (c, holds, of_it, bounded) = over.counted some_there in
      let told = tells_counts shape opened words kept r.counts c holds in
      let there : (r.counts == 0) ≡ false = ne_eqb r.counts 0 some_there in
      let total : total_of version words at i ≡ total_in version r c i =
      total_is i ∙ (ap (λ (b : Bool). (if b then 0 else field_at words r.counts (4 + i)) + units_packed (form_at version r) i) there
      ∙ ap (λ (n : ℕ). n + units_packed (form_at version r) i) (told_count words version at r c told of_it i below)) in
      let mark : mark_of version words at i ≡ mark_in version r c i =
      mark_is i ∙ (ap (λ (b : Bool). if is_packed_bucket (form_at version r) i then r.mark else (if b then 0 else field_at words r.counts (4 + buckets_of r.spec + i))) there
      ∙ ap (λ (n : ℕ). if is_packed_bucket (form_at version r) i then r.mark else n) (told_mark words version at r c told of_it i below)) in
      let (few, taken) = bounded i below in
      (omega (arith, total, few), omega (arith, total, mark, taken))

  each_bounded : (i : ℕ) → i < buckets_of r.spec → (total_of version words at i ≤ 4294967295) × (mark_of version words at i ≤ total_of version words at i)
  each_bounded i below = by_counts (r.counts == 0) (eqb-true r.counts 0) (eqb-false r.counts 0)
    where
      by_counts : (b : Bool) → (b ≡ true → r.counts ≡ 0) → (b ≡ false → r.counts ≢ 0)
          → (total_of version words at i ≤ 4294967295) × (mark_of version words at i ≤ total_of version words at i)
      by_counts true none_there some_there = alone (none_there refl) i
      by_counts false none_there some_there = mounted (some_there refl) i below

  pub passed_bounded : AreBounded version words at (buckets_of r.spec)
  passed_bounded = record { total = λ i below. (each_bounded i below).0; mark = λ i below. inl (each_bounded i below).1 }
