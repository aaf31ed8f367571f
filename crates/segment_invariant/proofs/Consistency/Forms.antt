-- Records among words that are laid out have valid forms: those in which somebody counts or nobody does, and those that are passed over.
use Rattle.segment_invariant.proofs.Prelude.Std.{◌≡◌, ◌≢◌, Bool, true, false, ◌&&◌, nat_le, ℕ, ◌+◌, ◌-◌, ◌*◌, ◌<◌, ◌≤◌, List, ◌++◌, length, All, Contains, inl, inr, refl, sym, ap, subst, ◌∙◌, arith, length-append, ◌==◌, slice_index, eqb-true, eqb-false, eq-eqb, and_from, le-leb}
use Rattle.segment_invariant.proofs.Prelude.Machine.{Dimensions, head_of, field_at, is_block, buckets_of, record_buckets, record_single, packed_bucket, is_off, units_in}
use Rattle.segment_invariant.proofs.Prelude.Invariant.{Record, Counts, record_words, histogram, counts, Listed, Anatomy, order_of, form_at, HasRecord, IsLawfulRecord, IsCountsOf, IsPassedOver}
use Rattle.std.proofs.lemmas.Bool.{cases_lt, or_left, or_right}
use Rattle.bucket_ranges.specs.Reading.{has_counts}
use Rattle.segment_invariant.specs.Consistent.{HasForm}
use Rattle.segment_invariant.specs.Body.{counts_words}
use Rattle.segment_invariant.specs.Seen.{HoldsAs}
use Rattle.segment_invariant.specs.Words.{AreLaid}
use Rattle.segment_invariant.proofs.Lists.FewTerms.{zero_index}
use Rattle.segment_invariant.proofs.Blocks.Pieces.{piece_word}
use Rattle.segment_machine.proofs.SmallNumbers.{below_three}
use Rattle.segment_invariant.proofs.Counting.Seen.{count_in, mark_in}
use Rattle.segment_invariant.proofs.Consistency.Blocks.{lawful_piece}
use Rattle.segment_invariant.proofs.Consistency.Records.{record_word}
use Rattle.segment_invariant.proofs.Consistency.Specs.{buckets_are, form_is}
use Rattle.segment_invariant.proofs.Consistency.Keys.{packed_within}
use Rattle.segment_invariant.proofs.Consistency.Firsts.{record_on_list}
use Rattle.segment_invariant.proofs.Consistency.Totals.{sparse_kind}
use Rattle.segment_invariant.proofs.Consistency.PassedOver.{told, told_shown, told_stands}

-- ---- a record among the words

-- Words show a counts block at a place: a valid block with its words.
pub record TellsCounts (words : List ℕ) (at : ℕ) (c : Counts) : Type 0 where
  pub block : is_block words (head_of words) at ≡ true
  pub word : (j : ℕ) → j < length (counts_words c) → field_at words at j ≡ slice_index (counts_words c) j

-- They show a record: its own words up to its name, its buckets, its form, and its counts if it names some; until then its mark is at most
-- its packed units.
pub record TellsRecord (words : List ℕ) (page version at : ℕ) (r : Record) : Type 0 where
  pub lawful : IsLawfulRecord version page r
  pub word : (j : ℕ) → j < 15 → field_at words at j ≡ slice_index (record_words r) j
  pub many : record_buckets words at ≡ buckets_of r.spec
  pub form : record_single version words at ≡ form_at version r
  pub counts : r.counts ≢ 0 → (c : Counts) × TellsCounts words r.counts c × IsCountsOf version at r c
  pub packed : r.counts ≡ 0 → r.mark ≤ units_in (form_at version r)

module _ (words : List ℕ) (version at : ℕ) (r : Record) (c : Counts) (tells : TellsCounts words r.counts c) (of_it : IsCountsOf version at r c) where
  counts_long : length (counts_words c) ≡ 4 + (length c.units + (length c.marks + length c.rest))
  counts_long =
      let long = length-append c.units c.marks in
      let all = length-append (c.units ++ c.marks) c.rest in
      omega (arith, long, all)

  -- its counts and marks
  pub told_count : (i : ℕ) → i < buckets_of r.spec → field_at words r.counts (4 + i) ≡ slice_index c.units i
  told_count i below =
      let long = counts_long in
      let units = of_it.units in
      tells.word (4 + i) (omega (arith, below, long, units)) ∙ count_in c i (omega (arith, below, units))

  pub told_mark : (i : ℕ) → i < buckets_of r.spec → field_at words r.counts (4 + buckets_of r.spec + i) ≡ slice_index c.marks i
  told_mark i below =
      let long = counts_long in
      let units = of_it.units in
      let marks = of_it.marks in
      ap (λ (n : ℕ). field_at words r.counts (4 + n + i)) (sym units)
      ∙ (tells.word (4 + length c.units + i) (omega (arith, below, long, units, marks)) ∙ mark_in c i (omega (arith, below, marks)))

  -- the words of all of them are 0 if they are all 0
  told_nothing : (i : ℕ) → All (λ n. n ≡ 0) c.units → All (λ n. n ≡ 0) c.marks → i < 2 * buckets_of r.spec → field_at words r.counts (4 + i) ≡ 0
  told_nothing i no_units no_marks below = elim (cases_lt i (buckets_of r.spec)) [
    | inl low ↦ told_count i low ∙ zero_index c.units i no_units
    | inr high ↦
        let n : ℕ = buckets_of r.spec in
        let place : 4 + i ≡ 4 + n + (i - n) = omega (arith, high) in
        ap (field_at words r.counts) place ∙ (told_mark (i - n) (omega (arith, high, below)) ∙ zero_index c.marks (i - n) no_marks)
  ]

  -- they are a valid counts block
  counts_lawful : (is_block words (head_of words) r.counts && (field_at words r.counts 2 == 2) && nat_le (4 + 2 * buckets_of r.spec) (field_at words r.counts 0)) ≡ true
  counts_lawful =
      let long = counts_long in
      let tag = tells.word 2 (omega (arith, long)) in
      let size = tells.word 0 (omega (arith, long)) in
      let units = of_it.units in
      let marks = of_it.marks in
      let sized = of_it.sized in
      and_from _ _ (and_from _ _ tells.block (eq-eqb (field_at words r.counts 2) 2 tag))
      (le-leb (4 + 2 * buckets_of r.spec) (field_at words r.counts 0) (omega (arith, size, units, marks, sized)))

module _ (words : List ℕ) (page version at : ℕ) (r : Record) (tells : TellsRecord words page version at r) where
  reference : field_at words at 8 ≡ r.counts
  reference = tells.word 8 (omega arith)

  single : field_at words at 9 ≡ r.single
  single = tells.word 9 (omega arith)

  -- the counts that it names
  named_counts : field_at words at 8 ≢ 0 → (c : Counts) × TellsCounts words r.counts c × IsCountsOf version at r c
  named_counts some_there = tells.counts (λ e. some_there (reference ∙ e))

  -- its counts reference is 0 or leads to them
  pub told_counts : has_counts words (head_of words) at ≡ true
  told_counts = by_counts (r.counts == 0) (eqb-true r.counts 0) (eqb-false r.counts 0)
    where
      by_counts : (b : Bool) → (b ≡ true → r.counts ≡ 0) → (b ≡ false → r.counts ≢ 0) → has_counts words (head_of words) at ≡ true
      by_counts true none_there some_there = or_left _ _ (eq-eqb (field_at words at 8) 0 (reference ∙ none_there refl))
      by_counts false none_there some_there =
          let (c, there, of_it) = tells.counts (some_there refl) in
          or_right _ _ (subst (λ (p : ℕ × ℕ). (is_block words (head_of words) p.0 && (field_at words p.0 2 == 2)
          && nat_le (4 + 2 * p.1) (field_at words p.0 0)) ≡ true) (λ j. (sym reference j, sym tells.many j)) (counts_lawful words version at r c there of_it))

  pub told_form : HasForm version words at
  told_form = record {
    sparse = λ is i from below.
        let kind = sparse_kind r.spec (sym (ap (λ (n : ℕ). n == 4) (tells.word 4 (omega arith))) ∙ is) in
        let empty = tells.lawful.sparse kind in
        let split : 8 + (i - 8) ≡ i = omega (arith, from) in
        subst (λ (i : ℕ). field_at words at i ≡ 0) split
        (below_three (λ k. field_at words at (8 + k) ≡ 0) (reference ∙ empty.0) (single ∙ empty.1)
        (tells.word 10 (omega arith) ∙ empty.2) (i - 8) (omega (arith, from, below)));
    counts = λ is. told_counts;
    lawful = λ is no_form. tells.lawful.formed (sym tells.form ∙ no_form);
    off = λ is off empty. tells.lawful.off (subst (λ (n : ℕ). is_off n ≡ true) single off) (sym reference ∙ empty);
    unused = λ is on some_there i below.
        let (c, there, of_it) = named_counts some_there in
        let zeros = of_it.unused (subst (λ (n : ℕ). is_off n ≡ false) single on) in
        ap (λ (counts : ℕ). field_at words counts (4 + i)) reference
        ∙ told_nothing words version at r c there of_it i zeros.0 zeros.1 (subst (λ (n : ℕ). i < 2 * n) tells.many below);
    packed = λ is some_there i first.
        let (c, there, of_it) = named_counts some_there in
        let here = sym (ap packed_bucket tells.form) ∙ first in
        let below = packed_within version (buckets_of r.spec) r.single i here in
        (λ j. field_at words (reference j) (4 + tells.many j + i)) ∙ (told_mark words version at r c there of_it i below ∙ of_it.packed i here);
  }

-- ---- words that are laid out

module _ (shape : Dimensions) (opened : Anatomy) (words : List ℕ) (kept : AreLaid shape opened words) where
  -- the words show each record
  pub tells_record : (at : ℕ) (r : Record) → HasRecord kept.anatomy.pieces at r → TellsRecord words shape.page kept.anatomy.version at r
  tells_record at r has =
      let lawful = kept.records.lawful at r has in
      record {
        lawful = lawful;
        word = λ j below. record_word shape words kept.anatomy kept.shown at r j has below;
        many = buckets_are shape words kept.anatomy kept.shown kept.anatomy.version at r has lawful;
        form = form_is shape words kept.anatomy kept.shown kept.anatomy.version at r has lawful kept.anatomy.version;
        counts = λ some_there.
            let (c, (k, there), of_it) = kept.records.mounted at r has some_there in (
              c,
              record {
                block = lawful_piece shape words kept.anatomy kept.shown kept.blocks k _ there refl;
                word = λ j below. piece_word shape words kept.anatomy kept.shown k _ j there below;
              },
              of_it,
            );
        packed = kept.records.packed at r has;
      }

  -- of a block that holds what counts would, they show counts
  pub tells_counts : (at : ℕ) (c : Counts) → HoldsAs kept.anatomy.pieces at (counts c) → TellsCounts words at c
  tells_counts at c holds =
      let (k, there) = told_stands shape opened words kept at (counts c) holds in
      record {
        block = lawful_piece shape words kept.anatomy kept.shown kept.blocks holds.4.0 _ holds.4.1 refl;
        word = λ j below.
            piece_word shape words (told shape opened words kept at (counts c) holds) (told_shown shape opened words kept at (counts c) holds) k _ j there below;
      }

  -- and each record that is passed over
  pub tells_passed : (front : List Listed) (at : ℕ) (r : Record) → IsPassedOver kept.anatomy.version shape.page kept.anatomy.pieces front at r
      → TellsRecord words shape.page kept.anatomy.version at r
  tells_passed front at r over =
      let anatomy = told shape opened words kept at (histogram r) over.stands in
      let shown = told_shown shape opened words kept at (histogram r) over.stands in
      let has = told_stands shape opened words kept at (histogram r) over.stands in
      record {
        lawful = over.lawful;
        word = λ j below. record_word shape words anatomy shown at r j has below;
        many = buckets_are shape words anatomy shown kept.anatomy.version at r has over.lawful;
        form = form_is shape words anatomy shown kept.anatomy.version at r has over.lawful kept.anatomy.version;
        counts = λ some_there.
            let (c, holds, of_it, bounded) = over.counted some_there in (c, tells_counts r.counts c holds, of_it);
        packed = over.packed;
      }

  -- so they show each record on the list
  pub tells_listed : (at : ℕ) → Contains (order_of kept.anatomy) at → field_at words at 2 ≡ 1
      → (r : Record) × TellsRecord words shape.page kept.anatomy.version at r
  tells_listed at there one = elim (record_on_list shape opened words kept at there one) [
    | inl (l, name, kind, r, among, place, made, (has, named, specified)) ↦ (r, tells_record at r has)
    | inr (l, front, r, among, nothing, over) ↦ (r, tells_passed front at r over.0)
  ]

  pub counts_are : (at : ℕ) (r : Record) → HasRecord kept.anatomy.pieces at r → has_counts words (head_of words) at ≡ true
  counts_are at r has = told_counts words shape.page kept.anatomy.version at r (tells_record at r has)

  pub formed_as : (at : ℕ) (r : Record) → HasRecord kept.anatomy.pieces at r → HasForm opened.version words at
  formed_as at r has = subst (λ (v : ℕ). HasForm v words at) kept.same (told_form words shape.page kept.anatomy.version at r (tells_record at r has))

  pub passed_as : (front : List Listed) (at : ℕ) (r : Record) → IsPassedOver kept.anatomy.version shape.page kept.anatomy.pieces front at r
      → HasForm opened.version words at
  passed_as front at r over =
      subst (λ (v : ℕ). HasForm v words at) kept.same (told_form words shape.page kept.anatomy.version at r (tells_passed front at r over))
