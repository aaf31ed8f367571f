-- The marks of a kept state are what was taken.
use Rattle.segment_invariant.proofs.Prelude.Std.{◌≡◌, ◌≢◌, Bool, true, false, if◌then◌else◌, ℕ, ◌+◌, ◌<◌, ◌≤◌, max, List, length, refl, sym, ap, subst, ◌∙◌, arith, Option, Some, None, slice_index, ◌==◌, w64, cast_signed, eqb-true, eqb-false, eq-eqb, ne_eqb, All-weaker}
use Rattle.segment_invariant.proofs.Prelude.Machine.{Dimensions, word_at, field_at, Spec, SingleWord, Empty, Packed, Disabled, FrozenEmpty, Frozen, buckets_of, record_single, total_of, mark_of, packed_bucket, is_packed_bucket, units_packed, Sighting, State, tally_units, units_in, all_counted}
use Rattle.segment_invariant.proofs.Prelude.Invariant.{Record, Anatomy, form_at, key_of_bucket, at_bucket, keyed, marks_held, all_held, HasRecord, IsFirst, WasCounter, Invariant}
use Rattle.bucket_ranges.specs.declared.spec.Spec.TheVariants as spec
use Rattle.bucket_ranges.specs.Reading.{count_at, mark_at}
use Rattle.segment_invariant.specs.Consistent.{key_at, units_taken}
use Rattle.segment_invariant.specs.Keeps.{KeptMarksAreTaken}
use Rattle.segment_invariant.specs.Words.{AreLaid}
use Rattle.segment_invariant.proofs.Frames.LaidOut.{laid_out}
use Rattle.segment_invariant.proofs.Blocks.Places.{counter_within}
use Rattle.segment_invariant.proofs.Blocks.Pieces.{piece_word}
use Rattle.segment_invariant.proofs.Consistency.Records.{record_word}
use Rattle.segment_invariant.proofs.Consistency.Specs.{buckets_are, key_is, form_is}
use Rattle.segment_invariant.proofs.Consistency.Keys.{packed_within, packed_mark}
use Rattle.segment_invariant.proofs.Consistency.Sums.{sum_mark_is}
use Rattle.segment_invariant.proofs.Consistency.Firsts.{first_of_name, first_of_value}
use Rattle.segment_invariant.proofs.Consistency.Forms.{TellsRecord, tells_record, tells_listed, told_count}
use Rattle.segment_invariant.proofs.Consistency.Books.{marks_book, keyed_one, bucket_alone, bucket_mounted, value_held}
use Rattle.segment_invariant.proofs.Consistency.Totals.{sparse_kind, bucketed_kind, kind_word, mark_word, placed}

-- ---- the packed bucket of a form

pub packed_is : (form : Option SingleWord) (i : ℕ) → is_packed_bucket form i ≡ true → packed_bucket form ≡ Some i
packed_is form i = by_packed (packed_bucket form) refl
  where
    by_packed : (packed : Option ℕ) → packed_bucket form ≡ packed → is_packed_bucket form i ≡ true → packed_bucket form ≡ Some i
    by_packed None is passes = cc (is, passes)
    by_packed (Some bucket) is passes =
        let test : bucket == i ≡ true = cc (is, passes) in
        is ∙ ap Some (eqb-true bucket i test)

-- it has all units of the form
pub packed_all : (form : Option SingleWord) (i : ℕ) → packed_bucket form ≡ Some i → units_in form ≡ units_packed form i
packed_all (Some (Packed bucket units)) i is =
    let same : bucket ≡ i = cc is in
    sym (ap (λ (b : Bool). if b then units else 0) (eq-eqb bucket i same))
packed_all (Some Empty) i is = refl
packed_all (Some (Disabled packed)) i is = refl
packed_all (Some FrozenEmpty) i is = refl
packed_all (Some (Frozen bucket units)) i is =
    let same : bucket ≡ i = cc is in
    sym (ap (λ (b : Bool). if b then units else 0) (eq-eqb bucket i same))
packed_all None i is = refl

-- the greater of two numbers is no less than the first
at_most_greater : (k n m : ℕ) → k ≤ n → k ≤ max n m
at_most_greater k n m le = omega (arith, le)

-- ---- a record among the words

module _ (words : List ℕ) (page version at : ℕ) (r : Record) (tells : TellsRecord words page version at r) where
  -- in version 1 the single mark is at most the greater of its bucket's total and 65,535
  told_bound : version ≡ 1 → (i : ℕ) → packed_bucket (form_at version r) ≡ Some i → r.mark ≤ max (total_of version words at i) 65535
  told_bound one i packed =
      subst (λ (n : ℕ). r.mark ≤ max n 65535) (λ j. count_at words (sym (tells.word 8 (omega arith)) j) i + units_packed (sym tells.form j) i)
      (by_counts (r.counts == 0) (eqb-true r.counts 0) (eqb-false r.counts 0))
    where
      by_counts : (b : Bool) → (b ≡ true → r.counts ≡ 0) → (b ≡ false → r.counts ≢ 0)
          → r.mark ≤ max (count_at words r.counts i + units_packed (form_at version r) i) 65535
      by_counts true none_there some_there =
          let bound = tells.packed (none_there refl) in
          let all = packed_all (form_at version r) i packed in
          at_most_greater r.mark (count_at words r.counts i + units_packed (form_at version r) i) 65535 (omega (arith, bound, all))
      by_counts false none_there some_there =
          let (c, there, of_it) = tells.counts (some_there refl) in
          let below = packed_within version (buckets_of r.spec) r.single i packed in
          let count = ap (λ (b : Bool). if b then 0 else field_at words r.counts (4 + i)) (ne_eqb r.counts 0 (some_there refl))
          ∙ told_count words version at r c there of_it i below in
          subst (λ (n : ℕ). r.mark ≤ max (n + units_packed (form_at version r) i) 65535) (sym count) (of_it.mark one i packed)

-- ---- words that are laid out

module _ (shape : Dimensions) (opened : Anatomy) (words : List ℕ) (kept : AreLaid shape opened words) where
  abbrev form : Record → Option SingleWord
  form r = form_at kept.anatomy.version r

  -- a bucket's mark is what blocks hold of its key
  pub mark_held : (name : List ℕ) (kind : Spec) (at : ℕ) (r : Record) → IsFirst kept.anatomy.records name kind at → HasRecord kept.anatomy.pieces at r
      → r.name ≡ name → r.spec ≡ kind → r.spec ≢ spec.Sparse → (i : ℕ) → i < buckets_of r.spec
      → mark_of kept.anatomy.version words at i ≡ all_held (marks_held kept.anatomy.version name (key_of_bucket r.spec i)) kept.anatomy.pieces
  mark_held name kind at r first has named specified bucketed i below = words_say ∙ by_counts (r.counts == 0) (eqb-true r.counts 0) (eqb-false r.counts 0)
    where
      words_say : mark_of kept.anatomy.version words at i ≡ mark_at words r.counts (buckets_of r.spec) (form r) r.mark i
      words_say =
          let lawful = kept.records.lawful at r has in
          let counts_ref = record_word shape words kept.anatomy kept.shown at r 8 has (omega arith) in
          let mark = record_word shape words kept.anatomy kept.shown at r 10 has (omega arith) in
          let single = form_is shape words kept.anatomy kept.shown kept.anatomy.version at r has lawful kept.anatomy.version in
          let many = buckets_are shape words kept.anatomy kept.shown kept.anatomy.version at r has lawful in
          (λ j. mark_at words (counts_ref j) (many j) (single j) (mark j) i)

      packed : at_bucket r.spec (key_of_bucket r.spec i) (packed_bucket (form r)) r.mark ≡ (if is_packed_bucket (form r) i then r.mark else 0)
      packed = packed_mark r.spec (kept.records.lawful at r has).lawful bucketed i below (form r) r.mark
          (λ bucket is. packed_within kept.anatomy.version (buckets_of r.spec) r.single bucket is)

      -- the mark is the single one, or comes after the counts
      either : (b : Bool) (mark rest : ℕ) → (b ≡ true → rest ≡ 0) → (if b then mark else rest) ≡ (if b then mark else 0) + rest
      either true mark rest none_there = let e = none_there refl in omega (arith, e)
      either false mark rest none_there = omega arith

      by_counts : (b : Bool) → (b ≡ true → r.counts ≡ 0) → (b ≡ false → r.counts ≢ 0)
          → mark_at words r.counts (buckets_of r.spec) (form r) r.mark i
          ≡ all_held (marks_held kept.anatomy.version name (key_of_bucket r.spec i)) kept.anatomy.pieces
      by_counts true none_there some_there =
          ap (λ (counts_ref : ℕ). mark_at words counts_ref (buckets_of r.spec) (form r) r.mark i) (none_there refl)
          ∙ sym (bucket_alone shape opened words kept name kind at r first has named specified (key_of_bucket r.spec i) _ _ _ _
          (marks_book kept.anatomy.version name (key_of_bucket r.spec i)) bucketed (none_there refl) ∙ packed)
      by_counts false none_there some_there =
          let (c, mounted, of_it) = kept.records.mounted at r has (some_there refl) in
          let long : length c.marks ≡ buckets_of r.spec = of_it.marks in
          let all = bucket_mounted shape opened words kept name kind at r first has named specified (key_of_bucket r.spec i) _ _ _ _
          (marks_book kept.anatomy.version name (key_of_bucket r.spec i)) bucketed c mounted of_it.named in
          let one = ap (λ (kind : Spec). keyed kind (key_of_bucket r.spec i) c.marks) of_it.same
          ∙ keyed_one r.spec c.marks i (kept.records.lawful at r has).lawful bucketed long below in
          let word = ap (λ (b : Bool). if b then 0 else field_at words r.counts (4 + buckets_of r.spec + i)) (ne_eqb r.counts 0 (some_there refl))
          ∙ mark_word shape opened words kept r.counts c (buckets_of r.spec) i mounted of_it.units (omega (arith, below, long)) in
          let says = ap (λ (rest : ℕ). if is_packed_bucket (form r) i then r.mark else rest) word in
          let parts = either (is_packed_bucket (form r) i) r.mark (slice_index c.marks i) (λ passes. of_it.packed i (packed_is (form r) i passes)) in
          omega (arith, says, parts, all, packed, one)

  -- in version 1 the single mark is at most the greater of its bucket's total and 65,535
  pub mark_bound : (at : ℕ) (r : Record) → HasRecord kept.anatomy.pieces at r → kept.anatomy.version ≡ 1 → (i : ℕ) → packed_bucket (form r) ≡ Some i
      → r.mark ≤ max (total_of kept.anatomy.version words at i) 65535
  mark_bound at r has = told_bound words shape.page kept.anatomy.version at r (tells_record shape opened words kept at r has)

-- ---- a kept state

module _ (shape : Dimensions) (opened : Anatomy) (state : State) (kept : Invariant shape opened state) where
  -- a counter that was seen is at most the present one
  seen_within : (s : Sighting) → WasCounter kept.anatomy.pieces s → s.word ≤ word_at state.words s.at
  seen_within s (at, i, body, stands, place, counter, most) =
      let word = piece_word shape state.words kept.anatomy kept.shown stands.0 _ i stands.1 (counter_within body i counter) in
      let here = ap (word_at state.words) place in
      omega (arith, most, word, here)

pub marks_are_taken : KeptMarksAreTaken
marks_are_taken shape opened state kept = record {
  buckets = λ name at i is plain below.
      let (kind, r, first, (has, named, specified)) = first_of_name shape opened state.words (laid_out shape opened state kept) name at is in
      let right = kept.records.lawful at r has in
      let bucketed = bucketed_kind r.spec (sym (kind_word shape opened state.words (laid_out shape opened state kept) at r has) ∙ plain) in
      let within : i < buckets_of r.spec = subst (λ (n : ℕ). i < n) (buckets_are shape state.words kept.anatomy kept.shown kept.anatomy.version at r has right) below in
      let held = mark_held shape opened state.words (laid_out shape opened state kept) name kind at r first has named specified bucketed i within in
      let key = key_is shape state.words kept.anatomy kept.shown kept.anatomy.version at r has right i in
      let taken : mark_of opened.version state.words at i ≡ units_taken state.actors name (key_at state.words at i) =
      ap (λ (v : ℕ). mark_of v state.words at i) (sym kept.same.0)
      ∙ (held ∙ (kept.balanced.marks name (key_of_bucket r.spec i) ∙ ap (units_taken state.actors name) (sym key))) in
      (taken, subst (λ (n : ℕ). n ≤ tally_units (all_counted state.actors) name (key_at state.words at i)) (sym taken) (kept.balanced.taken name (key_at state.words at i)));
  values = λ name at place value is sparse first_value.
      let (kind, r, first, (has, named, specified)) = first_of_name shape opened state.words (laid_out shape opened state kept) name at is in
      let sparse_spec = sparse_kind r.spec (sym (kind_word shape opened state.words (laid_out shape opened state kept) at r has) ∙ sparse) in
      let (s, first_of, (stands, of_it, valued)) = first_of_value shape opened state.words (laid_out shape opened state kept) at value place first_value in
      let held = value_held shape opened state.words (laid_out shape opened state kept) name kind at r first has named specified value _ _ _ _
      (marks_book kept.anatomy.version name value) sparse_spec place s first_of stands of_it valued in
      let mark = piece_word shape state.words kept.anatomy kept.shown stands.0 _ 7 stands.1 (omega arith) in
      let units = piece_word shape state.words kept.anatomy kept.shown stands.0 _ 6 stands.1 (omega arith) in
      let most = (kept.records.valued place s stands).taken in
      (mark ∙ (sym held ∙ kept.balanced.marks name value), omega (arith, mark, units, most));
  placed = λ t count among counted. placed shape opened state kept t.name count.0 (kept.taken_keys t count among counted);
  unpacked = λ at there one empty.
      let (r, tells) = tells_listed shape opened state.words (laid_out shape opened state kept) at there one in
      let here : packed_bucket (form_at kept.anatomy.version r) ≡ None =
      sym (ap packed_bucket tells.form) ∙ (ap (λ (v : ℕ). packed_bucket (record_single v state.words at)) kept.same.0 ∙ empty) in
      tells.word 10 (omega arith) ∙ tells.lawful.unpacked here;
  packed = λ at i there one first packed.
      let (r, tells) = tells_listed shape opened state.words (laid_out shape opened state kept) at there one in
      let here : packed_bucket (form_at kept.anatomy.version r) ≡ Some i =
      sym (ap packed_bucket tells.form) ∙ (ap (λ (v : ℕ). packed_bucket (record_single v state.words at)) kept.same.0 ∙ packed) in
      let bound = told_bound state.words shape.page kept.anatomy.version at r tells (kept.same.0 ∙ first) i here in
      subst (λ (p : ℕ × ℕ). p.0 ≤ max (total_of p.1 state.words at i) 65535) (λ j. (sym (tells.word 10 (omega arith)) j, kept.same.0 j)) bound;
  sum = λ name at is.
      let (kind, r, first, (has, named, specified)) = first_of_name shape opened state.words (laid_out shape opened state kept) name at is in
      ap (cast_signed w64) (record_word shape state.words kept.anatomy kept.shown at r 12 has (omega arith))
      ∙ (sym (sum_mark_is shape opened state.words (laid_out shape opened state kept) name kind at r first has named) ∙ kept.balanced.sum_marks name);
  seen = λ who a there lives. All-weaker (WasCounter kept.anatomy.pieces) (λ s. s.word ≤ word_at state.words s.at)
      (seen_within shape opened state kept) a.seen.counts (kept.each who a there lives).sees.counters;
  snapshots = λ who a there lives. (kept.each who a there lives).snapshots;
}
