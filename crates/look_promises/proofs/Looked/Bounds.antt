-- The numbers of a look are ones that a segment can reach, if its records are kept.
use Rattle.segment_invariant.proofs.Prelude.Std.{◌≡◌, ◌≢◌, ℕ, ◌+◌, ◌<◌, ◌==◌, Bool, true, false, List, length, inl, inr, refl, sym, ap, subst, ◌∙◌, arith, if◌then◌else◌, none, Contains, eqb-false, w64, cast_signed}
use Rattle.segment_invariant.proofs.Prelude.Machine.{word_at, field_at, buckets_of, mark_of}
use Rattle.segment_invariant.proofs.Prelude.Invariant.{Record, Counts, Sample, form_at, HasRecord, HasCounts}
use Rattle.bucket_ranges.specs.Reading.{is_bad_sum, mark_at}
use Rattle.bucket_ranges.specs.Single.{is_packed_bucket}
use Rattle.segment_looks.specs.Looks.{IsLook, counts_reference}
use Rattle.segment_invariant.specs.Invariant.{RecordsAreKept}
use Rattle.segment_invariant.specs.Words.{AreLaid, AreBounded, AreInBounds}
use Rattle.segment_invariant.proofs.Blocks.Pieces.{one_stands}
use Rattle.segment_invariant.proofs.Consistency.Records.{record_word}
use Rattle.segment_invariant.proofs.Consistency.Specs.{buckets_are, form_is}
use Rattle.segment_invariant.proofs.Consistency.Totals.{mark_word}
use Rattle.look_promises.specs.Images.{mark_looked, looked_counts}
use Rattle.look_promises.proofs.Copies.ThreeCopies.{ThreeCopies, seen_in, hd_of}
use Rattle.look_promises.proofs.Copies.References.{named}
use Rattle.look_promises.proofs.Amounts.Marks.{marks_bounded}
use Rattle.look_promises.proofs.Amounts.Samples.{samples_bounded}
use Rattle.look_promises.proofs.Amounts.Sums.{have_sums}
use Rattle.look_promises.proofs.Looked.Agreeing.{range_word}
use Rattle.look_promises.proofs.Looked.Taken.{record_looked}
use Rattle.look_promises.proofs.Looked.Anatomy.{seen_of, shown}
use Rattle.look_promises.proofs.Looked.Counting.{laid, total_is}

module _ (copies : ThreeCopies) (image : List ℕ) (look : IsLook (hd_of copies) copies.one copies.two copies.three image) where
  open copies use {shape, opened, one, two, three}
  open seen_in copies use {late, records}
  open seen_of copies image look use {of_look, has}

  module _ (kept : RecordsAreKept shape.page of_look) where
    abbrev laid_so : AreLaid shape opened image
    laid_so = laid copies image look kept

    -- a mark by its words is the one that is looked
    mark_is : (x i : ℕ) (r : Record) → HasRecord late.anatomy.pieces x r → Contains records x → i < buckets_of r.spec
        → mark_of 2 image x i ≡ mark_looked one two x (counts_reference two three x) (buckets_of r.spec) i
    mark_is x i r stands there below =
        by_words ∙ ap (λ (rest : ℕ). if is_packed_bucket (form_at 2 q) i then word_at one (x + 10) else rest)
        (by_reference (counts_reference two three x == 0) (eqb-false (counts_reference two three x) 0) refl)
      where
        q : Record
        q = record_looked one two three x (word_at image (x + 3)) r

        by_words : mark_of 2 image x i ≡ mark_at image (counts_reference two three x) (buckets_of r.spec) (form_at 2 (record_looked one two three x (word_at image (x + 3)) r)) (word_at one (x + 10)) i
        by_words =
            let this : Record = record_looked one two three x (word_at image (x + 3)) r in
            let stands_here = has.record_there x r stands there in
            let shows = shown copies image look in
            let lawful = kept.lawful x this stands_here in
            let counts_ref = record_word shape image of_look shows x this 8 stands_here (omega arith) in
            let mark = record_word shape image of_look shows x this 10 stands_here (omega arith) in
            let single = form_is shape image of_look shows 2 x this stands_here lawful 2 in
            let many = buckets_are shape image of_look shows 2 x this stands_here lawful in
            (λ j. mark_at image (counts_ref j) (many j) (single j) (mark j) i)

        marked : counts_reference two three x ≢ 0
            → field_at image (counts_reference two three x) (4 + buckets_of r.spec + i) ≡ field_at one (counts_reference two three x) (4 + buckets_of r.spec + i)
        marked some_there =
            let n : ℕ = buckets_of r.spec in
            let names : counts_reference two three x ≡ r.counts = elim (named copies x r there stands) [
              | inl nothing ↦ absurd (some_there nothing)
              | inr same ↦ same
            ] in
            let (c, mounted, it) = late.records.mounted x r stands (λ nothing. some_there (names ∙ nothing)) in
            let d : Counts = looked_counts one two x r.counts n c in
            let here : HasCounts of_look.pieces r.counts d = has.counts_there x r c stands there some_there mounted in
            let (e, other_here, own) = kept.mounted x (record_looked one two three x (word_at image (x + 3)) r) (has.record_there x r stands there) some_there in
            let same_block = one_stands shape image of_look (shown copies image look) r.counts none none _ _
            (subst (λ (n : ℕ). HasCounts of_look.pieces n e) names other_here) here in
            let same : e ≡ d = cc same_block.1 in
            let units : length d.units ≡ n = ap (λ (z : Counts). length z.units) (sym same) ∙ own.units in
            let marks : length d.marks ≡ n = ap (λ (z : Counts). length z.marks) (sym same) ∙ own.marks in
            ap (λ (p : ℕ). field_at image p (4 + n + i)) names
            ∙ (mark_word shape opened image laid_so r.counts d n i here units (omega (arith, below, marks))
            ∙ (range_word one (r.counts + 4 + n) n i below
            ∙ (ap (word_at one) (let e : r.counts + 4 + n + i ≡ r.counts + (4 + n + i) = omega arith in e) ∙ ap (λ (p : ℕ). field_at one p (4 + n + i)) (sym names))))

        by_reference : (b : Bool) → (b ≡ false → counts_reference two three x ≢ 0) → (counts_reference two three x == 0) ≡ b
            → (if counts_reference two three x == 0 then 0 else field_at image (counts_reference two three x) (4 + buckets_of r.spec + i))
            ≡ (if counts_reference two three x == 0 then 0 else field_at one (counts_reference two three x) (4 + buckets_of r.spec + i))
        by_reference true some_there is =
            ap (λ (b : Bool). if b then 0 else field_at image (counts_reference two three x) (4 + buckets_of r.spec + i)) is
            ∙ sym (ap (λ (b : Bool). if b then 0 else field_at one (counts_reference two three x) (4 + buckets_of r.spec + i)) is)
        by_reference false some_there is =
            ap (λ (b : Bool). if b then 0 else field_at image (counts_reference two three x) (4 + buckets_of r.spec + i)) is
            ∙ (marked (some_there refl) ∙ sym (ap (λ (b : Bool). if b then 0 else field_at one (counts_reference two three x) (4 + buckets_of r.spec + i)) is))

    buckets_bounded : (x : ℕ) (r : Record) → HasRecord late.anatomy.pieces x r → Contains records x → AreBounded 2 image x (buckets_of r.spec)
    buckets_bounded x r stands there = record {
      total = λ i below.
          let (most, marked) = marks_bounded copies x i r stands below in
          let total = total_is copies image look kept x i r stands there below in
          omega (arith, most, total);
      mark = λ i below.
          let (most, marked) = marks_bounded copies x i r stands below in
          let total = total_is copies image look kept x i r stands there below in
          let mark = mark_is x i r stands there below in
          inl (omega (arith, marked, total, mark));
    }

    pub in_bounds : AreInBounds image of_look
    in_bounds = record {
      buckets = λ x q stands its.
          let it = has.record_from x q stands in
          subst (λ (n : ℕ). AreBounded 2 image x n) (ap (λ (z : Record). buckets_of z.spec) (sym it.is)) (buckets_bounded x it.of it.stands it.followed);
      samples = λ x t stands its.
          let it = has.sample_from x t stands in
          let (most, marked) = samples_bounded copies x it.of it.stands in
          let units : t.units ≡ word_at two (x + 6) = ap (λ (z : Sample). z.units) it.is in
          omega (arith, most, units);
      sums = λ x q stands.
          let it = has.record_from x q stands in
          ap (λ (z : Record). is_bad_sum (cast_signed w64 z.sum) (cast_signed w64 z.sum_mark)) it.is
          ∙ have_sums copies x it.of it.stands;
    }
