-- What a look reads as, if its records are kept and its numbers are in bounds.
use Rattle.segment_invariant.proofs.Prelude.Std.{◌≡◌, ◌≢◌, ℕ, ◌<◌, ◌≤◌, ℤ, List, inl, inr, refl, sym, ap, subst, arith, Ok, Contains}
use Rattle.segment_invariant.proofs.Prelude.Machine.{Dimensions, head_of, Spec, buckets_of, total_of, mark_of, Histogram, Reading}
use Rattle.segment_invariant.proofs.Prelude.Invariant.{Anatomy, layout_of, key_of_bucket, HasKey, IsFirst, IsFirstOf, Invariant}
use Rattle.std.proofs.Math.Decide.{dec_lt}
use Rattle.bucket_ranges.specs.Reading.{IsReading}
use Rattle.bucket_ranges.specs.declared.spec.Spec.TheVariants as spec
use Rattle.segment_looks.specs.Looks.{IsLook}
use Rattle.segment_invariant.specs.Invariant.{RecordsAreKept}
use Rattle.segment_invariant.specs.Words.{AreInBounds, WordsAreKept, IsMarkBounded}
use Rattle.segment_invariant.proofs.Consistency.Books.{same_name, sample_first, marks_book, value_held}
use Rattle.segment_invariant.proofs.Consistency.Firsts.{record_of_first, sample_of_first}
use Rattle.segment_invariant.proofs.Consistency.Marks.{mark_held}
use Rattle.segment_invariant.proofs.Consistency.Totals.{total_held}
use Rattle.image_rules.specs.Adoption.{HasNoFault}
use Rattle.segment_image.specs.Head.{header_of}
use Rattle.segment_promises.specs.Reads.{ReadsNames, ReadsBlocks}
use Rattle.segment_promises.proofs.Readings.Blocks.{words_read}
use Rattle.segment_promises.proofs.Readings.Buckets.{units_of_key, marks_of_key, no_marks}
use Rattle.segment_promises.proofs.Readings.Samples.{first_held}
use Rattle.look_promises.specs.Reading.{ReadsBetween, CountsBetween}
use Rattle.look_promises.proofs.Copies.ThreeCopies.{ThreeCopies, seen_in, hd_of}
use Rattle.segment_promises.proofs.Adopting.Headers.{header_shown}
use Rattle.look_promises.proofs.Looked.Anatomy.{seen_of, shown}
use Rattle.look_promises.proofs.Looked.Counting.{laid, front_of_late, behind_early, units_ended, units_begun}

-- ---- marks of words that are kept

module _ (shape : Dimensions) (opened : Anatomy) (words : List ℕ) (kept : WordsAreKept shape opened words) (two : kept.laid.anatomy.version ≡ 2) where
  abbrev of_words : Anatomy
  of_words = kept.laid.anatomy

  abbrev IsBelow : List ℕ → ℤ → Type 0
  IsBelow name key = marks_of_key of_words name key ≤ units_of_key of_words name key

  frozen_bound : (x i : ℕ) → IsMarkBounded of_words.version words x i → mark_of of_words.version words x i ≤ total_of of_words.version words x i
  frozen_bound x i (inl below) = below
  frozen_bound x i (inr (one, packed, most)) = absurd (omega (arith, one, two))

  by_bucket : (name : List ℕ) (kind : Spec) (x i : ℕ) → IsFirst of_words.records name kind x → i < buckets_of kind → IsBelow name (key_of_bucket kind i)
  by_bucket name kind x i its below =
      let (q, (stands, called, specified)) = record_of_first shape opened words kept.laid name kind x its in
      let inside : i < buckets_of q.spec = let e = ap buckets_of specified in omega (arith, below, e) in
      let bucketed : q.spec ≢ spec.Sparse = λ sparse. (let none = ap buckets_of sparse in omega (arith, none, inside)) in
      let total = total_held shape opened words kept.laid name kind x q its stands called specified bucketed i inside in
      let mark = mark_held shape opened words kept.laid name kind x q its stands called specified bucketed i inside in
      let mine : IsFirst of_words.records q.name q.spec x =
      subst (λ (name : List ℕ). IsFirst of_words.records name q.spec x) (sym called) (subst (λ (kind : Spec). IsFirst of_words.records name kind x) (sym specified) its) in
      let bound = frozen_bound x i ((kept.bounds.buckets x q stands mine).mark i inside) in
      subst (λ (kind : Spec). IsBelow name (key_of_bucket kind i)) specified (omega (arith, total, mark, bound))

  by_sample : (name : List ℕ) (x place : ℕ) (key : ℤ) → IsFirst of_words.records name spec.Sparse x → IsFirstOf of_words.records x key place → IsBelow name key
  by_sample name x place key its valued_first =
      let (t, (stands, whose, valued)) = sample_of_first shape opened words kept.laid x key place valued_first in
      let named_first : IsFirst of_words.records t.name spec.Sparse x = subst (IsFirst of_words.records t.name spec.Sparse) whose (sample_first shape opened words kept.laid place t stands) in
      let name_is : t.name ≡ name = same_name shape opened words kept.laid t.name name spec.Sparse spec.Sparse x named_first its in
      let mine : IsFirstOf of_words.records t.of t.value place =
      subst (λ (p : ℕ × ℤ). IsFirstOf of_words.records p.0 p.1 place) (λ j. (sym whose j, sym valued j)) valued_first in
      let units = first_held shape opened words kept.laid place t stands mine in
      let (r, (has, called, specified)) = record_of_first shape opened words kept.laid t.name spec.Sparse t.of (sample_first shape opened words kept.laid place t stands) in
      let marks : marks_of_key of_words t.name t.value ≡ t.mark =
      value_held shape opened words kept.laid t.name spec.Sparse t.of r (sample_first shape opened words kept.laid place t stands) has called specified t.value _ _ _ _
      (marks_book of_words.version t.name t.value) specified place t mine stands refl refl in
      let taken = (kept.laid.records.valued place t stands).taken in
      subst (λ (p : List ℕ × ℤ). IsBelow p.0 p.1) (λ j. (name_is j, valued j)) (omega (arith, units, marks, taken))

  by_key : (name : List ℕ) (key : ℤ) → HasKey of_words.records name key → IsBelow name key
  by_key name key (kind, x, its, inl (bucket, below, is)) = subst (IsBelow name) (sym is) (by_bucket name kind x bucket its below)
  by_key name key (kind, x, its, inr (sparse, place, valued)) =
      by_sample name x place key (subst (λ (kind : Spec). IsFirst of_words.records name kind x) sparse its) valued

  -- no mark is more than the units of its key
  pub marks_below : (name : List ℕ) (key : ℤ) (kind : Spec) (x : ℕ) → IsFirst of_words.records name kind x → IsBelow name key
  marks_below name key kind x its = elim (dec_lt (units_of_key of_words name key) (marks_of_key of_words name key)) [
    | yes more ↦
        let (q, (stands, called, specified)) = record_of_first shape opened words kept.laid name kind x its in
        let absent : ¬ (HasKey of_words.records q.name key) = λ keyed.
        (let most = by_key name key (subst (λ (name : List ℕ). HasKey of_words.records name key) called keyed) in omega (arith, most, more)) in
        let nothing = no_marks shape opened words kept.laid x q stands kind (subst (λ (name : List ℕ). IsFirst of_words.records name kind x) (sym called) its) specified key absent in
        let same : marks_of_key of_words q.name key ≡ marks_of_key of_words name key = ap (λ (name : List ℕ). marks_of_key of_words name key) called in
        absurd (omega (arith, nothing, same, more))
    | no fewer ↦ omega (arith, fewer)
  ]

-- ---- a look

module _ (copies : ThreeCopies) (image : List ℕ) (look : IsLook (hd_of copies) copies.one copies.two copies.three image) where
  open copies use {shape, opened, at, first, last}
  open seen_in copies use {early, late}
  open seen_of copies image look use {of_look}

  module _ (records : RecordsAreKept shape.page of_look) (bounds : AreInBounds image of_look) where
    -- all holds of its words that the invariant says of words alone
    abbrev pub kept : WordsAreKept shape opened image
    kept = record { laid = laid copies image look records; bounds = bounds }

    header : header_of image ≡ Ok (head_of image)
    header = header_shown shape image (layout_of of_look) (shown copies image look) (inr refl)

    module _ (reading : Reading) (is : IsReading image (head_of image) reading) where
      reads : HasNoFault reading × ReadsNames of_look.records reading
          × ((h : Histogram) → Contains reading.hists h → ReadsBlocks of_look h)
      reads = words_read shape opened image reading kept is

      between : ReadsBetween early.anatomy.records late.anatomy.records reading
      between = record {
        records = of_look.records;
        all = behind_early copies image look;
        none = (_, front_of_late copies image look);
        reads = reads.1;
      }

      counts : (h : Histogram) → Contains reading.hists h → CountsBetween (at first) (at last) h
      counts h there =
          let blocks = reads.2 h there in
          let (kind, its, same) = reads.1.given h there in
          record {
            ended = λ key. let units = blocks.units key in
                let least = units_ended copies image look records h.name key in omega (arith, units, least);
            begun = λ key. let units = blocks.units key in
                let most = units_begun copies image look records h.name key kind h.reference its in
                omega (arith, units, most);
            marks = λ key. let units = blocks.units key in
                let marks = blocks.marks key in
                let below = marks_below shape opened image kept refl h.name key kind h.reference its in omega (arith, units, marks, below);
          }

      pub look_reads : (header_of image ≡ Ok (head_of image)) × HasNoFault reading
          × ((before : Invariant shape opened (at first)) × (after : Invariant shape opened (at last)) × ReadsBetween before.anatomy.records after.anatomy.records reading)
          × ((h : Histogram) → Contains reading.hists h → CountsBetween (at first) (at last) h)
      look_reads = (header, reads.0, (early, late, between), counts)
