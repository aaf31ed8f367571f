-- Words that are kept read as the histograms on their list, with what their blocks hold.
use Rattle.segment_invariant.proofs.Prelude.Std.{◌≡◌, ◌≢◌, subst, Bool, true, false, if◌then◌else◌, ℕ, ℤ, List, map, refl, sym, ap, ◌∙◌, range_with_len}
use Rattle.segment_invariant.proofs.Prelude.Machine.{Dimensions, head_of, Spec, name_of, is_sparse, record_buckets, total_of, mark_of, sample_value, Histogram, units_listed}
use Rattle.segment_invariant.proofs.Prelude.Invariant.{Record, Anatomy, all_held, noted_held, order_of, HasRecord, IsFirst}
use Rattle.std.specs.List.{zip}
use Rattle.bucket_ranges.specs.declared.spec.Spec.TheVariants as spec
use Rattle.bucket_ranges.specs.Reading.{bucket_counts, bucket_marks, sample_count, sample_mark, lawful_samples, first_samples, sample_counts, sample_marks, histogram_of}
use Rattle.segment_invariant.specs.Consistent.{key_at}
use Rattle.segment_invariant.specs.Ledger.{sum_held, sum_mark_held, all_amounts}
use Rattle.segment_invariant.specs.Words.{WordsAreKept}
use Rattle.segment_invariant.proofs.Consistency.Firsts.{record_of_first}
use Rattle.segment_invariant.proofs.Consistency.Totals.{sparse_kind, bucketed_kind, kind_word}
use Rattle.segment_promises.specs.Reads.{ReadsBlocks, WordsRead}
use Rattle.segment_promises.proofs.Readings.Keys.{units_are_held, marks_are_held}
use Rattle.segment_promises.proofs.Readings.Buckets.{units_of_key, marks_of_key, totals_listed, marks_listed}
use Rattle.segment_promises.proofs.Readings.Sparse as sparse
use Rattle.segment_promises.proofs.Readings.Amounts.{sum_read, sum_mark_read, redundant_read}
use Rattle.segment_promises.proofs.Readings.Heads.{version_shown}
use Rattle.segment_promises.proofs.Readings.Names.{read_first, reads_names}
use Rattle.segment_promises.proofs.Readings.Faults.{no_fault}

module _ (shape : Dimensions) (opened : Anatomy) (words : List ℕ) (kept : WordsAreKept shape opened words) (at : ℕ) (r : Record)
    (has : HasRecord kept.laid.anatomy.pieces at r) (kind : Spec) (first : IsFirst kept.laid.anatomy.records r.name kind at) (specified : r.spec ≡ kind) where
  abbrev firsts : List ℕ
  firsts = first_samples words (lawful_samples words (head_of words) (order_of kept.laid.anatomy)) at

  abbrev buckets : List ℕ
  buckets = range_with_len 0 (record_buckets words at)

  sparse_is : is_sparse words at ≡ true → r.spec ≡ spec.Sparse
  sparse_is is = sparse_kind r.spec (sym (kind_word shape opened words kept.laid at r has) ∙ is)

  bucketed_is : is_sparse words at ≡ false → r.spec ≢ spec.Sparse
  bucketed_is is = bucketed_kind r.spec (sym (kind_word shape opened words kept.laid at r has) ∙ is)

  -- of each key the units are read that are held of it
  units_by_kind : (key : ℤ) (b : Bool) → is_sparse words at ≡ b
      → units_listed (if b then sample_counts words firsts else bucket_counts kept.laid.anatomy.version words at) key ≡ units_of_key kept.laid.anatomy r.name key
  units_by_kind key true is =
      units_are_held (sample_value words) (sample_count words) (units_of_key kept.laid.anatomy r.name) firsts
      (sparse.counts_listed shape opened words kept at r has kind first specified (sparse_is is)) key
  units_by_kind key false is =
      units_are_held (key_at words at) (total_of kept.laid.anatomy.version words at) (units_of_key kept.laid.anatomy r.name) buckets
      (totals_listed shape opened words kept.laid at r has kind first specified (bucketed_is is)) key

  -- and the mark that is held of it
  marks_by_kind : (key : ℤ) (b : Bool) → is_sparse words at ≡ b
      → units_listed (zip (map (λ (count : ℤ × ℕ). count.0) (if b then sample_counts words firsts else bucket_counts kept.laid.anatomy.version words at))
      (if b then sample_marks words firsts else bucket_marks kept.laid.anatomy.version words at)) key ≡ marks_of_key kept.laid.anatomy r.name key
  marks_by_kind key true is =
      marks_are_held (sample_value words) (sample_mark words) (marks_of_key kept.laid.anatomy r.name) firsts
      (sparse.marks_listed shape opened words kept at r has kind first specified (sparse_is is)) (sample_count words) key
  marks_by_kind key false is =
      marks_are_held (key_at words at) (mark_of kept.laid.anatomy.version words at) (marks_of_key kept.laid.anatomy r.name) buckets
      (marks_listed shape opened words kept.laid at r has kind first specified (bucketed_is is)) (total_of kept.laid.anatomy.version words at) key

  -- so the histogram that is read has them
  abbrev read_as : ℕ → Histogram
  read_as version = histogram_of version words (lawful_samples words (head_of words) (order_of kept.laid.anatomy)) at

  reads : name_of words at ≡ r.name → ReadsBlocks kept.laid.anatomy (read_as kept.laid.anatomy.version)
  reads named = record {
    units = λ key. units_by_kind key (is_sparse words at) refl ∙ ap (λ (name : List ℕ). units_of_key kept.laid.anatomy name key) (sym named);
    marks = λ key. marks_by_kind key (is_sparse words at) refl ∙ ap (λ (name : List ℕ). marks_of_key kept.laid.anatomy name key) (sym named);
    sum = sum_read shape opened words kept.laid at r has kind first ∙ ap (λ (name : List ℕ). all_amounts (sum_held name) kept.laid.anatomy.pieces) (sym named);
    redundant = redundant_read shape opened words kept.laid at r has kind first ∙ ap (λ (name : List ℕ). all_held (noted_held name) kept.laid.anatomy.pieces) (sym named);
    sum_mark = sum_mark_read shape opened words kept.laid at r has kind first ∙ ap (λ (name : List ℕ). all_amounts (sum_mark_held name) kept.laid.anatomy.pieces) (sym named);
  }

  pub reads_made : name_of words at ≡ r.name → (h : Histogram) → read_as (head_of words).version ≡ h → ReadsBlocks kept.laid.anatomy h
  reads_made named h made =
      let its : read_as kept.laid.anatomy.version ≡ h = ap read_as (sym (version_shown shape words kept.laid.anatomy kept.laid.shown)) ∙ made in
      subst (ReadsBlocks kept.laid.anatomy) its (reads named)

pub words_read : WordsRead
words_read shape opened words reading kept is = (
  no_fault shape opened words kept reading is,
  reads_names shape opened words kept reading is,
  λ h there. let (kind, at, made, first, same) = read_first shape opened words kept reading is h there in
      let (r, (has, named, specified)) = record_of_first shape opened words kept.laid (name_of words at) kind at first in
      let mine = subst (λ (name : List ℕ). IsFirst kept.laid.anatomy.records name kind at) (sym named) first in
      reads_made shape opened words kept at r has kind mine specified (sym named) h made,
)
