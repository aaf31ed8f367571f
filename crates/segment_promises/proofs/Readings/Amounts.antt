-- The sum, the redundant count and the sum mark that are read of a histogram are those that blocks hold of its name.
use Rattle.segment_invariant.proofs.Prelude.Std.{◌≡◌, ℕ, List, refl, sym, ap, ◌∙◌, arith, w64, cast_signed}
use Rattle.segment_invariant.proofs.Prelude.Machine.{Dimensions, field_at, Spec}
use Rattle.segment_invariant.proofs.Prelude.Invariant.{Record, Anatomy, noted_held, all_held, HasRecord, IsFirst}
use Rattle.bucket_ranges.specs.Reading.{sum_of, sum_mark_of}
use Rattle.segment_invariant.specs.Ledger.{sum_held, sum_mark_held, all_amounts}
use Rattle.segment_invariant.specs.Words.{AreLaid}
use Rattle.segment_invariant.proofs.Consistency.Records.{record_word}
use Rattle.segment_invariant.proofs.Consistency.Sums.{sum_is, sum_mark_is, noted_is}

module _ (shape : Dimensions) (opened : Anatomy) (words : List ℕ) (kept : AreLaid shape opened words) (at : ℕ) (r : Record)
    (has : HasRecord kept.anatomy.pieces at r) (kind : Spec) (first : IsFirst kept.anatomy.records r.name kind at) where
  pub sum_read : sum_of words at ≡ all_amounts (sum_held r.name) kept.anatomy.pieces
  sum_read =
      ap (cast_signed w64) (record_word shape words kept.anatomy kept.shown at r 11 has (omega arith))
      ∙ sym (sum_is shape opened words kept r.name kind at r first has refl)

  pub sum_mark_read : sum_mark_of words at ≡ all_amounts (sum_mark_held r.name) kept.anatomy.pieces
  sum_mark_read =
      ap (cast_signed w64) (record_word shape words kept.anatomy kept.shown at r 12 has (omega arith))
      ∙ sym (sum_mark_is shape opened words kept r.name kind at r first has refl)

  pub redundant_read : field_at words at 13 ≡ all_held (noted_held r.name) kept.anatomy.pieces
  redundant_read =
      record_word shape words kept.anatomy kept.shown at r 13 has (omega arith)
      ∙ sym (noted_is shape opened words kept r.name kind at r first has refl)
