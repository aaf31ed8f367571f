-- The words of a kept state are kept, whatever its actors do: what lies where, and by the ledger how large the numbers are.
use Rattle.segment_invariant.proofs.Prelude.Std.{◌≤◌, ℕ, refl, arith}
use Rattle.segment_invariant.proofs.Prelude.Machine.{Dimensions, State}
use Rattle.segment_invariant.proofs.Prelude.Invariant.{Sample, Anatomy, HasSample, IsFirstOf, Invariant}
use Rattle.segment_invariant.specs.Words.{WordsAreKept}
use Rattle.segment_invariant.proofs.Frames.LaidOut.{laid_out}
use Rattle.segment_invariant.proofs.Counting.Bounds.{counted_fits}
use Rattle.segment_promises.proofs.Readings.Bounds.{first_bounded}
use Rattle.segment_promises.proofs.Readings.Records.{sums_are_near}
use Rattle.segment_promises.proofs.Readings.Samples.{first_held}

module _ (shape : Dimensions) (opened : Anatomy) (state : State) (kept : Invariant shape opened state) where
  -- the count of a value's first sample is no more than a segment may count
  pub first_fits : (at : ℕ) (s : Sample) → HasSample kept.anatomy.pieces at s → IsFirstOf kept.anatomy.records s.of s.value at → s.units ≤ 4294967295
  first_fits at s has first =
      let held = first_held shape opened state.words (laid_out shape opened state kept) at s has first in
      let balance = kept.balanced.units s.name s.value in
      let most = counted_fits shape opened state kept s.name s.value in
      omega (arith, held, balance, most)

  abbrev pub words_kept : WordsAreKept shape opened state.words
  words_kept = record {
    laid = laid_out shape opened state kept;
    bounds = record {
      buckets = λ at r has first. first_bounded shape opened state kept at r has r.spec first refl;
      samples = first_fits;
      sums = sums_are_near shape opened state kept;
    };
  }
