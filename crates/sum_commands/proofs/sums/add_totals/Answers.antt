-- What the totals has comes after the others.
use Rattle.std.proofs.Common.{◌≡◌, ℕ, List, refl}
use Rattle.std.proofs.lemmas.Result.{err_from_is_err_and}
use Rattle.reading_sums.specs.declared.fault.SumsFault.{SumsFault}
use Rattle.reading_sums.specs.declared.fault.SumsFault.TheVariants as sums
use Rattle.reading_sums.specs.declared.sums.Sums.{Sums}
use Rattle.reading_sums.specs.Addends.{addend_of}
use Rattle.reading_sums.specs.Fitting.{IfTooMany}
use Rattle.reading_sums.specs.Whole.{IsWellFormed}
use Rattle.sum_texts.specs.declared.totals.Totals.{Totals}
use Rattle.sum_texts.specs.Lines.{totals_text}
use Rattle.sum_texts.specs.Views.{whole_of}
use Rattle.sum_commands.specs.Inputs.{DoesNotFitBehind, IsCausedByTotals, fault_of_sums}
use Rattle.sum_commands.proofs.sums.add_totals.Goals as goal

pub returns-clause-added : goal.returns-clause-added
returns-clause-added c = record {
  totals = c.in_ok-totals.totals;
  text_is = c.in_ok-totals.ensures.read;
  added = c.in_ok-append_next.ensures.added;
  behind = c.in_ok-append_next.ensures.behind;
  well_formed = λ before. c.in_ok-append_next.ensures.well_formed before c.in_ok-totals.ensures.well_formed;
  fits = λ before. c.in_ok-append_next.ensures.fits before c.in_ok-totals.ensures.well_formed;
}

pub returns-clause-some : goal.returns-clause-some
returns-clause-some c = record {
  addend = addend_of c.in_ok-totals.totals.sums;
  taken = (tt, λ known. absurd known.0);
  added = c.in_ok-append_next.ensures.behind;
  well_formed = λ known formed. absurd known;
}

-- why the sum of a totals is not appended
refused-so : (fault : SumsFault) (text : List ℕ) (before : Sums) (totals : Totals) → text ≡ totals_text (whole_of totals) → IsWellFormed totals.sums
    → IfTooMany fault (IsWellFormed before → IsWellFormed totals.sums → DoesNotFitBehind before (addend_of totals.sums))
    → IsCausedByTotals text before (fault_of_sums fault)
refused-so sums.NoMemory text before totals is formed many = refl
refused-so sums.TooMany text before totals is formed many = record { totals = totals; text_is = is; many = λ first. many first formed }

pub returns-in_err-append_next-clause-cause : goal.returns-in_err-append_next-clause-cause
returns-in_err-append_next-clause-cause c =
    let p = err_from_is_err_and c.from_residual-in_err-append_next.result c.from_residual-in_err-append_next.ensures.1 in
    rw (p.1, p.2)
    (refused-so _ c.args.text.now c.args.sums.now c.in_ok-totals.totals c.in_ok-totals.ensures.read c.in_ok-totals.ensures.well_formed c.in_err-append_next.ensures.too_many)
