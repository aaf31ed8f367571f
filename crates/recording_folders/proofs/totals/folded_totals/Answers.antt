use Rattle.std.proofs.Common.{subst, length, ◌<◌, ◌^◌}
use Rattle.std.specs.List.{AllByRecursion}
use Rattle.reading_sums.specs.Views.{parts_of}
use Rattle.reading_sums.specs.Whole.{IsWellFormed}
use Rattle.sum_texts.specs.Lines.{FitNotes, FitsPart}
use Rattle.recording_folders.proofs.totals.folded_totals.Goals as goal

pub returns-clause-writable : goal.returns-clause-writable
returns-clause-writable c totals same writable fits = record {
  formed = subst IsWellFormed same writable.formed;
  fits = record {
    notes = subst (λ sums. FitNotes sums.notes) same writable.fits.notes;
    parts = subst (λ sums. AllByRecursion FitsPart (parts_of sums)) same writable.fits.parts;
    of = fits.names;
    fold = fits.serial;
    many = subst (λ sums. length (parts_of sums) < 2 ^ 64) same writable.fits.many;
  };
}
