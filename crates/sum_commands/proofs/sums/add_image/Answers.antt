-- The reading has the number of those before it.
use Rattle.std.proofs.Common.{◌≡◌, List, ℕ, length, ap, subst, ◌∙◌}
use Rattle.std.proofs.lemmas.Result.{err_from_is_err_and}
use Rattle.bucket_ranges.specs.Reading.{Reading}
use Rattle.image_reader.specs.Views.{reading_view}
use Rattle.reading_sums.specs.declared.fault.SumsFault.{SumsFault}
use Rattle.reading_sums.specs.declared.fault.SumsFault.TheVariants as sums
use Rattle.reading_sums.specs.declared.notes.Notes.{Notes}
use Rattle.reading_sums.specs.declared.sums.Sums.{Sums}
use Rattle.reading_sums.specs.Addends.{addend_of_reading, notes_of_one}
use Rattle.reading_sums.specs.Fitting.{IfTooMany, SumDoesNotFit}
use Rattle.reading_sums.specs.Sums.{IsSumOver, numbered_from, parts_of_one}
use Rattle.reading_sums.specs.Whole.{IsWellFormed, IsWholeReading}
use Rattle.reading_sums.proofs.Numbered.{next-numbered}
use Rattle.reading_sums.proofs.WholeWords.{words-whole}
use Rattle.persist_report_core.specs.Report.{IsReadingOf}
use Rattle.sum_commands.specs.Inputs.{IsCausedByInput, fault_of_sums}
use Rattle.sum_commands.proofs.Behind.{reading-fits, reading-many}
use Rattle.sum_commands.proofs.InTurn.{numbered-behind}
use Rattle.sum_commands.proofs.sums.add_image.Goals as goal

-- what bytes read as is whole
read-whole : (bytes : List ℕ) (reading : Reading) → IsReadingOf bytes reading → IsWholeReading reading
read-whole bytes reading is = words-whole is.words is.head reading is.head_is is.reading_is

pub returns-clause-some : goal.returns-clause-some
returns-clause-some c = record {
  addend = addend_of_reading (reading_view c.in_ok-reading.reading);
  taken = (tt, λ known. absurd known.0);
  added = numbered-behind c.notes-number.result.images (reading_view c.in_ok-reading.reading) c.args.sums.now c.add.new.self
      (ap (λ (notes : Notes). notes.images) c.notes-number.ensures) c.in_ok-add.ensures.more;
  well_formed = λ known formed. absurd known;
}

pub returns-clause-damage : goal.returns-clause-damage
returns-clause-damage c = (reading_view c.in_ok-reading.reading, c.in_ok-reading.ensures.reading, c.damage_of.ensures.fault)

pub returns-clause-added : goal.returns-clause-added
returns-clause-added c =
    let reading : Reading = reading_view c.in_ok-reading.reading in
    let whole : IsWholeReading reading = read-whole _ reading c.in_ok-reading.ensures.reading in record {
      reading = reading;
      reading_is = c.in_ok-reading.ensures.reading;
      added = λ readings before.
          let number : ℕ = c.notes-number.result.images in
          let is : number ≡ length (numbered_from 0 readings) = ap (λ (notes : Notes). notes.images) c.notes-number.ensures ∙ before.notes.images in
          let P : List (ℕ × Reading) → Type 0 = λ z. IsSumOver z c.add.new.self in
          subst P (next-numbered number readings reading is) (c.in_ok-add.ensures.added (numbered_from 0 readings) before);
      behind = numbered-behind c.notes-number.result.images reading c.args.sums.now c.add.new.self
          (ap (λ (notes : Notes). notes.images) c.notes-number.ensures) c.in_ok-add.ensures.more;
      well_formed = λ before. c.in_ok-add.ensures.well_formed before whole;
      fits = λ before. reading-fits c.args.sums.now c.notes-number.result.images reading (c.in_ok-add.ensures.fits before whole);
    }

-- why a reading is refused
refused-so : (fault : SumsFault) (bytes : List ℕ) (before : Sums) (number : ℕ) (reading : Reading) → IsReadingOf bytes reading
    → IfTooMany fault (IsWellFormed before → IsWholeReading reading → SumDoesNotFit before (parts_of_one (number, reading)) (notes_of_one reading))
    → IsCausedByInput bytes before (fault_of_sums fault)
refused-so sums.NoMemory bytes before number reading is many = tt
refused-so sums.TooMany bytes before number reading is many = record {
  reading = reading;
  reading_is = is;
  many = λ formed. reading-many before number reading (many formed (read-whole bytes reading is));
}

pub returns-in_err-add-clause-cause : goal.returns-in_err-add-clause-cause
returns-in_err-add-clause-cause c =
    let p = err_from_is_err_and c.from_residual-in_err-add.result c.from_residual-in_err-add.ensures.1 in
    rw (p.1, p.2) (refused-so _ _ c.args.sums.now c.notes-number.result.images (reading_view c.in_ok-reading.reading) c.in_ok-reading.ensures.reading c.in_err-add.ensures.too_many)
