-- The others are raised by how many images there were, and then come after them.
use Rattle.std.proofs.Common.{◌≡◌, List, ℕ, length, map, ap, subst, ◌∙◌}
use Rattle.std.proofs.lemmas.Result.{err_from_is_err_and}
use Rattle.bucket_ranges.specs.Reading.{Reading}
use Rattle.reading_sums.specs.declared.fault.SumsFault.{SumsFault}
use Rattle.reading_sums.specs.declared.fault.SumsFault.TheVariants as sums
use Rattle.reading_sums.specs.declared.notes.Notes.{Notes}
use Rattle.reading_sums.specs.declared.sums.Sums.{Sums}
use Rattle.reading_sums.specs.Addends.{addend_of}
use Rattle.reading_sums.specs.Fitting.{HasNumberTooGreat, IfTooMany, SumDoesNotFit}
use Rattle.reading_sums.specs.Sums.{IsSumOver, numbered_from, raised}
use Rattle.reading_sums.specs.Totals.{raised_part}
use Rattle.reading_sums.specs.Views.{parts_of}
use Rattle.reading_sums.specs.Whole.{IsWellFormed}
use Rattle.reading_sums.proofs.Numbered.{behind-numbered}
use Rattle.sum_commands.specs.Inputs.{DoesNotFitBehind}
use Rattle.sum_commands.proofs.Behind.{far-many, number-many, raised-fits, raised-many}
use Rattle.sum_commands.proofs.InTurn.{raised-behind}
use Rattle.sum_commands.proofs.sums.append_next.Goals as goal

pub returns-clause-behind : goal.returns-clause-behind
returns-clause-behind c =
    raised-behind c.notes.result.images c.args.more.now c.in_ok-raised.raised c.args.sums.now c.append.new.self
    (ap (λ (notes : Notes). notes.images) c.notes.ensures) c.in_ok-raised.ensures.parts c.in_ok-raised.ensures.notes c.in_ok-append.ensures.both

pub returns-clause-some : goal.returns-clause-some
returns-clause-some c = λ is_damaged. record {
  addend = addend_of c.args.more.now;
  taken = (tt, λ known. absurd known.0);
  added = returns-clause-behind c;
  well_formed = λ known formed. absurd known;
}

pub returns-clause-added : goal.returns-clause-added
returns-clause-added c = λ readings others first second.
    let by : ℕ = c.notes.result.images in
    let is : by ≡ length (numbered_from 0 readings) = ap (λ (notes : Notes). notes.images) c.notes.ensures ∙ first.notes.images in
    let P : List (ℕ × Reading) → Type 0 = λ z. IsSumOver z c.append.new.self in
    subst P (behind-numbered by readings others is)
    (c.in_ok-append.ensures.added (numbered_from 0 readings) (map (raised by) (numbered_from 0 others)) first
    (c.in_ok-raised.ensures.raised (numbered_from 0 others) second))

pub returns-clause-well_formed : goal.returns-clause-well_formed
returns-clause-well_formed c = λ first second. c.in_ok-append.ensures.well_formed first (c.in_ok-raised.ensures.well_formed second)

pub returns-clause-fits : goal.returns-clause-fits
returns-clause-fits c = λ first second.
    raised-fits c.notes.result.images c.args.more.now c.in_ok-raised.raised c.args.sums.now (ap (λ (notes : Notes). notes.images) c.notes.ensures)
    c.in_ok-raised.ensures.parts c.in_ok-raised.ensures.notes (c.has_great_number.ensures.none c.if-has_great_number.false) c.in_ok-raised.ensures.fits
    (c.in_ok-append.ensures.fits first (c.in_ok-raised.ensures.well_formed second))

-- why the numbers of the other sum are not raised
unraised-so : (fault : SumsFault) (by : ℕ) (more before : Sums) → by ≡ before.notes.images → IfTooMany fault (HasNumberTooGreat by (parts_of more))
    → IfTooMany fault (IsWellFormed before → IsWellFormed more → DoesNotFitBehind before (addend_of more))
unraised-so sums.NoMemory by more before images many = tt
unraised-so sums.TooMany by more before images many = λ first second. number-many by more before images many

-- why the raised sum is not appended
refused-so : (fault : SumsFault) (by : ℕ) (more behind before : Sums) → parts_of behind ≡ map (raised_part by) (parts_of more) → behind.notes ≡ more.notes
    → (IsWellFormed more → IsWellFormed behind) → IfTooMany fault (IsWellFormed before → IsWellFormed behind → SumDoesNotFit before (parts_of behind) behind.notes)
    → IfTooMany fault (IsWellFormed before → IsWellFormed more → DoesNotFitBehind before (addend_of more))
refused-so sums.NoMemory by more behind before parts notes formed many = tt
refused-so sums.TooMany by more behind before parts notes formed many = λ first second. raised-many by more behind before parts notes (many first (formed second))

pub returns-in_err-append-clause-too_many : goal.returns-in_err-append-clause-too_many
returns-in_err-append-clause-too_many c =
    let p = err_from_is_err_and c.from_residual-in_err-append.result c.from_residual-in_err-append.ensures.1 in
    rw (p.1, p.2)
    (refused-so _ c.notes.result.images c.args.more.now c.in_ok-raised.raised c.args.sums.now c.in_ok-raised.ensures.parts c.in_ok-raised.ensures.notes
    c.in_ok-raised.ensures.well_formed c.in_err-append.ensures.too_many)
