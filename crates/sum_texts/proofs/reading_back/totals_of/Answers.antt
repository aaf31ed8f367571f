use Rattle.std.proofs.Common.{◌≡◌, ◌∙◌, Err, IfErr, IfSome, map, ap, sym, subst}
use Rattle.std.proofs.lemmas.Result.{err_from_is_err_and}
use Rattle.reading_sums.specs.Views.{part_of, parts_of}
use Rattle.sum_texts.specs.declared.fault.TotalsFault.TheVariants.{NoMemory}
use Rattle.sum_texts.specs.Views.{whole_of}
use Rattle.sum_texts.specs.Writable.{AreFormed, IsWrongLine}
use Rattle.reading_sums.proofs.Alike.{alike-whole}
use Rattle.sum_texts.proofs.Formed.{unformed}
use Rattle.sum_texts.proofs.Wholes.{whole_same}
use Rattle.sum_texts.proofs.reading_back.totals_of.Goals as goal

pub returns-in_err-notes-clause-only : goal.returns-in_err-notes-clause-only
returns-in_err-notes-clause-only c totals writable is =
    let passed = err_from_is_err_and c.from_residual.result c.from_residual.ensures.1 in
    subst (λ r. IfErr r (λ fault. fault ≡ NoMemory)) (sym (passed.1 ∙ ap Err passed.2)) (c.in_err-notes.ensures.only (whole_of totals) writable.fits is)

pub returns-in_err-wrong_line-in-None-clause-only : goal.returns-in_err-wrong_line-in-None-clause-only
returns-in_err-wrong_line-in-None-clause-only c totals writable is =
    let passed = err_from_is_err_and c.from_residual-in_err-wrong_line-in-None.result c.from_residual-in_err-wrong_line-in-None.ensures.1 in
    subst (λ r. IfErr r (λ fault. fault ≡ NoMemory)) (sym (passed.1 ∙ ap Err passed.2))
    (c.in_err-wrong_line-in-None.ensures.only (whole_of totals) writable.fits is)

pub returns-in-Some-clause-back : goal.returns-in-Some-clause-back
returns-in-Some-clause-back c totals writable is =
    let said = c.in_ok-notes.ensures.back (whole_of totals) writable.fits is in
    let sums = c.in-Some.sums in
    let exact = subst (λ found. IfSome found (λ sums. (sums.hists ≡ c.in_ok-notes.field-0.hists) × (sums.notes ≡ c.in_ok-notes.field-0.notes))) c.in-Some.is c.in_ok-sums.ensures.exact in
    whole_same sums.notes (parts_of sums) c.in_ok-notes.field-0.of.items c.in_ok-notes.field-0.fold (whole_of totals)
    (exact.1 ∙ ap (λ w. w.notes) said)
    (ap (λ v. map part_of v.items) exact.0 ∙ ap (λ w. w.parts) said)
    (ap (λ w. w.of) said)
    (ap (λ w. w.fold) said)

pub returns-in_ok-wrong_line-in-None-clause-only : goal.returns-in_ok-wrong_line-in-None-clause-only
returns-in_ok-wrong_line-in-None-clause-only c totals writable is =
    let said = c.in_ok-notes.ensures.back (whole_of totals) writable.fits is in
    let parts : map part_of c.in_ok-notes.field-0.hists.items ≡ parts_of totals.sums = ap (λ w. w.parts) said in
    absurd (unformed c.in_ok-sums.field-0 c.in_ok-notes.field-0.hists.items c.in-None.is c.in_ok-sums.ensures.whole
    (alike-whole c.in_ok-notes.field-0.hists.items totals.sums.hists.items parts writable.formed))

pub returns-in_ok-wrong_line-in-None-clause-line : goal.returns-in_ok-wrong_line-in-None-clause-line
returns-in_ok-wrong_line-in-None-clause-line c whole fits is line same =
    let said = c.in_ok-notes.ensures.back whole fits is in
    let parts : map part_of c.in_ok-notes.field-0.hists.items ≡ whole.parts = ap (λ w. w.parts) said in
    let not : AreFormed whole.parts → ⊥ = λ formed. unformed c.in_ok-sums.field-0 c.in_ok-notes.field-0.hists.items c.in-None.is c.in_ok-sums.ensures.whole
    (alike-whole c.in_ok-notes.field-0.hists.items formed.hists (parts ∙ sym formed.same) formed.whole) in
    let number : c.in_ok-wrong_line-in-None.field-0 ≡ line = cc same in
    subst (IsWrongLine whole.parts) number (c.in_ok-wrong_line-in-None.ensures.line whole fits is not)
