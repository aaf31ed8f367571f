use Rattle.std.proofs.Common.{◌∙◌, Err, ap}
use Rattle.std.proofs.lemmas.Result.{err_from_is_err_and}
use Rattle.sum_texts.specs.Lines.{lines_of}
use Rattle.sum_texts.specs.Runs.{bytes_of}
use Rattle.sum_texts.specs.Read.{read_view}
use Rattle.sum_texts.proofs.Fronts.{of_memory, gives_memory}
use Rattle.sum_texts.proofs.Texts.{text_said, text_unsaid}
use Rattle.sum_texts.proofs.reading.text_in.Goals as goal

pub returns-in_err-read-clause-only : goal.returns-in_err-read-clause-only
returns-in_err-read-clause-only c whole fits is =
    let e = c.in_err-read.field-0.0 in
    let passed = err_from_is_err_and c.from_residual-in_err-read.result c.from_residual-in_err-read.ensures.1 in
    let cut = text_unsaid c.args.text.now (bytes_of c.deref.result.now) (bytes_of c.in_ok-lines.lines.items) whole fits c.in_ok-lines.ensures (ap bytes_of c.deref.ensures.value) is in
    gives_memory e c.from_residual-in_err-read.result _ (passed.1 ∙ ap Err passed.2) (of_memory e _ (c.in_err-read.ensures.only whole fits cut))

pub returns-clause-found : goal.returns-clause-found
returns-clause-found c =
    text_said c.args.text.now (bytes_of c.deref.result.now) (bytes_of c.in_ok-lines.lines.items) (lines_of (read_view c.in_ok-read.read)) c.in_ok-lines.ensures (ap bytes_of c.deref.ensures.value) c.in_ok-read.ensures.found

pub returns-clause-only : goal.returns-clause-only
returns-clause-only c whole fits is =
    c.in_ok-read.ensures.only whole fits
    (text_unsaid c.args.text.now (bytes_of c.deref.result.now) (bytes_of c.in_ok-lines.lines.items) whole fits c.in_ok-lines.ensures (ap bytes_of c.deref.ensures.value) is)
