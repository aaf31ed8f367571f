use Rattle.std.proofs.Common.{◌≡◌, ◌∙◌, ap, sym}
use Rattle.std.specs.Fmt.{decimal}
use Rattle.std.specs.Result.{result_ok}
use Rattle.std.proofs.lemmas.Option.{none-some, same_Some}
use Rattle.std.proofs.lemmas.Slice.Eq.{bytes_eq-Decides}
use Rattle.std.proofs.lemmas.Bool.{false≢true}
use Rattle.sum_texts.proofs.Numbers.{digits_are_text, digits_parse, of_err, of_ok}
use Rattle.sum_texts.proofs.number.size_in.Goals as goal

pub returns-in_err-text-clause-only : goal.returns-in_err-text-clause-only
returns-in_err-text-clause-only c size small is =
    absurd ((of_err _ _ c.from_utf8.result c.in_err-text.ensures.value c.from_utf8.ensures.cases).1.0 (digits_are_text _ size small is))

pub returns-in_err-size-clause-only : goal.returns-in_err-size-clause-only
returns-in_err-size-clause-only c size small is =
    let text = (of_ok _ _ c.from_utf8.result c.in_ok-text.text c.in_ok-text.ensures.value c.from_utf8.ensures.cases).0 in
    let parsed = digits_parse c.in_ok-text.text.now size c.parse.result small (text ∙ is) c.parse.ensures.value.0 in
    absurd (none-some size (c.in_err-size.ensures.value ∙ ap result_ok parsed))

pub returns-then-eq-clause-only : goal.returns-then-eq-clause-only
returns-then-eq-clause-only c size small is =
    let text = (of_ok _ _ c.from_utf8.result c.in_ok-text.text c.in_ok-text.ensures.value c.from_utf8.ensures.cases).0 in
    let parsed = digits_parse c.in_ok-text.text.now size c.parse.result small (text ∙ is) c.parse.ensures.value.0 in
    c.in_ok-size.ensures.value ∙ ap result_ok parsed

pub returns-else-eq-clause-only : goal.returns-else-eq-clause-only
returns-else-eq-clause-only c size small is =
    let text = (of_ok _ _ c.from_utf8.result c.in_ok-text.text c.in_ok-text.ensures.value c.from_utf8.ensures.cases).0 in
    let parsed = digits_parse c.in_ok-text.text.now size c.parse.result small (text ∙ is) c.parse.ensures.value.0 in
    let same : c.in_ok-size.size ≡ size = same_Some _ _ (c.in_ok-size.ensures.value ∙ ap result_ok parsed) in
    let written = c.as_bytes.ensures.value ∙ c.format.ensures.text ∙ ap decimal same ∙ sym is in
    absurd (false≢true (c.if-eq.ensures ∙ (bytes_eq-Decides c.as_bytes.result.now c.args.field.now).1 written))
