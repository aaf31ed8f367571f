use Rattle.std.proofs.Common.{◌≡◌, ◌∙◌, ◌∷◌, ◌<◌, length, drop, ap, arith}
use Rattle.std.proofs.lemmas.Bool.Decides.{nat_tests}
use Rattle.sum_texts.specs.Lines.{line_bytes, head_fields, notes_fields}
use Rattle.sum_texts.specs.Runs.{bytes_of}
use Rattle.sum_texts.proofs.FieldLists.{word_is}
use Rattle.sum_texts.proofs.Fronts.{line_at, some_at}
use Rattle.sum_texts.proofs.reading.notes_in.Goals as goal

pub returns-in-Some-clause-found : goal.returns-in-Some-clause-found
returns-in-Some-clause-found c =
    let lines = c.args.lines.now in
    let some : 1 < length lines = grind (arith, nat_tests) in
    let head = word_is _ _ c.if-ne.ensures ∙ c.as_slice.ensures in
    let said = some_at (λ notes. _ ≡ line_bytes (notes_fields notes)) c.in_ok-notes.field-0 c.in-Some.notes c.in-Some.is c.in_ok-notes.ensures.found in
    line_at lines 0 _ (omega arith) ∙ (ap (λ line. line ∷ bytes_of (drop 1 lines)) head
    ∙ ap (λ rest. line_bytes head_fields ∷ rest) (line_at lines 1 _ (omega arith) ∙ ap (λ line. line ∷ bytes_of (drop 2 lines)) said))
