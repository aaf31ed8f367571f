use Rattle.std.proofs.Common.{[], ◌∷◌, codes, sym, subst}
use Rattle.std.specs.Prelude.{OnOk}
use Rattle.std.specs.Fmt.{decimal}
use Rattle.std.specs.Io.KnownBytes.{Appends}
use Rattle.hist_core.specs.declared.call.Answer.{Answer}
use Rattle.stepped.specs.Lines.{answer_fields, behind, refusal_fields}
use Rattle.stepped.proofs.Shown.{fields_both, on_ok}
use Rattle.stepped.proofs.lines.put_answer.Goals as goal

pub returns-in_ok-put_number-in-BatchRefused : goal.returns-in_ok-put_number-in-BatchRefused
returns-in_ok-put_number-in-BatchRefused g c =
    let contents = g.W.Write.contents in let refusal = c.in-BatchRefused.refusal in
    let start = contents c.args.writer.now in let word = contents c.put_word-in-BatchRefused.new.writer in
    let number = contents c.put_number-in-BatchRefused.new.writer in let last = contents c.put_refusal-in-BatchRefused.new.writer in
    subst (λ (answer : Answer). OnOk c.put_refusal-in-BatchRefused.result (Appends start last (behind (answer_fields answer)))) (sym c.in-BatchRefused.is)
    (on_ok c.put_refusal-in-BatchRefused.result
    (fields_both start number last (codes "batch_refused" ∷ decimal refusal.added ∷ []) (refusal_fields refusal.why)
    (fields_both start word number (codes "batch_refused" ∷ []) (decimal refusal.added ∷ []) c.in_ok-put_word-in-BatchRefused.ensures c.in_ok-put_number-in-BatchRefused.ensures))
    c.put_refusal-in-BatchRefused.ensures)
