use Rattle.std.proofs.Common.{◌∙◌, [], ◌∷◌, ◌++◌, ap}
use Rattle.std.specs.Prelude.{codes}
use Rattle.reading_texts.specs.declared.rows.HistRow.{HistRow}
use Rattle.reading_texts.specs.Exporting.{joined}
use Rattle.reading_texts.specs.Lines.{row_end}
use Rattle.reading_texts.proofs.Adding.{lines-joined}
use Rattle.reading_texts.proofs.exporting.put_values.Goals as goal

pub returns : goal.returns
returns c =
    let parts = c.args.name.now ∷ codes "{" ∷ c.args.labels.now ∷ codes ",value=\"" ∷ [] in
    let start = c.in_ok-put_parts.ensures ∙ ap (λ s. s ++ joined parts) c.new-start.ensures.items in
    rw (c.deref.ensures.value, start) at c.in_ok-put_value_rows.ensures
    ∙ ap (λ s. c.args.text.now.items ++ s) (lines-joined parts (λ (row : HistRow). row_end row.low row.units) c.args.rows.now)
