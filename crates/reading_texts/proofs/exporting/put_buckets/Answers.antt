use Rattle.std.proofs.Common.{◌∙◌, [], ◌∷◌, ◌++◌, ap, pos, ◌-ℤ◌}
use Rattle.std.specs.Prelude.{codes}
use Rattle.reading_texts.specs.declared.rows.HistRow.{HistRow}
use Rattle.reading_texts.specs.Exporting.{joined}
use Rattle.reading_texts.specs.Lines.{row_end}
use Rattle.reading_texts.proofs.Adding.{lines-joined}
use Rattle.reading_texts.proofs.exporting.put_buckets.Goals as goal

pub returns : goal.returns
returns c =
    let parts = c.args.name.now ∷ codes "_bucket{" ∷ c.args.labels.now ∷ codes ",le=\"" ∷ [] in
    let start = c.in_ok-put_parts.ensures ∙ ap (λ s. s ++ joined parts) c.new-start.ensures.items in
    rw (c.deref.ensures.value, start) at c.in_ok-put_bucket_rows.ensures
    ∙ ap (λ s. c.args.text.now.items ++ s) (lines-joined parts (λ (row : HistRow). row_end (row.high -ℤ pos 1) row.up_to) c.args.rows.now)
