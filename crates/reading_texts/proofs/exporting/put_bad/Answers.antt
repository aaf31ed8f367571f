use Rattle.std.proofs.Common.{◌∙◌, [], ◌∷◌, ◌++◌, ap, sym, map}
use Rattle.std.specs.Prelude.{codes}
use Rattle.std.specs.Fmt.{decimal}
use Rattle.std.proofs.lemmas.List.{append-nil}
use Rattle.image_reader.specs.Views.{reading_view}
use Rattle.reading_texts.specs.Labels.{label_view}
use Rattle.reading_texts.specs.Exporting.{joined, sample_text, total_sample, bad_records}
use Rattle.reading_texts.proofs.Adding.{written-both}
use Rattle.reading_texts.proofs.exporting.put_bad.Goals as goal

pub returns : goal.returns
returns c =
    let prefix = c.args.prefix.now in
    let line_labels = map label_view c.args.line_labels.now in
    let name = c.in_ok-put_parts.ensures ∙ ap (λ s. s ++ joined (prefix ∷ codes "_bad_records" ∷ [])) c.new-name.ensures.items in
    let heading = rw (c.deref.ensures.value, name) at c.in_ok-put_heading.ensures in
    let line = rw (c.deref-2.ensures.value, name, c.bad_records.ensures) at c.in_ok-put_number.ensures in
    let one = sample_text (total_sample (prefix ++ codes "_bad_records") line_labels (decimal (bad_records (reading_view c.args.reading.now)))) in
    written-both _ _ _ heading (line ∙ ap (λ s. c.put_heading.new.text.items ++ s) (sym (append-nil one)))
