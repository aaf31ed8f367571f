use Rattle.std.proofs.Common.{◌≡◌, ◌∙◌, ◌++◌, ap, rules, true, map}
use Rattle.std.specs.Prelude.{codes}
use Rattle.image_reader.specs.Views.{histogram_view}
use Rattle.reading_texts.specs.Labels.{label_view, named_by, own_labels, text_of_name}
use Rattle.reading_texts.specs.Rows.{rows_of}
use Rattle.reading_texts.specs.Exporting.{is_sparse}
use Rattle.reading_texts.proofs.Rendered.{values_are}
use Rattle.reading_texts.proofs.exporting.put_sparse.Goals as goal

pub returns : goal.returns
returns c =
    let hist = histogram_view c.args.hist.now in
    let line_labels = map label_view c.args.line_labels.now in
    let text_name = text_of_name hist.name in
    let sparse : is_sparse hist.spec ≡ true = search rules in
    let values = rw (c.deref.ensures.value, c.deref-2.ensures.value, c.in_ok-labels.ensures, c.in_ok-rows.ensures) at c.in_ok-put_values.ensures in
    rw sparse
    (values
    ∙ ap (λ s. c.args.text.now.items ++ s)
    (values_are c.args.name.now (codes "histogram", named_by line_labels text_name) (own_labels line_labels text_name ++ line_labels) (rows_of hist)))
