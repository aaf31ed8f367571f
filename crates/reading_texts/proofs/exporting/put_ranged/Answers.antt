use Rattle.std.proofs.Common.{◌≡◌, ◌∙◌, ◌++◌, ap, sym, false, map}
use Rattle.std.specs.Prelude.{codes}
use Rattle.image_reader.specs.Views.{histogram_view}
use Rattle.reading_texts.specs.Labels.{label_view, named_by, own_labels, text_of_name}
use Rattle.reading_texts.specs.Rows.{rows_of}
use Rattle.reading_texts.specs.Exporting.{is_sparse}
use Rattle.reading_texts.proofs.Adding.{written-both}
use Rattle.reading_texts.proofs.Buckets.{highs_positive}
use Rattle.reading_texts.proofs.Rendered.{ranged_is}
use Rattle.reading_texts.proofs.exporting.put_ranged.Goals as goal

pub put_buckets-requires : goal.put_buckets-requires
put_buckets-requires c =
    let hist = histogram_view c.args.hist.now in
    let ranged : is_sparse hist.spec ≡ false = sym c.is_sparse.ensures ∙ c.if-is_sparse.false in
    rw (c.deref-2.ensures.value, c.in_ok-rows.ensures) (highs_positive hist c.requires ranged)

pub returns : goal.returns
returns c =
    let hist = histogram_view c.args.hist.now in
    let name = c.args.name.now in
    let line_labels = map label_view c.args.line_labels.now in
    let text_name = text_of_name hist.name in
    let ranged : is_sparse hist.spec ≡ false = sym c.is_sparse.ensures ∙ c.if-is_sparse.false in
    let buckets = rw (c.deref.ensures.value, c.deref-2.ensures.value, c.in_ok-labels.ensures, c.in_ok-rows.ensures) at c.in_ok-put_buckets.ensures in
    let totals = rw (c.deref-3.ensures.value, c.in_ok-labels.ensures) at c.in_ok-put_totals.ensures in
    rw ranged
    (written-both _ _ _ buckets totals
    ∙ ap (λ s. c.args.text.now.items ++ s)
    (ranged_is name (codes "histogram", named_by line_labels text_name) (own_labels line_labels text_name ++ line_labels) (rows_of hist) hist))
