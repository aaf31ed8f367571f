use Rattle.std.proofs.Common.{◌∙◌, [], ◌∷◌, ◌++◌, ap, sym, map}
use Rattle.std.specs.Prelude.{codes}
use Rattle.image_reader.specs.Views.{histogram_view}
use Rattle.reading_texts.specs.Labels.{label_view}
use Rattle.reading_texts.specs.Exporting.{joined, sample_text, ranged_samples}
use Rattle.reading_texts.proofs.Adding.{written-both}
use Rattle.reading_texts.proofs.Rendered.{flat_map-twice}
use Rattle.reading_texts.proofs.exporting.put_units.Goals as goal

pub returns : goal.returns
returns c =
    let prefix = c.args.prefix.now in
    let line_labels = map label_view c.args.line_labels.now in
    let hists = map (λ hist. histogram_view hist.now) c.args.hists.now in
    let name = c.in_ok-put_parts.ensures ∙ ap (λ s. s ++ joined (prefix ∷ codes "_units" ∷ [])) c.new-name.ensures.items in
    let heading = rw (c.deref.ensures.value, name) at c.in_ok-put_heading.ensures in
    let lines = rw (c.deref-2.ensures.value, name) at c.in_ok-put_all_ranged.ensures in
    written-both _ _ _ heading (lines ∙ ap (λ s. c.put_heading.new.text.items ++ s) (sym (flat_map-twice sample_text (ranged_samples (prefix ++ codes "_units") line_labels) hists)))
