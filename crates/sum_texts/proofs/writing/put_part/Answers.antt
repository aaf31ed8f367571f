use Rattle.std.proofs.Common.{◌∙◌, ◌++◌, ap, sym}
use Rattle.std.specs.List.{flat_map}
use Rattle.std.proofs.lemmas.List.Folds.{flat_map-map}
use Rattle.reading_texts.proofs.Adding.{written-both}
use Rattle.reading_sums.specs.Views.{part_of}
use Rattle.sum_texts.specs.Lines.{line_text, key_fields, hist_fields}
use Rattle.sum_texts.proofs.writing.put_part.Goals as goal

pub returns : goal.returns
returns c =
    let old = c.args.text.now.items in
    let hist = line_text (hist_fields (part_of c.args.hist.now)) in
    let keys = c.args.hist.now.keys.items in
    written-both old hist (flat_map (λ key. line_text (key_fields key)) keys) c.in_ok-put_hist.ensures (rw c.deref.ensures.value at c.in_ok-put_keys.ensures)
    ∙ ap (λ s. old ++ (hist ++ s)) (sym (flat_map-map line_text key_fields keys))
