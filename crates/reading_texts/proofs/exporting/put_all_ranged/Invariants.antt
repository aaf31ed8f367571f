use Rattle.std.proofs.Common.{◌≡◌, ◌++◌, map, take}
use Rattle.std.specs.List.{flat_map}
use Rattle.image_reader.specs.Views.{histogram_view}
use Rattle.reading_texts.specs.Labels.{label_view}
use Rattle.reading_texts.specs.Exporting.{sample_text, ranged_samples}
use Rattle.reading_texts.proofs.exporting.put_all_ranged.Given as goal

abbrev pub invariant-loop-hist : goal.invariant-loop-hist
invariant-loop-hist l = l.text.items ≡ l.initial.text.items ++ flat_map (λ hist. flat_map sample_text (ranged_samples l.name (map label_view l.line_labels) (histogram_view hist.now))) (take l.hist-index l.hists)
