use Rattle.std.proofs.Common.{◌≡◌, ◌++◌, take}
use Rattle.std.specs.List.{flat_map}
use Rattle.reading_texts.specs.Labels.{label_view}
use Rattle.reading_texts.specs.Exporting.{next_label_text}
use Rattle.reading_texts.proofs.labels.put_labels.Given as goal

abbrev pub invariant-loop-label : goal.invariant-loop-label
invariant-loop-label l = l.text.items ≡ l.initial.text.items ++ flat_map (λ label. next_label_text (label_view label)) (take l.label-index l.labels)
