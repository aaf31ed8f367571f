use Rattle.std.proofs.Common.{◌≡◌, map, take}
use Rattle.reading_texts.specs.Labels.{label_view}
use Rattle.reading_shows.specs.Exported.{line_label}
use Rattle.reading_shows.proofs.exported.labels_of.Given as goal

abbrev pub invariant-loop-label : goal.invariant-loop-label
invariant-loop-label l = map label_view l.labels.items ≡ map line_label (take l.label-index l.exported.labels.items)
