use Rattle.std.proofs.Common.{◌≡◌, length, map}
use Rattle.reading_texts.specs.Labels.{label_view, are_line_labels}
use Rattle.reading_texts.proofs.labels.are_line_labels.Given as goal

abbrev pub invariant-loop-rest : goal.invariant-loop-rest
invariant-loop-rest l = are_line_labels (map label_view l.labels) ≡ are_line_labels (map label_view l.rest)

abbrev pub decreases-loop-rest : goal.decreases-loop-rest
decreases-loop-rest l = length l.rest
