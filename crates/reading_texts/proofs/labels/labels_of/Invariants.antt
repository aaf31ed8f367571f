use Rattle.std.proofs.Common.{◌≡◌, map, take}
use Rattle.reading_texts.specs.Labels.{label_view, label_of}
use Rattle.reading_texts.proofs.labels.labels_of.Given as goal

abbrev pub invariant-loop-part : goal.invariant-loop-part
invariant-loop-part l = map label_view l.labels.items ≡ map label_of (map (λ part. part.now) (take l.part-index l.parts))
