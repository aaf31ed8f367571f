use Rattle.std.proofs.Common.{◌≡◌, length, map}
use Rattle.reading_texts.specs.Labels.{label_view, has_key}
use Rattle.reading_texts.proofs.labels.has_key.Given as goal

abbrev pub invariant-loop-rest : goal.invariant-loop-rest
invariant-loop-rest l = has_key (map label_view l.labels) l.key ≡ has_key (map label_view l.rest) l.key

abbrev pub decreases-loop-rest : goal.decreases-loop-rest
decreases-loop-rest l = length l.rest
