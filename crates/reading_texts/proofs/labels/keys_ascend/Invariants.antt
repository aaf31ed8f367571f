use Rattle.std.proofs.Common.{◌≡◌, length, map}
use Rattle.reading_texts.specs.Labels.{label_view, keys_ascend}
use Rattle.reading_texts.proofs.labels.keys_ascend.Given as goal

abbrev pub invariant-loop-rest : goal.invariant-loop-rest
invariant-loop-rest l = keys_ascend (map label_view l.labels) ≡ keys_ascend (map label_view l.rest)

abbrev pub decreases-loop-rest : goal.decreases-loop-rest
decreases-loop-rest l = length l.rest
