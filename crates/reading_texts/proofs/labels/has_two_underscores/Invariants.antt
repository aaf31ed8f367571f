use Rattle.std.proofs.Common.{◌≡◌, length}
use Rattle.reading_texts.specs.Labels.{has_two_underscores}
use Rattle.reading_texts.proofs.labels.has_two_underscores.Given as goal

abbrev pub invariant-loop-rest : goal.invariant-loop-rest
invariant-loop-rest l = has_two_underscores l.key ≡ has_two_underscores l.rest

abbrev pub decreases-loop-rest : goal.decreases-loop-rest
decreases-loop-rest l = length l.rest
