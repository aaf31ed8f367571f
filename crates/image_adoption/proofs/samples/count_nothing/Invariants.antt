use Rattle.std.proofs.Common.{All, take}
use Rattle.image_adoption.specs.Conditions.{IsEmptySample}
use Rattle.image_adoption.proofs.samples.count_nothing.Given as goal

-- those so far count nothing
abbrev pub invariant-loop-sample : goal.invariant-loop-sample
invariant-loop-sample l = All (IsEmptySample l.words) (take l.sample-index l.samples)
