use Rattle.std.proofs.Common.{refl, true≢false, arith}
use Rattle.segment_machine.specs.Examples.{one}
use Rattle.segment_invariant.proofs.laws.deltas_and_marks.Goals as goal

pub returns : goal.returns
returns c = (
  refl,
  refl,
  refl,
  record { alone = refl; youngest = refl; quiet = λ k d below. absurd (omega (arith, below)) },
  λ final. absurd (true≢false (final.quiet 0 (one 0) (omega arith))),
)
