use Rattle.std.proofs.Common.{refl, arith}
use Rattle.segment_machine.proofs.laws.offers_stay.Goals as goal

pub returns : goal.returns
returns c = (
  (refl, refl, λ e. cc e, omega arith),
  λ may. let much = may.3 in omega (arith, much),
  λ may. let much = may.3 in omega (arith, much),
)
