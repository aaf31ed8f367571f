use Rattle.std.proofs.Common.{refl, ap, sym, true≢false, arith}
use Rattle.segment_machine.specs.declared.actor.Actor.{Actor}
use Rattle.segment_machine.proofs.laws.purses_carry.Goals as goal

pub returns : goal.returns
returns c = (
  (refl, refl, omega arith),
  (refl, refl, omega arith),
  refl,
  refl,
  (refl, (λ e. cc e), refl),
  refl,
  λ may. let much = may.2 in omega (arith, much),
  λ may. true≢false may.0,
  λ may. may.1 refl,
  λ may. cc (sym (ap (λ (a : Actor). a.hand.place) may.2)),
)
