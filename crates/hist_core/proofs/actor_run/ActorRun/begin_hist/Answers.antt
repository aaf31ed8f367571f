use Rattle.std.proofs.Common.{arith, subst, refl}
use Rattle.hist_core.specs.ActorRun.{IsKnownAt, NoneHasName}
use Rattle.hist_core.proofs.actor_run.ActorRun.begin_hist.Goals as goal

pub known_answer-requires : goal.known_answer-requires
known_answer-requires c = subst (IsKnownAt c.args.self.now.known.items c.in-Some.i) c.deref.ensures.value c.in-Some.ensures.found

pub returns : goal.returns
returns c = (
  c.start.result,
  c.start.ensures,
  refl,
  c.in_ok-reserve.ensures.items,
  (let room = c.in_ok-reserve.ensures.ok in omega (arith, room)),
  subst (NoneHasName c.args.self.now.known.items) c.deref.ensures.value c.in_default.ensures.none,
)
