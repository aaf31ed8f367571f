use Rattle.std.proofs.Common.{◌∙◌, refl, sym, ap, vec_len}
use Rattle.std.proofs.lemmas.Bool.{le-leb, lt-leb}
use Rattle.hist_core.specs.World.{runs}
use Rattle.hist_core.proofs.Worlds.Faults.{first_fails, none_fails, none_runs, second_fails}
use Rattle.hist_core.proofs.world_state.WorldState.resting.Goals as goal

pub returns-in_default-clause-faults : goal.returns-in_default-clause-faults
returns-in_default-clause-faults c = first_fails _ _ _ _ _ _ (le-leb (vec_len c.args.self.now.actor_runs) c.args.actor c.in_default.ensures.none) refl

pub returns-then-is_some-clause-faults : goal.returns-then-is_some-clause-faults
returns-then-is_some-clause-faults c =
    let there = c.in-Some.ensures.there in
    second_fails _ _ _ _ _ _ (lt-leb (vec_len c.args.self.now.actor_runs) c.args.actor there.near) (ap runs there.at ∙ sym c.is_some.ensures ∙ c.if-is_some.true) refl

pub returns-clause-faults : goal.returns-clause-faults
returns-clause-faults c =
    let there = c.in-Some.ensures.there in
    none_fails _ _ _ _ _ _ (lt-leb (vec_len c.args.self.now.actor_runs) c.args.actor there.near) (ap runs there.at ∙ sym c.is_some.ensures ∙ c.if-is_some.false) refl

pub returns-clause-rests : goal.returns-clause-rests
returns-clause-rests c =
    let there = c.in-Some.ensures.there in record {
      near = there.near;
      at = there.at;
      rests = none_runs (c.in-Some.actor_run.now).running (sym c.is_some.ensures ∙ c.if-is_some.false);
    }
