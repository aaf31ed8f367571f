use Rattle.segment_invariant.proofs.Prelude.Std.{◌∙◌, All, sym, subst, ∥∥₁_elim, props}
use Rattle.segment_promises.specs.Calls.{AreUnits}
use Rattle.hist_core.specs.declared.entry.Taken.{Taken}
use Rattle.hist_core.proofs.DeltaCall.Deltas.{taken_ascends}
use Rattle.hist_core.proofs.Worlds.Faults.{shows_nothing}
use Rattle.hist_core.proofs.Worlds.WorldStates.{shown_is}
use Rattle.hist_core.proofs.world.World.taken.Goals as goal

pub returns-clause-items : goal.returns-clause-items
returns-clause-items c =
    c.as_slice.ensures.value ∙ shown_is (λ actor_run. actor_run.taken.items) c.args.self.now.world_state c.args.actor c.in-Some.actor_run.now c.in-Some.ensures.there.at

pub returns-clause-ascending : goal.returns-clause-ascending
returns-clause-ascending c =
    ∥∥₁_elim (taken_ascends c.args.self.now.world_state c.args.self.now.reached c.args.actor c.in-Some.actor_run.now c.in-Some.ensures.there.at)
    (hlevel props) (λ ascending. ∣ subst (All (λ (t : Taken). AreUnits t.counts.items)) (sym c.as_slice.ensures.value) ascending ∣₁)

pub returns-in_default-clause-items : goal.returns-in_default-clause-items
returns-in_default-clause-items c = shows_nothing (λ actor_run. actor_run.taken.items) c.args.self.now.world_state c.args.actor c.in_default.ensures.none
