use Rattle.segment_invariant.proofs.Prelude.Std.{◌∙◌, true, false, refl, ap, vec_len, not, ∥∥₁_elim, props, le-leb}
use Rattle.std.proofs.lemmas.Bool.{lt-leb}
use Rattle.hist_core.proofs.Worlds.Moving.{one_word}
use Rattle.hist_core.proofs.Worlds.Faults.{first_fails, is_busy, none_fails, rests_as, second_fails}
use Rattle.hist_core.proofs.world.World.step.Goals as goal

pub returns-in_default-clause-faults : goal.returns-in_default-clause-faults
returns-in_default-clause-faults c =
    first_fails _ _ _ _ _ _ (le-leb (vec_len c.args.self.now.world_state.actor_runs) c.args.actor c.in_default.ensures.none) refl

pub returns-then-is_none-clause-faults : goal.returns-then-is_none-clause-faults
returns-then-is_none-clause-faults c =
    let world_state = c.args.self.now.world_state in let there = c.in-Some.ensures.there in
    second_fails _ _ _ _ _ _ (lt-leb (vec_len world_state.actor_runs) c.args.actor there.near)
    (rests_as world_state c.args.actor c.in-Some.actor_run.now there.at true (c.is_none.ensures ∙ ap not c.if-is_none.true)) refl

pub step-requires-clause-reached : goal.step-requires-clause-reached
step-requires-clause-reached c = c.args.self.now.reached

pub step-requires-clause-near : goal.step-requires-clause-near
step-requires-clause-near c = c.in-Some.ensures.there.near

pub step-requires-clause-busy : goal.step-requires-clause-busy
step-requires-clause-busy c =
    is_busy c.args.self.now.world_state c.args.actor c.in-Some.actor_run.now c.in-Some.ensures.there.at (c.is_none.ensures ∙ ap not c.if-is_none.false)

pub invariant_of-self : goal.invariant_of-self
invariant_of-self c = record {
  reached = ∥∥₁_elim c.args.self.now.reached (hlevel props) (λ (start, state, reach). let did = c.step.ensures.steps start state reach in ∣ (start, did.3.0, did.3.2.0) ∣₁);
}

pub returns-clause-faults : goal.returns-clause-faults
returns-clause-faults c =
    let world_state = c.args.self.now.world_state in let there = c.in-Some.ensures.there in
    none_fails _ _ _ _ _ _ (lt-leb (vec_len world_state.actor_runs) c.args.actor there.near)
    (rests_as world_state c.args.actor c.in-Some.actor_run.now there.at false (c.is_none.ensures ∙ ap not c.if-is_none.false)) refl

pub returns-clause-word : goal.returns-clause-word
returns-clause-word c = ∥∥₁_elim c.args.self.now.reached (hlevel props)
    (λ (start, state, reach). ∣ one_word start c.args.self.now.world_state c.args.actor state _ _ reach (c.step.ensures.steps start state reach) ∣₁)
