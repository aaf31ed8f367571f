use Rattle.segment_invariant.proofs.Prelude.Std.{◌∙◌, refl, rules, Some}
use Rattle.hist_core.specs.declared.actor_run.Running.TheVariants.{SetCorrupt}
use Rattle.hist_core.proofs.Worlds.ActorRuns.{begins_set_corrupt}
use Rattle.hist_core.proofs.Worlds.Beginnings.{IsTurned, begun, checks_alike, is_now, not_begun, others_stay, rests_there, same_state}
use Rattle.hist_core.proofs.Worlds.Faults.{err_is, the_fault}
use Rattle.hist_core.proofs.Worlds.Scheduling.{no_fault}
use Rattle.hist_core.proofs.world_state.WorldState.begin_set_corrupt.Goals as goal

pub returns-in_err-resting : goal.returns-in_err-resting
returns-in_err-resting c =
    let fault = c.in_err-resting.field-0.0 in
    not_begun _ _ _ _ _ fault (checks_alike c.args.self.now c.args.actor ∙ the_fault _ c.resting.result fault c.in_err-resting.was c.resting.ensures.faults) _
    (err_is c.from_residual.result fault c.from_residual.ensures.0 (search rules))

pub returns : goal.returns
returns c =
    let old = c.args.self.now in let r = c.index_mut-actor_run.result.now in
    let resting = rests_there old c.args.actor _ r c.in_ok-resting.ensures.rests c.index_mut-actor_run.ensures.value in
    let now = record r { running = Some SetCorrupt } in
    let turned : IsTurned old _ c.args.actor now = record { shape = refl; version = refl; words = refl; count = refl; actor_runs = refl } in
    begun _ _ _ _ _ (checks_alike old c.args.actor ∙ no_fault _ _ _ c.in_ok-resting.ensures.faults) r resting _ _
    (same_state old _ c.args.actor r now resting turned refl (λ start state reach a there run. begins_set_corrupt old.shape old.version r a resting.rests run))
    (others_stay old _ c.args.actor r now resting turned)
    (now, is_now old _ c.args.actor r now resting turned, refl)
