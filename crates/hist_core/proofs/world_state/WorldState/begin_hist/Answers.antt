use Rattle.segment_invariant.proofs.Prelude.Std.{◌∙◌, refl, rules, Ok, ⊤}
use Rattle.hist_core.specs.declared.fault.WorldFault.TheVariants.{NoMemory}
use Rattle.hist_core.proofs.HistCall.Asking.{begins_hist}
use Rattle.hist_core.proofs.Worlds.Beginnings.{IsTurned, answered, as_it_was, begun, checks_alike, hist_begins, no_memory, not_begun, others_stay, rests_there, same_state}
use Rattle.hist_core.proofs.Worlds.Faults.{err_is, the_fault}
use Rattle.hist_core.proofs.Worlds.Scheduling.{no_fault}
use Rattle.hist_core.proofs.Worlds.Starts.{shape_there}
use Rattle.hist_core.proofs.world_state.WorldState.begin_hist.Goals as goal

pub returns-in_err-resting : goal.returns-in_err-resting
returns-in_err-resting c =
    let fault = c.in_err-resting.field-0.0 in
    not_begun _ _ _ _ _ fault (checks_alike c.args.self.now c.args.actor ∙ the_fault _ c.resting.result fault c.in_err-resting.was c.resting.ensures.faults) _
    (err_is c.from_residual.result fault c.from_residual.ensures.0 (search rules))

pub returns-in_ok-begin_hist-in-Ok : goal.returns-in_ok-begin_hist-in-Ok
returns-in_ok-begin_hist-in-Ok c =
    let old = c.args.self.now in let r = c.index_mut-actor_run.result.now in let now = c.begin_hist.new.self in
    let said = Ok c.in_ok-begin_hist-in-Ok.field-0 in
    let resting = rests_there old c.args.actor _ r c.in_ok-resting.ensures.rests c.index_mut-actor_run.ensures.value in
    let turned : IsTurned old _ c.args.actor now = record { shape = refl; version = refl; words = refl; count = refl; actor_runs = refl } in
    begun _ _ _ _ _ (checks_alike old c.args.actor ∙ no_fault _ _ _ c.in_ok-resting.ensures.faults) r resting _ _
    (same_state old _ c.args.actor r now resting turned refl (λ start state reach a there run.
    begins_hist old.shape old.version c.args.name.now c.args.spec.now c.in-Ok.asked r now said a c.in-Ok.ensures (shape_there start old state reach) resting.rests
    c.in_ok-begin_hist-in-Ok.ensures run))
    (others_stay old _ c.args.actor r now resting turned)
    (hist_begins old _ c.args.actor r now resting turned refl c.args.name.now c.args.spec.now c.in-Ok.asked said c.in-Ok.ensures c.in_ok-begin_hist-in-Ok.ensures)

pub returns-in_err-begin_hist-in-Ok : goal.returns-in_err-begin_hist-in-Ok
returns-in_err-begin_hist-in-Ok c =
    let old = c.args.self.now in let r = c.index_mut-actor_run.result.now in
    let resting = rests_there old c.args.actor _ r c.in_ok-resting.ensures.rests c.index_mut-actor_run.ensures.value in
    let fault = c.from_residual-in_err-begin_hist-in-Ok in
    no_memory _ _ ⊤ _ _ (checks_alike old c.args.actor ∙ no_fault _ _ _ c.in_ok-resting.ensures.faults) r resting _ c.begin_hist.new.self
    (record { shape = refl; version = refl; words = refl; count = refl; actor_runs = refl }) refl c.in_err-begin_hist-in-Ok.ensures tt _
    (err_is fault.result NoMemory fault.ensures.0 (search rules))

pub returns-in-Err : goal.returns-in-Err
returns-in-Err c =
    answered _ _ _ _ _ (checks_alike c.args.self.now c.args.actor ∙ no_fault _ _ _ c.in_ok-resting.ensures.faults) _ c.in_ok-resting.ensures.rests _
    (as_it_was c.args.self.now, λ actor_run at. search rules)
