use Rattle.segment_invariant.proofs.Prelude.Std.{refl, sym, subst, rules, ⊤}
use Rattle.hist_core.specs.declared.fault.WorldFault.TheVariants.{NoMemory}
use Rattle.hist_core.specs.ActorRun.{IsAsItWas}
use Rattle.hist_core.proofs.SnapshotCall.Viewing.{snapshot_begins, snapshot_begun}
use Rattle.hist_core.proofs.Worlds.Beginnings.{IsTurned, begun, knows_at, no_memory, not_begun, others_stay, placed}
use Rattle.hist_core.proofs.Worlds.Faults.{err_is, the_fault}
use Rattle.hist_core.proofs.Worlds.Scheduling.{no_fault}
use Rattle.hist_core.proofs.world_state.WorldState.begin_snapshot.Goals as goal

pub returns-in_err-place : goal.returns-in_err-place
returns-in_err-place c =
    let fault = c.in_err-place.field-0.0 in
    not_begun _ _ _ _ _ fault (the_fault _ c.known_place.result fault c.in_err-place.was c.known_place.ensures.faults) _
    (err_is c.from_residual.result fault c.from_residual.ensures.0 (search rules))

pub begin_snapshot-requires : goal.begin_snapshot-requires
begin_snapshot-requires c =
    let old = c.args.self.now in let r = c.index_mut-actor_run.result.now in
    knows_at old c.args.actor c.args.name.now c.in_ok-place.place r c.requires.reached
    (placed old c.args.actor c.args.name.now c.in_ok-place.place c.in_ok-place.ensures.ready r c.index_mut-actor_run.ensures.value)

pub returns-in_err-begin_snapshot : goal.returns-in_err-begin_snapshot
returns-in_err-begin_snapshot c =
    let old = c.args.self.now in let r = c.index_mut-actor_run.result.now in
    let its = placed old c.args.actor c.args.name.now c.in_ok-place.place c.in_ok-place.ensures.ready r c.index_mut-actor_run.ensures.value in
    no_memory _ _ ⊤ _ _ (no_fault _ _ _ c.in_ok-place.ensures.faults) r its.resting _ c.begin_snapshot.new.self
    (record { shape = refl; version = refl; words = refl; count = refl; actor_runs = refl }) refl
    (subst (IsAsItWas r) (sym c.in_err-begin_snapshot.ensures.fails) (refl, refl, refl, refl)) tt _ (err_is c.from_residual-in_err-begin_snapshot.result NoMemory c.from_residual-in_err-begin_snapshot.ensures.0 (search rules))

pub returns : goal.returns
returns c =
    let old = c.args.self.now in let r = c.index_mut-actor_run.result.now in let now = c.begin_snapshot.new.self in
    let its = placed old c.args.actor c.args.name.now c.in_ok-place.place c.in_ok-place.ensures.ready r c.index_mut-actor_run.ensures.value in
    let starts = c.in_ok-begin_snapshot.ensures.begins its.known its.there in
    let turned : IsTurned old _ c.args.actor now = record { shape = refl; version = refl; words = refl; count = refl; actor_runs = refl } in
    begun _ _ _ _ _ (no_fault _ _ _ c.in_ok-place.ensures.faults) r its.resting _ _
    (snapshot_begins old _ c.args.actor c.args.name.now c.in_ok-place.place r now its turned refl starts)
    (others_stay old _ c.args.actor r now its.resting turned)
    (snapshot_begun old _ c.args.actor c.args.name.now c.in_ok-place.place r now its turned starts refl)
