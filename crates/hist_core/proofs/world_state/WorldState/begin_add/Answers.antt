use Rattle.segment_invariant.proofs.Prelude.Std.{◌≡◌, ◌<◌, ◌+◌, ◌-◌, [], ◌∷◌, ℤ, w32, refl, subst, arith, rules, ⊤, to_z-of_z}
use Rattle.segment_invariant.proofs.Prelude.Machine.{boundaries_of, key_of}
use Rattle.segment_machine.specs.Entry.{sample_entry}
use Rattle.hist_core.specs.declared.fault.WorldFault.TheVariants.{NoMemory}
use Rattle.hist_core.specs.ActorRun.{BeginsAdd}
use Rattle.hist_core.specs.declared.actor_run.Running.TheVariants.{Add}
use Rattle.hist_core.specs.WorldState.{CountsValue}
use Rattle.hist_core.proofs.AddCall.Opening.{add_stands, count_begins, count_begun}
use Rattle.hist_core.proofs.Worlds.Beginnings.{IsTurned, answered, as_it_was, begun, knows_at, no_memory, not_begun, others_stay, placed}
use Rattle.hist_core.proofs.Worlds.Faults.{err_is, the_fault}
use Rattle.hist_core.proofs.Worlds.Scheduling.{no_fault}
use Rattle.hist_core.proofs.world_state.WorldState.begin_add.Goals as goal

pub returns-in_err-place : goal.returns-in_err-place
returns-in_err-place c =
    let fault = c.in_err-place.field-0.0 in
    not_begun _ _ _ _ _ fault (the_fault _ c.known_place.result fault c.in_err-place.was c.known_place.ensures.faults) _
    (err_is c.from_residual.result fault c.from_residual.ensures.0 (search rules))

pub returns-then-count-eq0 : goal.returns-then-count-eq0
returns-then-count-eq0 c =
    answered _ _ _ _ _ (no_fault _ _ _ c.in_ok-place.ensures.faults) _ (c.in_ok-place.ensures.ready).resting _ (as_it_was c.args.self.now, c.if-count-eq0.true)

pub returns-then-from-self : goal.returns-then-from-self
returns-then-from-self c =
    let much = c.if-from-self.true in let count = c.from.ensures in
    answered _ _ _ _ _ (no_fault _ _ _ c.in_ok-place.ensures.faults) _ (c.in_ok-place.ensures.ready).resting _ (as_it_was c.args.self.now, omega (arith, much, count))

pub begin_add-requires : goal.begin_add-requires
begin_add-requires c =
    let old = c.args.self.now in let r = c.index_mut-actor_run.result.now in
    knows_at old c.args.actor c.args.name.now c.in_ok-place.place r c.requires.reached
    (placed old c.args.actor c.args.name.now c.in_ok-place.place c.in_ok-place.ensures.ready r c.index_mut-actor_run.ensures.value)

pub returns-in_err-begin_add : goal.returns-in_err-begin_add
returns-in_err-begin_add c =
    let old = c.args.self.now in let r = c.index_mut-actor_run.result.now in
    let its = placed old c.args.actor c.args.name.now c.in_ok-place.place c.in_ok-place.ensures.ready r c.index_mut-actor_run.ensures.value in
    no_memory _ _ ⊤ _ _ (no_fault _ _ _ c.in_ok-place.ensures.faults) r its.resting _ c.begin_add.new.self
    (record { shape = refl; version = refl; words = refl; count = refl; actor_runs = refl }) refl c.in_err-begin_add.ensures.fails tt _ (err_is c.from_residual-in_err-begin_add.result NoMemory c.from_residual-in_err-begin_add.ensures.0 (search rules))

pub returns : goal.returns
returns c =
    let old = c.args.self.now in let r = c.index_mut-actor_run.result.now in let now = c.begin_add.new.self in let place = c.in_ok-place.place in
    let name = c.args.name.now in
    let its = placed old c.args.actor name place c.in_ok-place.ensures.ready r c.index_mut-actor_run.ensures.value in
    let held = to_z-of_z w32 c.args.value c.ranges.value in
    let starts = subst (λ (n : ℤ). BeginsAdd old.shape old.version its.known n c.args.count r now) held (c.in_ok-begin_add.ensures.begins its.known its.there) in
    let none = c.if-count-eq0.false in let few = c.if-from-self.false in let count = c.from.ensures in
    let pooled : old.units - c.from-2.result + c.args.count ≡ old.units = (let spent = c.from-2.ensures in omega (arith, few, count, spent)) in
    let some_units : 0 < c.args.count = omega (arith, none) in
    let turned : IsTurned old _ c.args.actor now = record { shape = refl; version = refl; words = refl; count = refl; actor_runs = refl } in
    let counted = starts.started in
    begun _ _ _ _ _ (no_fault _ _ _ c.in_ok-place.ensures.faults) r its.resting _ _
    (count_begins old _ c.requires.reached c.args.actor name place r now its turned _ (Add starts.add) c.args.count starts.begins pooled tt tt
    (λ a run lawful versions alone reach. add_stands old.shape old.version its.known c.args.value c.args.count r now starts place its.there
    some_units its.resting.rests a run lawful versions alone reach))
    (others_stay old _ c.args.actor r now its.resting turned) (
      some_units,
      omega (arith, few, count),
      count_begun old _ c.requires.reached c.args.actor name place r now its turned _ (Add starts.add) c.args.count starts.begins pooled
          (CountsValue c.args.value c.args.count) (counted.counts, counted.holds)
          (λ boundaries. sample_entry name boundaries (c.args.value, c.args.count) ∷ [])
          (λ j. record { name = its.named j; key = key_of (boundaries_of (its.known).spec) (counted.counts j); units = counted.holds j; amount = counted.amounts j } ∷ []) _ refl,
    )
