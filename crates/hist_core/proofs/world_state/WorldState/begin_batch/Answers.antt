use Rattle.segment_invariant.proofs.Prelude.Std.{◌≡◌, ◌+◌, ◌-◌, true, false, true≢false, ℤ, w64, refl, sym, ap, subst, ◌∙◌, arith, rules, ⊤, to_z-of_z}
use Rattle.segment_invariant.proofs.Prelude.Machine.{boundaries_of}
use Rattle.std.proofs.Common.{min}
use Rattle.segment_machine.specs.Entry.{batch_cost, batch_entries}
use Rattle.hist_core.specs.declared.fault.WorldFault.TheVariants.{NoMemory}
use Rattle.hist_core.specs.ActorRun.{BeginsBatch}
use Rattle.hist_core.specs.declared.batch.Batch.{Batch as BatchCall}
use Rattle.hist_core.specs.declared.actor_run.Running.TheVariants.{Batch}
use Rattle.hist_core.specs.declared.call.Answer.{Answer}
use Rattle.hist_core.specs.declared.call.Begun.TheVariants.{Ended}
use Rattle.hist_core.specs.WorldState.{AreSome, BatchBegins, CountsItems}
use Rattle.hist_core.proofs.AddCall.Opening.{count_begins, count_begun}
use Rattle.hist_core.proofs.BatchCall.BatchBegins.{all_some, batch_stands, counts_nothing, samples_are, some_all}
use Rattle.hist_core.proofs.Worlds.Beginnings.{IsTurned, answered, as_it_was, begun, knows_at, no_memory, not_begun, others_stay, placed}
use Rattle.hist_core.proofs.Worlds.Faults.{err_is, the_fault}
use Rattle.hist_core.proofs.Worlds.Scheduling.{no_fault}
use Rattle.hist_core.proofs.Worlds.WorldStates.{pool_fits}
use Rattle.hist_core.proofs.world_state.WorldState.begin_batch.Goals as goal

pub returns-in_err-place : goal.returns-in_err-place
returns-in_err-place c =
    let fault = c.in_err-place.field-0.0 in
    not_begun _ _ _ _ _ fault (the_fault _ c.known_place.result fault c.in_err-place.was c.known_place.ensures.faults) _
    (err_is c.from_residual.result fault c.from_residual.ensures.0 (search rules))

pub returns-then-not-are_some : goal.returns-then-not-are_some
returns-then-not-are_some c =
    let old = c.args.self.now in let items = c.args.items.now in
    let none : c.are_some.result ≡ false = search rules in
    answered _ _ _ _ _ (no_fault _ _ _ c.in_ok-place.ensures.faults) _ (c.in_ok-place.ensures.ready).resting _
    (subst (λ (said : Answer). BatchBegins c.args.actor c.args.name.now items c.args.sum old old (Ended said)) (sym c.refused_batch.ensures)
    (as_it_was old, refl, λ all. true≢false (sym (some_all items all) ∙ (sym c.are_some.ensures ∙ none))))

pub returns-then-cost-self : goal.returns-then-cost-self
returns-then-cost-self c =
    let old = c.args.self.now in let items = c.args.items.now in
    let some : c.are_some.result ≡ true = search rules in
    let held = ap (λ (n : ℤ). min (batch_cost items n) 18446744073709551615) (to_z-of_z w64 c.args.sum c.ranges.sum) in
    let cost = c.batch_cost-cost.ensures in
    answered _ _ _ _ _ (no_fault _ _ _ c.in_ok-place.ensures.faults) _ (c.in_ok-place.ensures.ready).resting _
    (subst (λ (said : Answer). BatchBegins c.args.actor c.args.name.now items c.args.sum old old (Ended said)) (sym c.refused_batch-then-cost-self.ensures)
    (as_it_was old, refl, (all_some items (sym c.are_some.ensures ∙ some), (let much = c.if-cost-self.true in omega (arith, much, cost, held)))))

pub returns-then-cost-eq0 : goal.returns-then-cost-eq0
returns-then-cost-eq0 c =
    let items = c.args.items.now in
    let some : c.are_some.result ≡ true = search rules in
    let held = ap (λ (n : ℤ). min (batch_cost items n) 18446744073709551615) (to_z-of_z w64 c.args.sum c.ranges.sum) in
    let cost = c.batch_cost-cost.ensures in let none = c.if-cost-eq0.true in
    answered _ _ _ _ _ (no_fault _ _ _ c.in_ok-place.ensures.faults) _ (c.in_ok-place.ensures.ready).resting _
    (as_it_was c.args.self.now, counts_nothing items c.args.sum (all_some items (sym c.are_some.ensures ∙ some)) (omega (arith, none, cost, held)))

pub overflow_cast-cost : goal.overflow_cast-cost
overflow_cast-cost c =
    let few = c.if-cost-self.false in let pool = pool_fits c.args.self.now c.requires.reached in omega (arith, few, pool)

pub begin_batch-requires : goal.begin_batch-requires
begin_batch-requires c =
    let old = c.args.self.now in let r = c.index_mut-actor_run.result.now in
    knows_at old c.args.actor c.args.name.now c.in_ok-place.place r c.requires.reached
    (placed old c.args.actor c.args.name.now c.in_ok-place.place c.in_ok-place.ensures.ready r c.index_mut-actor_run.ensures.value)

pub returns-in_err-begin_batch : goal.returns-in_err-begin_batch
returns-in_err-begin_batch c =
    let old = c.args.self.now in let r = c.index_mut-actor_run.result.now in
    let its = placed old c.args.actor c.args.name.now c.in_ok-place.place c.in_ok-place.ensures.ready r c.index_mut-actor_run.ensures.value in
    no_memory _ _ ⊤ _ _ (no_fault _ _ _ c.in_ok-place.ensures.faults) r its.resting _ c.begin_batch.new.self
    (record { shape = refl; version = refl; words = refl; count = refl; actor_runs = refl }) refl c.in_err-begin_batch.ensures.fails tt _ (err_is c.from_residual-in_err-begin_batch.result NoMemory c.from_residual-in_err-begin_batch.ensures.0 (search rules))

pub returns : goal.returns
returns c =
    let old = c.args.self.now in let r = c.index_mut-actor_run.result.now in let now = c.begin_batch.new.self in let place = c.in_ok-place.place in
    let name = c.args.name.now in let items = c.args.items.now in let price = c.batch_cost-cost.result in
    let its = placed old c.args.actor name place c.in_ok-place.ensures.ready r c.index_mut-actor_run.ensures.value in
    let held = to_z-of_z w64 c.args.sum c.ranges.sum in
    let starts = subst (λ (n : ℤ). BeginsBatch old.shape old.version its.known items n price r now) held (c.in_ok-begin_batch.ensures.begins its.known its.there) in
    let some : c.are_some.result ≡ true = search rules in
    let all : AreSome items = all_some items (sym c.are_some.ensures ∙ some) in
    let few = c.if-cost-self.false in let pool = pool_fits old c.requires.reached in let cost = c.batch_cost-cost.ensures in let least = c.if-cost-eq0.false in
    let whole = ap (λ (n : ℤ). min (batch_cost items n) 18446744073709551615) held in
    let priced : price ≡ batch_cost items c.args.sum = omega (arith, few, pool, cost, whole) in
    let pooled : old.units - price + price ≡ old.units = omega (arith, few) in
    let turned : IsTurned old _ c.args.actor now = record { shape = refl; version = refl; words = refl; count = refl; actor_runs = refl } in
    begun _ _ _ _ _ (no_fault _ _ _ c.in_ok-place.ensures.faults) r its.resting _ _
    (count_begins old _ c.requires.reached c.args.actor name place r now its turned _ (Batch starts.call) price starts.begins pooled tt tt
    (λ a run lawful versions alone reach. batch_stands old.shape old.version its.known items c.args.sum price r now starts place its.there
    all priced (omega (arith, least)) its.resting.rests a run lawful versions alone reach))
    (others_stay old _ c.args.actor r now its.resting turned) (
      all,
      (λ nothing. let none : batch_cost items c.args.sum ≡ 0 = λ i. batch_cost (nothing.0 i) (nothing.1 i) in omega (arith, none, priced, least)),
      omega (arith, few, priced),
      count_begun old _ c.requires.reached c.args.actor name place r now its turned _ (Batch starts.call) price starts.begins pooled
          (CountsItems items c.args.sum)
          (samples_are old.shape old.version its.known items starts.call.items.items starts.started, ap (λ (b : BatchCall). b.sum) starts.fresh)
          (λ boundaries. batch_entries name boundaries items c.args.sum)
          (λ j. batch_entries (its.named j) (boundaries_of (its.known).spec) items c.args.sum) _ priced,
    )
