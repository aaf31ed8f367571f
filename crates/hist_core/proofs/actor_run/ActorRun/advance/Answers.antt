use Rattle.segment_invariant.proofs.Prelude.Std.{◌≤◌, ◌<◌, ◌+◌, take, length, ap, sym, subst, ◌∙◌, refl, arith, rules, vec_len, Some, None, vec_capacity, props, ∥∥₁_elim}
use Rattle.hist_core.specs.declared.call.Answer.TheVariants.{Flagged}
use Rattle.hist_core.specs.declared.actor_run.Running.TheVariants as runs
use Rattle.hist_core.specs.declared.call.Stepped.TheVariants.{Done}
use Rattle.hist_core.specs.ActorRun.{HasRoomForHist}
use Rattle.hist_core.proofs.AddCall.Adding.{add_goes, add_answers, some_add}
use Rattle.hist_core.proofs.BatchCall.Batched.{batch_goes, batch_answers, some_batch, pending_there, added_few}
use Rattle.hist_core.proofs.HistCall.Asking.{some_hist, some_words, some_room, hist_goes, hist_answers}
use Rattle.hist_core.proofs.Left.Adds.{add_less}
use Rattle.hist_core.proofs.Left.Batches.{batch_less}
use Rattle.hist_core.proofs.Left.Deltas.{delta_less}
use Rattle.hist_core.proofs.Left.Hists.{hist_less}
use Rattle.hist_core.proofs.Left.Snapshots.{snapshot_less}
use Rattle.hist_core.proofs.Worlds.Quiet.{counts_none, some_quiet, some_within, takes_none, takes_not}
use Rattle.hist_core.proofs.DeltaCall.Deltas.{delta_answers, delta_goes, has_place, some_draft, some_delta_call}
use Rattle.hist_core.proofs.Worlds.ActorRuns.{sets_corrupt}
use Rattle.hist_core.proofs.SnapshotCall.Viewing.{snapshot_answers, snapshot_goes, some_snapshot_call}
use Rattle.hist_core.proofs.Worlds.Apart.{looks_not}
use Rattle.hist_core.proofs.Worlds.Landing.{lands_apart}
use Rattle.hist_core.specs.Add.{IsSomeAdd}
use Rattle.hist_core.specs.Left.{RunningLowers}
use Rattle.hist_core.specs.DeltaCall.{IsSomeDeltaCall}
use Rattle.hist_core.specs.SnapshotCall.{IsSomeSnapshotCall}
use Rattle.hist_core.proofs.AddCall.Counts.{lies_within as add_within}
use Rattle.hist_core.proofs.DeltaCall.Going.{lies_within as delta_within}
use Rattle.hist_core.proofs.SnapshotCall.Snapshots.{lies_within as snapshot_within}
use Rattle.hist_core.proofs.actor_run.ActorRun.advance.Goals as goal

pub set_bits-requires : goal.set_bits-requires
set_bits-requires c =
    let wide : 16 ≤ length c.args.words.now = ∥∥₁_elim c.requires.stands (hlevel props) (λ some. some_words (length c.args.words.now) c.args.self.now some) in omega (arith, wide)

pub returns-in-Some-SetCorrupt-clause-advances : goal.returns-in-Some-SetCorrupt-clause-advances
returns-in-Some-SetCorrupt-clause-advances c = λ shape version a size order run.
    lands_apart shape version c.args.self.now c.args.words.now (record c.args.self.now { running = None }) c.set_bits.new.words (Done Flagged) a
    (subst looks_not (sym (c.in-Some-SetCorrupt.is ∙ ap Some c.in-Some-SetCorrupt.field-0-is)) tt)
    (sets_corrupt shape version a c.args.self.now c.args.words.now c.set_bits.new.words
    (subst (λ n. 16 ≤ n) (sym size) (∥∥₁_elim c.requires.stands (hlevel props) (λ some. some_words (length c.args.words.now) c.args.self.now some)))
    run (c.in-Some-SetCorrupt.is ∙ ap Some c.in-Some-SetCorrupt.field-0-is) c.set_bits.ensures.words)

pub returns-in-Some-SetCorrupt-clause-answers : goal.returns-in-Some-SetCorrupt-clause-answers
returns-in-Some-SetCorrupt-clause-answers c =
    let wide : 16 ≤ length c.args.words.now = ∥∥₁_elim c.requires.stands (hlevel props) (λ some. some_words (length c.args.words.now) c.args.self.now some) in
    let near : 6 < length c.args.words.now = omega (arith, wide) in
    let unbegun = ∥∥₁_elim c.requires.stands (hlevel props) (λ some.
    some_quiet (length c.args.words.now) c.args.self.now (subst counts_none (sym (c.in-Some-SetCorrupt.is ∙ ap Some c.in-Some-SetCorrupt.field-0-is)) tt) some) in
    let its = c.in-Some-SetCorrupt.is ∙ ap Some c.in-Some-SetCorrupt.field-0-is in (
      (its, search rules, refl, refl),
      (refl, λ i. take (unbegun.1 i) c.args.self.now.entries.items),
      takes_none c.args.self.now (record c.args.self.now { running = None }) _ (subst takes_not (sym its) tt) refl,
    )

pub step-said-requires : goal.step-said-requires
step-said-requires c = record {
  stands = ∥∥₁_elim c.requires.stands (hlevel props) (λ some.
      ∣ some_hist (length c.args.words.now) c.args.self.now c.in-Some-Hist.hist (c.in-Some-Hist.is ∙ ap Some c.in-Some-Hist.field-0-is) some ∣₁);
}

pub after_hist-requires : goal.after_hist-requires
after_hist-requires c = record {
  room = ∥∥₁_elim c.requires.stands (hlevel props) (λ some.
      subst (λ running. HasRoomForHist running (vec_len c.args.self.now.known) (vec_capacity c.args.self.now.known)) (c.in-Some-Hist.is ∙ ap Some c.in-Some-Hist.field-0-is)
      (some_room (length c.args.words.now) c.args.self.now some));
  asks = tt;
}

pub returns-in-Some-Hist-clause-advances : goal.returns-in-Some-Hist-clause-advances
returns-in-Some-Hist-clause-advances c = λ shape version a size order run.
    lands_apart shape version c.args.self.now c.args.words.now c.after_hist.new.self c.step-said.new.words c.after_hist.result a
    (subst looks_not (sym (c.in-Some-Hist.is ∙ ap Some c.in-Some-Hist.field-0-is)) tt)
    (hist_goes shape version c.args.self.now a run c.in-Some-Hist.hist c.step-said.new.self (c.in-Some-Hist.is ∙ ap Some c.in-Some-Hist.field-0-is) c.step-said.ensures.asks
    c.args.words.now c.step-said.new.words (sym size) c.step-said.result c.after_hist.new.self c.after_hist.result c.step-said.ensures.steps c.after_hist.ensures)

pub returns-in-Some-Hist-clause-answers : goal.returns-in-Some-Hist-clause-answers
returns-in-Some-Hist-clause-answers c =
    let its = c.in-Some-Hist.is ∙ ap Some c.in-Some-Hist.field-0-is in
    let unbegun = ∥∥₁_elim c.requires.stands (hlevel props) (λ some. some_quiet (length c.args.words.now) c.args.self.now (subst counts_none (sym its) tt) some) in
    hist_answers c.args.self.now c.in-Some-Hist.hist c.step-said.new.self its c.step-said.ensures.asks
    c.args.words.now c.step-said.new.words unbegun.0 unbegun.1 c.step-said.result c.after_hist.new.self c.after_hist.result c.after_hist.ensures

pub step-said-requires-in-Some-Add : goal.step-said-requires-in-Some-Add
step-said-requires-in-Some-Add c =
    let add = c.in-Some-Add.add in
    let stands : ∥ IsSomeAdd (length c.args.words.now) add ∥₁ = ∥∥₁_elim c.requires.stands (hlevel props) (λ (shape, version, a, long, wide, run).
    ∣ some_add shape version c.args.self.now add (c.in-Some-Add.is ∙ ap Some c.in-Some-Add.field-0-is) (length c.args.words.now) a run long ∣₁) in
    record { stands = stands; inside = add_within add c.args.words.now stands }

pub after_add-requires : goal.after_add-requires
after_add-requires c = record { within = ∥∥₁_elim c.requires.stands (hlevel props) (λ some. (let within = some_within (length c.args.words.now) c.args.self.now some in omega (arith, within))) }

pub returns-in-Some-Add-clause-advances : goal.returns-in-Some-Add-clause-advances
returns-in-Some-Add-clause-advances c = λ shape version a size order run.
    lands_apart shape version c.args.self.now c.args.words.now c.after_add.new.self c.step-said-in-Some-Add.new.words c.after_add.result a
    (subst looks_not (sym (c.in-Some-Add.is ∙ ap Some c.in-Some-Add.field-0-is)) tt)
    (add_goes shape version c.args.self.now c.in-Some-Add.add (c.in-Some-Add.is ∙ ap Some c.in-Some-Add.field-0-is) a run c.step-said-in-Some-Add.new.self c.step-said-in-Some-Add.ensures.same
    c.args.words.now c.step-said-in-Some-Add.new.words (sym size) c.step-said-in-Some-Add.result c.after_add.new.self c.after_add.result c.step-said-in-Some-Add.ensures.steps c.after_add.ensures)

pub returns-in-Some-Add-clause-answers : goal.returns-in-Some-Add-clause-answers
returns-in-Some-Add-clause-answers c =
    add_answers c.args.self.now c.in-Some-Add.add c.step-said-in-Some-Add.new.self (c.in-Some-Add.is ∙ ap Some c.in-Some-Add.field-0-is) c.step-said-in-Some-Add.ensures.same
    c.args.words.now c.step-said-in-Some-Add.new.words c.step-said-in-Some-Add.result c.after_add.new.self c.after_add.result c.after_add.ensures

pub step-said-requires-in-Some-Snapshot : goal.step-said-requires-in-Some-Snapshot
step-said-requires-in-Some-Snapshot c =
    let call = c.in-Some-Snapshot.snapshot_call in
    let stands : ∥ IsSomeSnapshotCall (length c.args.words.now) call ∥₁ = ∥∥₁_elim c.requires.stands (hlevel props) (λ some.
    ∣ some_snapshot_call (length c.args.words.now) c.args.self.now call (c.in-Some-Snapshot.is ∙ ap Some c.in-Some-Snapshot.field-0-is) some ∣₁) in
    record { stands = stands; inside = snapshot_within call c.args.words.now stands }

pub returns-in-Some-Snapshot-clause-advances : goal.returns-in-Some-Snapshot-clause-advances
returns-in-Some-Snapshot-clause-advances c = λ shape version a size order run.
    snapshot_goes shape version c.args.self.now a run c.in-Some-Snapshot.snapshot_call c.step-said-in-Some-Snapshot.new.self (c.in-Some-Snapshot.is ∙ ap Some c.in-Some-Snapshot.field-0-is)
    c.step-said-in-Some-Snapshot.ensures.of c.args.words.now c.args.words.now (sym size) order c.step-said-in-Some-Snapshot.result c.after_snapshot.new.self c.after_snapshot.result
    c.step-said-in-Some-Snapshot.ensures.steps c.after_snapshot.ensures

pub returns-in-Some-Snapshot-clause-answers : goal.returns-in-Some-Snapshot-clause-answers
returns-in-Some-Snapshot-clause-answers c =
    let its = c.in-Some-Snapshot.is ∙ ap Some c.in-Some-Snapshot.field-0-is in
    let unbegun = ∥∥₁_elim c.requires.stands (hlevel props) (λ some. some_quiet (length c.args.words.now) c.args.self.now (subst counts_none (sym its) tt) some) in
    snapshot_answers c.args.self.now c.in-Some-Snapshot.snapshot_call c.step-said-in-Some-Snapshot.new.self its c.step-said-in-Some-Snapshot.ensures.of
    c.args.words.now c.args.words.now unbegun.0 unbegun.1 c.step-said-in-Some-Snapshot.result c.after_snapshot.new.self c.after_snapshot.result c.after_snapshot.ensures

pub step-said-requires-in-Some-Delta : goal.step-said-requires-in-Some-Delta
step-said-requires-in-Some-Delta c =
    let call = c.in-Some-Delta.delta_call in
    let stands : ∥ IsSomeDeltaCall (length c.args.words.now) call ∥₁ = ∥∥₁_elim c.requires.stands (hlevel props) (λ some.
    ∣ some_delta_call (length c.args.words.now) c.args.self.now call c.in-Some-Delta.field-0-1 (c.in-Some-Delta.is ∙ ap Some c.in-Some-Delta.field-0-is) some ∣₁) in
    record { stands = stands; inside = delta_within call c.args.words.now stands }

pub after_delta-requires : goal.after_delta-requires
after_delta-requires c = record {
  place = has_place (length c.args.words.now) c.args.self.now c.in-Some-Delta.delta_call c.step-said-in-Some-Delta.new.self c.step-said-in-Some-Delta.result
      c.step-said-in-Some-Delta.ensures.goes.lists c.step-said-in-Some-Delta.ensures.goes.room c.requires.stands c.in-Some-Delta.field-0-1 (c.in-Some-Delta.is ∙ ap Some c.in-Some-Delta.field-0-is);
}

pub returns-in-Some-Delta-clause-advances : goal.returns-in-Some-Delta-clause-advances
returns-in-Some-Delta-clause-advances c = λ shape version a size order run.
    lands_apart shape version c.args.self.now c.args.words.now c.after_delta.new.self c.step-said-in-Some-Delta.new.words c.after_delta.result a
    (subst looks_not (sym (c.in-Some-Delta.is ∙ ap Some c.in-Some-Delta.field-0-is)) tt)
    (delta_goes shape version c.args.self.now a run c.in-Some-Delta.delta_call c.step-said-in-Some-Delta.new.self c.in-Some-Delta.field-0-1 (c.in-Some-Delta.is ∙ ap Some c.in-Some-Delta.field-0-is)
    c.args.words.now c.step-said-in-Some-Delta.new.words (sym size) c.step-said-in-Some-Delta.ensures.goes.begun c.step-said-in-Some-Delta.ensures.goes.room order
    c.step-said-in-Some-Delta.result c.after_delta.new.self c.after_delta.result c.step-said-in-Some-Delta.ensures.steps c.step-said-in-Some-Delta.ensures.goes.lists
    (c.after_delta.ensures c.step-said-in-Some-Delta.new.self c.in-Some-Delta.field-0-1 refl))

pub returns-in-Some-Delta-clause-answers : goal.returns-in-Some-Delta-clause-answers
returns-in-Some-Delta-clause-answers c =
    let its = c.in-Some-Delta.is ∙ ap Some c.in-Some-Delta.field-0-is in
    let unbegun = ∥∥₁_elim c.requires.stands (hlevel props) (λ some. some_quiet (length c.args.words.now) c.args.self.now (subst counts_none (sym its) tt) some) in
    delta_answers c.args.self.now c.in-Some-Delta.delta_call c.step-said-in-Some-Delta.new.self c.in-Some-Delta.field-0-1 its c.step-said-in-Some-Delta.ensures.goes.of
    c.args.words.now c.step-said-in-Some-Delta.new.words unbegun.0 unbegun.1
    (λ before last same. ∥∥₁_elim c.requires.stands (hlevel props) (λ some. some_draft (length c.args.words.now) c.args.self.now c.in-Some-Delta.delta_call c.in-Some-Delta.field-0-1 its before last same some))
    c.step-said-in-Some-Delta.result c.after_delta.new.self c.after_delta.result c.step-said-in-Some-Delta.ensures.goes.lists
    (c.after_delta.ensures c.step-said-in-Some-Delta.new.self c.in-Some-Delta.field-0-1 refl)

pub step-said-requires-in-Some-Batch : goal.step-said-requires-in-Some-Batch
step-said-requires-in-Some-Batch c = record {
  stands = ∥∥₁_elim c.requires.stands (hlevel props) (λ (shape, version, a, long, wide, run).
      ∣ some_batch shape version c.args.self.now c.in-Some-Batch.batch (c.in-Some-Batch.is ∙ ap Some c.in-Some-Batch.field-0-is) (length c.args.words.now) a run long ∣₁);
}

pub after_batch-requires : goal.after_batch-requires
after_batch-requires c = record {
  within =
      let fits : c.args.self.now.ended + vec_len c.in-Some-Batch.batch.items ≤ length c.args.self.now.entries.items = ∥∥₁_elim c.requires.stands (hlevel props) (λ (shape, version, a, long, wide, run).
      pending_there shape version c.args.self.now c.in-Some-Batch.batch (c.in-Some-Batch.is ∙ ap Some c.in-Some-Batch.field-0-is) a run) in
      let few = added_few c.in-Some-Batch.batch c.step-said-in-Some-Batch.new.self c.step-said-in-Some-Batch.result c.step-said-in-Some-Batch.ensures.refused in
      let ok = c.args.self.now.entries.ok.0 in omega (arith, fits, few, ok);
}

pub returns-in-Some-Batch-clause-advances : goal.returns-in-Some-Batch-clause-advances
returns-in-Some-Batch-clause-advances c = λ shape version a size order run.
    lands_apart shape version c.args.self.now c.args.words.now c.after_batch.new.self c.step-said-in-Some-Batch.new.words c.after_batch.result a
    (subst looks_not (sym (c.in-Some-Batch.is ∙ ap Some c.in-Some-Batch.field-0-is)) tt)
    (batch_goes shape version c.args.self.now c.in-Some-Batch.batch (c.in-Some-Batch.is ∙ ap Some c.in-Some-Batch.field-0-is) a run c.step-said-in-Some-Batch.new.self
    c.step-said-in-Some-Batch.ensures.same c.args.words.now c.step-said-in-Some-Batch.new.words (sym size) c.after_batch.new.self c.step-said-in-Some-Batch.result c.after_batch.result
    c.step-said-in-Some-Batch.ensures.steps c.step-said-in-Some-Batch.ensures.refused c.after_batch.ensures)

pub returns-in-Some-Batch-clause-answers : goal.returns-in-Some-Batch-clause-answers
returns-in-Some-Batch-clause-answers c =
    let fits : c.args.self.now.ended + vec_len c.in-Some-Batch.batch.items ≤ length c.args.self.now.entries.items = ∥∥₁_elim c.requires.stands (hlevel props) (λ (shape, version, a, long, wide, run).
    pending_there shape version c.args.self.now c.in-Some-Batch.batch (c.in-Some-Batch.is ∙ ap Some c.in-Some-Batch.field-0-is) a run) in
    batch_answers c.args.self.now c.in-Some-Batch.batch c.step-said-in-Some-Batch.new.self (c.in-Some-Batch.is ∙ ap Some c.in-Some-Batch.field-0-is) c.step-said-in-Some-Batch.ensures.same
    c.args.words.now c.step-said-in-Some-Batch.new.words c.step-said-in-Some-Batch.result c.after_batch.new.self c.after_batch.result c.step-said-in-Some-Batch.ensures.refused fits c.after_batch.ensures

pub returns-in-Some-Hist-clause-less : goal.returns-in-Some-Hist-clause-less
returns-in-Some-Hist-clause-less c =
    subst (λ running. RunningLowers running c.args.words.now c.after_hist.new.self.running c.step-said.new.words c.after_hist.result)
    (sym (c.in-Some-Hist.is ∙ ap Some c.in-Some-Hist.field-0-is))
    (hist_less c.in-Some-Hist.hist c.step-said.new.self c.args.self.now c.args.words.now c.step-said.new.words c.step-said.result c.after_hist.new.self c.after_hist.result
    c.step-said.ensures.less c.after_hist.ensures)

pub returns-in-Some-SetCorrupt-clause-less : goal.returns-in-Some-SetCorrupt-clause-less
returns-in-Some-SetCorrupt-clause-less c = λ chain has on. tt

pub returns-in-Some-Add-clause-less : goal.returns-in-Some-Add-clause-less
returns-in-Some-Add-clause-less c =
    subst (λ running. RunningLowers running c.args.words.now c.after_add.new.self.running c.step-said-in-Some-Add.new.words c.after_add.result)
    (sym (c.in-Some-Add.is ∙ ap Some c.in-Some-Add.field-0-is))
    (add_less c.in-Some-Add.add c.step-said-in-Some-Add.new.self c.args.self.now c.args.words.now c.step-said-in-Some-Add.new.words c.step-said-in-Some-Add.result
    c.after_add.new.self c.after_add.result c.step-said-in-Some-Add.ensures.less c.after_add.ensures)

pub returns-in-Some-Batch-clause-less : goal.returns-in-Some-Batch-clause-less
returns-in-Some-Batch-clause-less c =
    subst (λ running. RunningLowers running c.args.words.now c.after_batch.new.self.running c.step-said-in-Some-Batch.new.words c.after_batch.result)
    (sym (c.in-Some-Batch.is ∙ ap Some c.in-Some-Batch.field-0-is))
    (batch_less c.in-Some-Batch.batch c.step-said-in-Some-Batch.new.self c.args.self.now c.args.words.now c.step-said-in-Some-Batch.new.words c.step-said-in-Some-Batch.result
    c.after_batch.new.self c.after_batch.result c.step-said-in-Some-Batch.ensures.less c.after_batch.ensures)

pub returns-in-Some-Snapshot-clause-less : goal.returns-in-Some-Snapshot-clause-less
returns-in-Some-Snapshot-clause-less c =
    subst (λ running. RunningLowers running c.args.words.now c.after_snapshot.new.self.running c.args.words.now c.after_snapshot.result)
    (sym (c.in-Some-Snapshot.is ∙ ap Some c.in-Some-Snapshot.field-0-is))
    (snapshot_less c.in-Some-Snapshot.snapshot_call c.step-said-in-Some-Snapshot.new.self c.args.self.now c.args.words.now c.step-said-in-Some-Snapshot.result
    c.after_snapshot.new.self c.after_snapshot.result c.step-said-in-Some-Snapshot.ensures.less c.after_snapshot.ensures)

pub returns-in-Some-Delta-clause-less : goal.returns-in-Some-Delta-clause-less
returns-in-Some-Delta-clause-less c =
    subst (λ running. RunningLowers running c.args.words.now c.after_delta.new.self.running c.step-said-in-Some-Delta.new.words c.after_delta.result)
    (sym (c.in-Some-Delta.is ∙ ap Some c.in-Some-Delta.field-0-is))
    (delta_less c.in-Some-Delta.delta_call c.step-said-in-Some-Delta.new.self c.in-Some-Delta.field-0-1 c.in-Some-Delta.field-0-1
    (record c.args.self.now { running = Some (runs.Delta c.step-said-in-Some-Delta.new.self c.in-Some-Delta.field-0-1) }) c.args.words.now c.step-said-in-Some-Delta.new.words
    c.step-said-in-Some-Delta.result c.after_delta.new.self c.after_delta.result c.step-said-in-Some-Delta.ensures.less
    (c.after_delta.ensures c.step-said-in-Some-Delta.new.self c.in-Some-Delta.field-0-1 refl))
