use Rattle.segment_invariant.proofs.Prelude.Std.{◌≡◌, ℤ, sym, ap, subst, ◌∙◌, rules, Some, cast_signed, cast_unsigned, w64}
use Rattle.hist_core.specs.declared.call.Answer.TheVariants as answer
use Rattle.hist_core.specs.declared.call.Stepped.TheVariants.{Done}
use Rattle.hist_core.specs.declared.snapshot_call.SnapshotCallStep.{SnapshotCallStep}
use Rattle.hist_core.specs.ActorRun.{IsSnapshotAnnounced}
use Rattle.hist_core.proofs.actor_run.ActorRun.after_snapshot.Goals as goal

pub returns : goal.returns
returns c =
    let snapshot_call = c.in-Some-Snapshot.snapshot_call in
    let sum = c.in-Done.sum in
    let whole : cast_signed w64 (cast_unsigned w64 sum) ≡ sum = search rules in
    let totals = snapshot_call.totals in
    let redundant = c.in-Done.redundant in
    subst (λ (said : SnapshotCallStep). IsSnapshotAnnounced c.args.self.now said (record c.args.self.now { running = c.take.new.self })
    (Done (answer.Snapshot (record { counts = totals; sum = cast_signed w64 (cast_unsigned w64 sum); redundant = redundant })))) (sym c.in-Done.is) (
      snapshot_call,
      sym c.take.ensures.value ∙ (c.in-Some-Snapshot.is ∙ ap Some c.in-Some-Snapshot.field-0-is),
      ap (λ r. record c.args.self.now { running = r }) c.take.ensures.after,
      ap (λ (s : ℤ). Done (answer.Snapshot (record { counts = totals; sum = s; redundant = redundant }))) whole,
    )
