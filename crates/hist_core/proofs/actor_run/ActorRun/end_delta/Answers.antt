use Rattle.segment_invariant.proofs.Prelude.Std.{◌≡◌, ℤ, sym, ap, subst, ◌∙◌, rules, Some, cast_signed, cast_unsigned, w64}
use Rattle.hist_core.specs.declared.call.Answer.TheVariants as answer
use Rattle.hist_core.specs.declared.call.Stepped.TheVariants.{Done}
use Rattle.hist_core.specs.declared.delta_call.DeltaCallStep.TheVariants as take_step
use Rattle.hist_core.specs.ActorRun.{LastBecomes}
use Rattle.hist_core.proofs.DeltaCall.Deltas.{taken_by}
use Rattle.hist_core.proofs.actor_run.ActorRun.end_delta.Goals as goal

pub returns : goal.returns
returns c = λ delta_call fresh was.
    let its = sym c.take.ensures.value ∙ (c.in-Some-Delta.is ∙ ap Some c.in-Some-Delta.field-0-is) in
    let same : c.in-Some-Delta.delta_call ≡ delta_call = ap (taken_by delta_call) (sym its ∙ was) in
    let whole : cast_signed w64 (cast_unsigned w64 c.args.sum) ≡ c.args.sum = search rules in (
      subst (λ (z : ℤ). LastBecomes (take_step.Done z) c.args.self.now.taken.items c.draw_sum.new.taken.items) whole c.draw_sum.ensures,
      ap (λ r. record c.args.self.now { taken = c.draw_sum.new.taken; running = r }) c.take.ensures.after,
      (λ i. Done (answer.Delta (record { counts = (same i).counts; sum = whole i }))),
    )
