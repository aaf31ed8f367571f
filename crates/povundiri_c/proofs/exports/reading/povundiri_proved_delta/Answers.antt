use Rattle.std.proofs.Common.{length, rules, subst, ap, arith, Result}
use Rattle.segment_calls.specs.declared.answer.Delta.{Delta}
use Rattle.povundiri_c.specs.declared.status.Refused.{Refused}
use Rattle.povundiri_c.specs.Calls.{SizesOfRecorder}
use Rattle.povundiri_c.specs.Recorders.{AtPlaceInRoom, TakesDelta}
use Rattle.povundiri_c.proofs.Calling.{of_sized}
use Rattle.povundiri_c.proofs.Fitting.{counts_of_delta, few_of_delta, fits}
use Rattle.povundiri_c.proofs.exports.reading.povundiri_proved_delta.Goals as goal

pub write_counts-requires : goal.write_counts-requires
write_counts-requires c =
    let room = length c.args.counts.now in
    let Calls : Result Delta Refused → Type 0 =
    λ answer. SizesOfRecorder (AtPlaceInRoom c.args.hist room TakesDelta) c.args.recorder.now.boxed.held answer c.call_recorder.new.self.boxed.held in
    let calls : Calls c.call_recorder.result =
    of_sized _ _ _ _ (AtPlaceInRoom c.args.hist room TakesDelta) c.of.ensures c.of-2.ensures (λ shown left answer met. met) _ _ _ c.call_recorder.ensures in
    let few = fits counts_of_delta TakesDelta few_of_delta c.args.hist room c.in-Ok.delta _ _ (subst Calls c.in-Ok.is calls) in
    let long = ap length c.deref.ensures.value in omega (arith, few, long)

pub returns-in-Ok : goal.returns-in-Ok
returns-in-Ok c =
    let calls = of_sized _ _ _ _ (AtPlaceInRoom c.args.hist (length c.args.counts.now) TakesDelta) c.of.ensures c.of-2.ensures (λ shown left answer met. met) _ _ _ c.call_recorder.ensures in
    (_, calls, search (c.in-Ok.is, rules))

pub returns-in-Err : goal.returns-in-Err
returns-in-Err c =
    let calls = of_sized _ _ _ _ (AtPlaceInRoom c.args.hist (length c.args.counts.now) TakesDelta) c.of.ensures c.of-2.ensures (λ shown left answer met. met) _ _ _ c.call_recorder.ensures in
    (_, calls, search (c.in-Err.is, rules))
