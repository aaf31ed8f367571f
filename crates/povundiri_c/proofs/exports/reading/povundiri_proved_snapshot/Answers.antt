use Rattle.std.proofs.Common.{length, rules, subst, ap, arith, Result}
use Rattle.segment_calls.specs.declared.answer.Snapshot.{Snapshot}
use Rattle.povundiri_c.specs.declared.status.Refused.{Refused}
use Rattle.povundiri_c.specs.Calls.{SizesOfRecorder}
use Rattle.povundiri_c.specs.Recorders.{AtPlaceInRoom, TakesSnapshot}
use Rattle.povundiri_c.proofs.Calling.{of_sized}
use Rattle.povundiri_c.proofs.Fitting.{counts_of_snapshot, few_of_snapshot, fits}
use Rattle.povundiri_c.proofs.exports.reading.povundiri_proved_snapshot.Goals as goal

pub write_counts-requires : goal.write_counts-requires
write_counts-requires c =
    let room = length c.args.counts.now in
    let Calls : Result Snapshot Refused → Type 0 =
    λ answer. SizesOfRecorder (AtPlaceInRoom c.args.hist room TakesSnapshot) c.args.recorder.now.boxed.held answer c.call_recorder.new.self.boxed.held in
    let calls : Calls c.call_recorder.result =
    of_sized _ _ _ _ (AtPlaceInRoom c.args.hist room TakesSnapshot) c.of.ensures c.of-2.ensures (λ shown left answer met. met) _ _ _ c.call_recorder.ensures in
    let few = fits counts_of_snapshot TakesSnapshot few_of_snapshot c.args.hist room c.in-Ok.snapshot _ _ (subst Calls c.in-Ok.is calls) in
    let long = ap length c.deref.ensures.value in omega (arith, few, long)

pub returns-in-Ok : goal.returns-in-Ok
returns-in-Ok c =
    let calls = of_sized _ _ _ _ (AtPlaceInRoom c.args.hist (length c.args.counts.now) TakesSnapshot) c.of.ensures c.of-2.ensures (λ shown left answer met. met) _ _ _ c.call_recorder.ensures in
    (_, calls, search (c.in-Ok.is, rules))

pub returns-in-Err : goal.returns-in-Err
returns-in-Err c =
    let calls = of_sized _ _ _ _ (AtPlaceInRoom c.args.hist (length c.args.counts.now) TakesSnapshot) c.of.ensures c.of-2.ensures (λ shown left answer met. met) _ _ _ c.call_recorder.ensures in
    (_, calls, search (c.in-Err.is, rules))
