use Rattle.std.proofs.Common.{rules, inl}
use Rattle.povundiri_c.specs.Recorders.{FindsHist}
use Rattle.povundiri_c.proofs.Calling.{of_recorder}
use Rattle.povundiri_c.proofs.exports.recording.povundiri_proved_hist.Goals as goal

pub returns-in-Ok-call_recorder : goal.returns-in-Ok-call_recorder
returns-in-Ok-call_recorder c =
    let calls = of_recorder _ _ _ _ (FindsHist c.args.name.now c.in-Ok.spec) (λ shown left answer met. search (met, rules)) _ _ _ c.call_recorder.ensures in
    inl (c.in-Ok.spec, search rules, _, calls, search (c.in-Ok-call_recorder.is, rules))

pub returns : goal.returns
returns c =
    let calls = of_recorder _ _ _ _ (FindsHist c.args.name.now c.in-Ok.spec) (λ shown left answer met. search (met, rules)) _ _ _ c.call_recorder.ensures in
    inl (c.in-Ok.spec, search rules, _, calls, search (c.in-Err-call_recorder.is, rules))
