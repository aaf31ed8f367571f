use Rattle.std.proofs.Common.{◌≡◌, rules, inl, map, w64, FitsSigned, Err}
use Rattle.povundiri_c.specs.Asking.{pair_of}
use Rattle.povundiri_c.specs.Recorders.{AtPlace, Batches, refused_with}
use Rattle.povundiri_c.proofs.Calling.{of_same_batch, of_sized}
use Rattle.povundiri_c.proofs.exports.recording.povundiri_proved_batch.Goals as goal

pub returns-in-Ok-call_recorder : goal.returns-in-Ok-call_recorder
returns-in-Ok-call_recorder c =
    let fits : FitsSigned w64 c.args.sum = search rules in
    let same : c.in-Ok.pairs.items ≡ map pair_of c.args.items.now = search rules in
    let calls = of_sized _ _ _ _ (AtPlace (Err (refused_with 8)) (Batches (map pair_of c.args.items.now) c.args.sum) c.args.hist) c.of.ensures c.of-2.ensures
    (λ shown left answer met. (met.0, of_same_batch _ _ c.args.sum fits same c.args.hist shown.now.owned answer left.now.owned met.1)) _ _ _ c.call_recorder.ensures in
    inl (_, search rules, calls, search (c.in-Ok-call_recorder.is, rules))

pub returns : goal.returns
returns c =
    let fits : FitsSigned w64 c.args.sum = search rules in
    let same : c.in-Ok.pairs.items ≡ map pair_of c.args.items.now = search rules in
    let calls = of_sized _ _ _ _ (AtPlace (Err (refused_with 8)) (Batches (map pair_of c.args.items.now) c.args.sum) c.args.hist) c.of.ensures c.of-2.ensures
    (λ shown left answer met. (met.0, of_same_batch _ _ c.args.sum fits same c.args.hist shown.now.owned answer left.now.owned met.1)) _ _ _ c.call_recorder.ensures in
    inl (_, search rules, calls, search (c.in-Err.is, rules))
