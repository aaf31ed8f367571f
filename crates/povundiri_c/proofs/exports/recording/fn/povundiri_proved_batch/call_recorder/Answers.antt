use Rattle.std.proofs.Common.{rules, w64, FitsSigned}
use Rattle.povundiri_c.proofs.Calling.{of_same_batch}
use Rattle.povundiri_c.proofs.exports.recording.fn.povundiri_proved_batch.call_recorder.Goals as goal

pub returns : goal.returns
returns c = let fits : FitsSigned w64 c.captures.sum = search rules in
    record { kept = c.batch.ensures.kept; answer = of_same_batch _ _ c.captures.sum fits c.deref.ensures.value _ _ _ _ c.batch.ensures.answer }
