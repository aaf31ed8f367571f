use Rattle.std.proofs.Common.{rules}
use Rattle.povundiri_c.specs.Recorders.{Limits}
use Rattle.povundiri_c.proofs.Calling.{of_recorder}
use Rattle.povundiri_c.proofs.exports.recording.povundiri_proved_limit_indexes.Goals as goal

pub returns : goal.returns
returns c = of_recorder _ _ _ _ (Limits c.args.entries) (λ shown left answer met. search (met, rules)) _ _ _ c.call_recorder.ensures
