use Rattle.std.proofs.Common.{rules}
use Rattle.povundiri_c.specs.Recorders.{Marks}
use Rattle.povundiri_c.proofs.Calling.{of_recorder}
use Rattle.povundiri_c.proofs.exports.recording.povundiri_proved_set_corrupt.Goals as goal

pub returns : goal.returns
returns c = of_recorder _ _ _ _ Marks (λ shown left answer met. search (met, rules)) _ _ _ c.call_recorder.ensures
