use Rattle.std.proofs.Common.{rules}
use Rattle.povundiri_c.specs.Recorders.{TakesNext}
use Rattle.povundiri_c.proofs.Calling.{of_recorder}
use Rattle.povundiri_c.proofs.exports.reading.povundiri_proved_next_shared.Goals as goal

pub returns-in-Ok : goal.returns-in-Ok
returns-in-Ok c =
    (_, of_recorder _ _ _ _ (TakesNext c.args.cursor) (λ shown left answer met. search (met, rules)) _ _ _ c.call_recorder.ensures, search (c.in-Ok.is, rules))

pub returns-in-Err : goal.returns-in-Err
returns-in-Err c =
    (_, of_recorder _ _ _ _ (TakesNext c.args.cursor) (λ shown left answer met. search (met, rules)) _ _ _ c.call_recorder.ensures, search (c.in-Err.is, rules))
