use Rattle.std.proofs.Common.{rules}
use Rattle.povundiri_c.specs.Recorders.{WalksAll}
use Rattle.povundiri_c.proofs.Calling.{of_recorder}
use Rattle.povundiri_c.proofs.exports.reading.povundiri_proved_records.Goals as goal

pub returns-in-Err : goal.returns-in-Err
returns-in-Err c = (_, of_recorder _ _ _ _ WalksAll (λ shown left answer met. search (met, rules)) _ _ _ c.call_recorder.ensures, search (c.in-Err.is, rules))

pub returns-then-records-len : goal.returns-then-records-len
returns-then-records-len c = (_, of_recorder _ _ _ _ WalksAll (λ shown left answer met. search (met, rules)) _ _ _ c.call_recorder.ensures, search (c.in-Ok.is, rules))

pub returns : goal.returns
returns c = (_, of_recorder _ _ _ _ WalksAll (λ shown left answer met. search (met, rules)) _ _ _ c.call_recorder.ensures, search (c.in-Ok.is, rules))
