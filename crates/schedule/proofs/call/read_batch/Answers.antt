use Rattle.std.proofs.Common.{sym, arith}
use Rattle.std.proofs.lemmas.List.{length-map}
use Rattle.schedule.specs.Fields.{texts}
use Rattle.schedule.proofs.Fewer.{batch_in-few}
use Rattle.schedule.proofs.call.read_batch.Goals as goal

pub returns-in_default : goal.returns-in_default
returns-in_default c = sym (batch_in-few (texts c.args.behind.now) (omega (arith, length-map c.args.behind.now (λ field. field.now), c.in_default.len_below)))
