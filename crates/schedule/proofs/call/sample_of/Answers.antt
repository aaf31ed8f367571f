use Rattle.std.proofs.Common.{sym, arith}
use Rattle.std.proofs.lemmas.List.{length-map}
use Rattle.schedule.specs.Fields.{texts}
use Rattle.schedule.proofs.Fewer.{sample_in-other}
use Rattle.schedule.proofs.call.sample_of.Goals as goal
use Rattle.schedule.proofs.call.sample_of.Goals.{in_default-via-then-behind-lt3, in_default-via-else-behind-lt3+else-behind-lt4}

pub returns-in_default : goal.returns-in_default
returns-in_default c =
    let count = length-map c.args.behind.now (λ field. field.now) in
    sym (sample_in-other (texts c.args.behind.now) (λ three. elim c.in_default.branch [
      | in_default-via-then-behind-lt3 w ↦ grind (arith, three, count)
      | in_default-via-else-behind-lt3+else-behind-lt4 w ↦ grind (arith, three, count)
    ]))
