use Rattle.std.proofs.Common.{sym, arith}
use Rattle.std.proofs.lemmas.List.{length-map}
use Rattle.schedule.specs.Fields.{texts}
use Rattle.schedule.proofs.Fewer.{image_in-other}
use Rattle.schedule.proofs.order.image_of.Goals as goal
use Rattle.schedule.proofs.order.image_of.Goals.{in_default-via-then-fields-lt3, in_default-via-else-fields-lt3+else-fields-lt4}

pub returns-in_default : goal.returns-in_default
returns-in_default c =
    let count = length-map c.args.fields.now (λ field. field.now) in
    sym (image_in-other (texts c.args.fields.now) (λ three. elim c.in_default.branch [
      | in_default-via-then-fields-lt3 w ↦ grind (arith, three, count)
      | in_default-via-else-fields-lt3+else-fields-lt4 w ↦ grind (arith, three, count)
    ]))
