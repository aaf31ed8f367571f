use Rattle.std.proofs.Common.{ap, length, sym, arith}
use Rattle.std.proofs.lemmas.List.{length-map}
use Rattle.csv.specs.Records.{fields_of}
use Rattle.schedule.proofs.Fewer.{order_in-few}
use Rattle.schedule.proofs.order.read_order.Goals as goal

pub returns-in_default : goal.returns-in_default
returns-in_default c =
    let same = ap length c.in_ok-fields.ensures in
    sym (order_in-few (fields_of c.args.csv_record.now) (omega (arith, same, length-map c.in_ok-fields.fields.items (λ field. field.now), c.in_default.len_below, c.as_slice.ensures.len)))
