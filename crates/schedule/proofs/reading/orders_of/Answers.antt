use Rattle.std.proofs.Common.{◌≡◌, ◌∙◌, [], ap, get_or, map, rules, arith}
use Rattle.std.proofs.lemmas.List.{get_or-map, length-map}
use Rattle.csv.specs.Records.{fields_of}
use Rattle.persist_report_core.proofs.Records.{passed_on}
use Rattle.schedule.specs.Order.{order_in}
use Rattle.schedule.specs.Schedule.{IsLaterFault}
use Rattle.schedule.proofs.Orders.{AreOrders-more, fault_told}
use Rattle.schedule.proofs.reading.orders_of.Goals as goal

pub returns-in_err-order_of : goal.returns-in_err-order_of
returns-in_err-order_of c =
    let later = map fields_of c.args.later.now in
    let here : get_or c.args.later.now c.loop-i.i c.index-later-i.result ≡ c.index-later-i.result = search rules in
    let there : get_or later c.loop-i.i [] ≡ fields_of c.index-later-i.result =
    get_or-map fields_of c.args.later.now c.loop-i.i c.index-later-i.result [] c.loop-i-test.true ∙ ap fields_of here in
    passed_on c.from_residual-in_err-order_of.result _ (IsLaterFault later) c.in_err-order_of.field-0.0 c.from_residual-in_err-order_of.ensures.1
    (λ first opening opened. fault_told first later opening c.loop-i.orders.items c.loop-i.i c.in_err-order_of.field-0.0
    (omega (arith, length-map c.args.later.now fields_of, c.loop-i-test.true)) opened c.loop-i.invariant.orders (rw there c.in_err-order_of.ensures))

pub loop-i-preserved : goal.loop-i-preserved
loop-i-preserved c =
    let later = map fields_of c.args.later.now in
    let here : get_or c.args.later.now c.loop-i.i c.index-later-i.result ≡ c.index-later-i.result = search rules in
    let there : get_or later c.loop-i.i [] ≡ fields_of c.index-later-i.result =
    get_or-map fields_of c.args.later.now c.loop-i.i c.index-later-i.result [] c.loop-i-test.true ∙ ap fields_of here in record {
      orders = rw c.push_reserved.ensures.items
          (AreOrders-more later c.loop-i.orders.items c.in_ok-order_of.field-0 c.loop-i.i (omega (arith, length-map c.args.later.now fields_of, c.loop-i-test.true))
          c.loop-i.invariant.orders (ap order_in there ∙ c.in_ok-order_of.ensures));
      count = omega arith;
      room = omega (arith, c.loop-i.invariant.room, c.push_reserved.ensures.capacity);
    }
