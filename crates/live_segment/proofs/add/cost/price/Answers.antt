use Rattle.std.proofs.Common.{◌≡◌, ◌≤◌, ◌<◌, min, ℤ, refl, sym, subst, ◌∙◌, w64, arith}
use Rattle.std.proofs.lemmas.Bool.{le-ltb, lt-ltb}
use Rattle.std.proofs.lemmas.Int.{to_z-of_z}
use Rattle.segment_machine.specs.Entry.{batch_cost}
use Rattle.live_segment.proofs.add.cost.price.Goals as goal

pub returns-then-cost-from : goal.returns-then-cost-from
returns-then-cost-from c a same =
    let none = sym c.has_empty_item.ensures ∙ c.if-has_empty_item.false in
    let cost = subst (λ (z : ℤ). c.cost_of-cost.result ≡ min (batch_cost c.args.items.now z) 18446744073709551615) (to_z-of_z w64 c.args.sum c.ranges.sum) c.cost_of-cost.ensures in
    let more : a.units.share < batch_cost c.args.items.now c.args.sum = omega (arith, cost) in
    rw (none, lt-ltb a.units.share (batch_cost c.args.items.now c.args.sum) more) refl

pub returns : goal.returns
returns c a same =
    let none = sym c.has_empty_item.ensures ∙ c.if-has_empty_item.false in
    let cost = subst (λ (z : ℤ). c.cost_of-cost.result ≡ min (batch_cost c.args.items.now z) 18446744073709551615) (to_z-of_z w64 c.args.sum c.ranges.sum) c.cost_of-cost.ensures in
    let enough : batch_cost c.args.items.now c.args.sum ≤ a.units.share = omega (arith, cost) in
    (omega (arith, cost, enough), rw (none, le-ltb a.units.share (batch_cost c.args.items.now c.args.sum) enough) refl)
