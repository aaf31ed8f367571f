use Rattle.bucket_ranges.proofs.ScaleTurns.{lists-first, lists-next, lists-last, lists-steps}
use Rattle.bucket_ranges.proofs.scale.scale_list.Goals as goal

pub loop-value-init : goal.loop-value-init
loop-value-init c =
    lists-first c.args.bits c.args.min c.args.last c.next_value-value.result c.new-values.result.items c.new-values.ensures.items
    c.next_value-value.ensures

pub loop-value-preserved : goal.loop-value-preserved
loop-value-preserved c =
    lists-next c.args.bits c.args.min c.args.last c.loop-value.value c.next_value-value-in-loop-value.result
    c.loop-value.values.items c.push.new.self.items c.requires.ends.0 c.requires.ends.2 c.loop-value.invariant
    c.loop-value-test.true c.in_ok-push.ensures.items c.next_value-value-in-loop-value.ensures

pub returns-clause-values : goal.returns-clause-values
returns-clause-values c =
    lists-last c.args.bits c.args.min c.args.last c.loop-value.value c.loop-value.values.items c.push-2.new.self.items
    c.loop-value.invariant c.loop-value-test.false c.in_ok-push-2.ensures.items

pub returns-clause-steps : goal.returns-clause-steps
returns-clause-steps c =
    lists-steps c.args.bits c.args.min c.args.last c.loop-value.value c.loop-value.values.items c.push-2.new.self.items
    c.loop-value.invariant c.loop-value-test.false c.in_ok-push-2.ensures.items
