use Rattle.std.proofs.Common.{arith}
use Rattle.bucket_ranges.proofs.ScaleTurns.{counts-first, counts-next, counts-over, counts-done}
use Rattle.bucket_ranges.proofs.scale.is_too_long.Goals as goal

pub loop-value-init : goal.loop-value-init
loop-value-init c = counts-first c.args.bits c.args.min c.args.last c.next_value-value.result c.next_value-value.ensures

-- With the last value there is one more.
pub returns-then-count-eq-MAX_CUSTOM_VALUES : goal.returns-then-count-eq-MAX_CUSTOM_VALUES
returns-then-count-eq-MAX_CUSTOM_VALUES c =
    counts-over c.args.bits c.args.min c.args.last c.loop-value.value c.loop-value.count c.loop-value.invariant
    c.loop-value-test.true c.if-count-eq-MAX_CUSTOM_VALUES.true

pub loop-value-preserved : goal.loop-value-preserved
loop-value-preserved c =
    counts-next c.args.bits c.args.min c.args.last c.loop-value.value c.next_value-value-in-loop-value.result c.loop-value.count
    c.loop-value.invariant c.loop-value-test.true
    (omega (arith, c.loop-value.invariant.few, c.if-count-eq-MAX_CUSTOM_VALUES.false)) c.next_value-value-in-loop-value.ensures

pub returns : goal.returns
returns c =
    counts-done c.args.bits c.args.min c.args.last c.loop-value.value c.loop-value.count c.loop-value.invariant
    c.loop-value-test.false
