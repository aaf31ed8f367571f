use Rattle.std.proofs.Common.{refl, arith}
use Rattle.reading_sums.proofs.Neighbours.{above-step, above-all, above-here}
use Rattle.reading_sums.proofs.check.ascend_above_zero.Goals as goal

pub loop-i-preserved : goal.loop-i-preserved
loop-i-preserved c =
    above-step c.args.values.now c.loop-i.i c.loop-i.last c.loop-i.invariant.1 (omega (arith, c.if-values-i.false)) c.loop-i.invariant.0

pub returns-then-values-i : goal.returns-then-values-i
returns-then-values-i c = (
  λ e. absurd (cc),
  λ up.
      let below = above-here c.args.values.now c.loop-i.i (omega (arith, c.loop-i-test.true)) up in
      absurd (omega (arith, below, c.loop-i.invariant.1, c.if-values-i.true)),
)

pub returns : goal.returns
returns c = (λ e. above-all c.args.values.now c.loop-i.i (omega (arith, c.loop-i-test.false)) c.loop-i.invariant.0, λ up. refl)
