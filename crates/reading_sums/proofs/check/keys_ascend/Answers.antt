use Rattle.std.proofs.Common.{◌-◌, refl, arith}
use Rattle.std.proofs.lemmas.Map.Keys.{Less-from_sorted}
use Rattle.reading_sums.specs.Orders.{key_cmp}
use Rattle.reading_sums.proofs.KeyOrder.{key-total}
use Rattle.reading_sums.proofs.Neighbours.{rise-all, refuted}
use Rattle.reading_sums.proofs.check.keys_ascend.Goals as goal

pub returns-then-not-is_lt : goal.returns-then-not-is_lt
returns-then-not-is_lt c = (
  λ e. absurd (cc),
  λ up.
      refuted _ _ _ c.cmp.ensures c.is_lt.ensures c.if-not-is_lt.true
      (Less-from_sorted key_cmp c.args.keys.now (c.loop-i.i - 1) c.loop-i.i _ up (omega (arith, c.loop-i.auto.i)) (omega (arith, c.loop-i-test.true))),
)

pub returns : goal.returns
returns c = (λ e. rise-all key-total c.args.keys.now c.loop-i.i (omega (arith, c.loop-i-test.false)) c.loop-i.invariant, λ up. refl)
