use Rattle.std.proofs.Common.{refl, ap, sym, ◌∙◌, arith}
use Rattle.std.specs.Ordering.{is_lt}
use Rattle.reading_sums.specs.Orders.{hist_cmp}
use Rattle.reading_sums.proofs.HistOrder.{hist-total}
use Rattle.reading_sums.proofs.Neighbours.{rise-step, rise-here, rise-all, refuted}
use Rattle.reading_sums.proofs.check.hists_ascend.Goals as goal

pub loop-i-preserved : goal.loop-i-preserved
loop-i-preserved c =
    rise-step hist_cmp c.args.hists.now c.loop-i.i _ _ (omega (arith, c.loop-i.auto.i)) (omega (arith, c.loop-i-test.true))
    c.index-hists-i.is c.index-hists-i-in-loop-i.is
    (sym (ap is_lt c.by_name_and_spec.ensures.order) ∙ (sym c.is_lt.ensures ∙ c.if-not-is_lt.false)) c.loop-i.invariant

pub returns-then-not-is_lt : goal.returns-then-not-is_lt
returns-then-not-is_lt c = (
  λ e. absurd (cc),
  λ up.
      refuted _ _ _ c.by_name_and_spec.ensures.order c.is_lt.ensures c.if-not-is_lt.true
      (rise-here hist_cmp c.args.hists.now c.loop-i.i _ _ (omega (arith, c.loop-i.auto.i)) (omega (arith, c.loop-i-test.true))
      c.index-hists-i.is c.index-hists-i-in-loop-i.is up),
)

pub returns : goal.returns
returns c = (λ e. rise-all hist-total c.args.hists.now c.loop-i.i (omega (arith, c.loop-i-test.false)) c.loop-i.invariant, λ up. refl)
