-- What comes next is put after what was taken before.
use Rattle.std.proofs.lemmas.Result.{err_from_is_err_and}
use Rattle.reading_sums.specs.Orders.{hist_cmp}
use Rattle.reading_sums.specs.Whole.{IsInRange, IsWholeHist}
use Rattle.reading_sums.proofs.Ascending.{order-step, order-front}
use Rattle.reading_sums.proofs.HistOrder.{all-step}
use Rattle.reading_sums.proofs.HistsGrown.{of-rest}
use Rattle.reading_sums.proofs.LongHists.{lists-long}
use Rattle.reading_sums.proofs.Nexts.{parts-step}
use Rattle.reading_sums.proofs.hist.sums_of_both.Goals as goal

pub loop-left_rest-preserved : goal.loop-left_rest-preserved
loop-left_rest-preserved c = (
  parts-step _ _ _ _ _ _ _ _ _ _ c.in_ok-push.ensures.items c.split_at.ensures.back c.split_at-in-loop-left_rest.ensures.back c.loop-left_rest.invariant.0 c.in_ok-hist.ensures.same,
  λ first second. order-step hist_cmp _ _ _ _ _ _ _ _ _ c.in_ok-push.ensures.items c.split_at.ensures.back c.split_at-in-loop-left_rest.ensures.back
      c.in_ok-hist.ensures.ordered (c.loop-left_rest.invariant.1 first second),
  λ first second. all-step IsWholeHist _ _ _ _ _ _ _ _ _ c.in_ok-push.ensures.items c.split_at.ensures.back c.split_at-in-loop-left_rest.ensures.back
      c.in_ok-hist.ensures.whole (c.loop-left_rest.invariant.2 first second),
  λ first second. all-step IsInRange _ _ _ _ _ _ _ _ _ c.in_ok-push.ensures.items c.split_at.ensures.back c.split_at-in-loop-left_rest.ensures.back
      c.in_ok-hist.ensures.range (c.loop-left_rest.invariant.3 first second),
  λ x has. c.loop-left_rest.invariant.4 x (of-rest _ _ _ x c.split_at.ensures.back has),
  λ x has. c.loop-left_rest.invariant.5 x (of-rest _ _ _ x c.split_at-in-loop-left_rest.ensures.back has),
)

pub returns-clause-whole : goal.returns-clause-whole
returns-clause-whole c = λ first second. record {
  ascending = order-front hist_cmp c.loop-left_rest.hists.items c.loop-left_rest.left_rest.now
      (c.loop-left_rest.invariant.1 first.ascending second.ascending).0;
  whole = (c.loop-left_rest.invariant.2 first.whole second.whole).0;
  range = (c.loop-left_rest.invariant.3 first.range second.range).0;
}

pub returns-in_err-hist-clause-too_many : goal.returns-in_err-hist-clause-too_many
returns-in_err-hist-clause-too_many c =
    let p = err_from_is_err_and c.from_residual-in_err-hist.result c.from_residual-in_err-hist.ensures.1 in
    rw (p.1, p.2) (lists-long _ c.args.left.now c.args.right.now c.loop-left_rest.left_rest.now c.loop-left_rest.right_rest.now
    c.loop-left_rest.invariant.4 c.loop-left_rest.invariant.5 c.in_err-hist.ensures.too_many)
