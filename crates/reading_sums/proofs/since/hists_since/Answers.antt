-- What is taken in a step is put after what was taken before.
use Rattle.std.proofs.Common.{◌≤◌, map, length, ap, subst, ◌∙◌, arith}
use Rattle.std.specs.List.{All}
use Rattle.std.proofs.lemmas.List.{take_all}
use Rattle.std.proofs.lemmas.Result.{err_from_is_err_and}
use Rattle.reading_sums.specs.Orders.{hist_cmp}
use Rattle.reading_sums.specs.Since.{frame_of, IsNoReason}
use Rattle.reading_sums.specs.Views.{part_of}
use Rattle.reading_sums.specs.Whole.{IsInRange, IsWholeHist}
use Rattle.reading_sums.proofs.HistsGrown.{hists-walk, settled-walk, refused-walk, grown, whole-kept}
use Rattle.reading_sums.proofs.Walk.{all-walk, walk-on}
use Rattle.reading_sums.proofs.since.hists_since.Goals as goal

pub loop-i-preserved : goal.loop-i-preserved
loop-i-preserved c = record {
  later = omega (arith, c.in_ok-hist.ensures.later, c.split_at.ensures.back_len);
  earlier = omega (arith, c.in_ok-hist.ensures.earlier, c.split_at-in-loop-i.ensures.back_len);
  since = hists-walk _ _ _ _ _ _ _ _ _ _ _ c.split_at.ensures.back c.split_at-in-loop-i.ensures.back c.in_ok-put_hist.ensures c.in_ok-hist.ensures.since c.loop-i.invariant.since;
  ordered = walk-on hist_cmp _ _ _ _ _ _ _ _ c.split_at.ensures.back c.split_at-in-loop-i.ensures.back c.in_ok-hist.ensures.ordered c.loop-i.invariant.ordered;
  whole = all-walk IsWholeHist _ _ _ _ _ _ c.split_at.ensures.back c.in_ok-put_hist.ensures c.in_ok-hist.ensures.whole c.loop-i.invariant.whole;
  range = all-walk IsInRange _ _ _ _ _ _ c.split_at.ensures.back c.in_ok-put_hist.ensures c.in_ok-hist.ensures.range c.loop-i.invariant.range;
  settled = settled-walk _ _ _ _ _ _ _ _ c.split_at.ensures.front c.split_at.ensures.back c.split_at-in-loop-i.ensures.back c.in_ok-hist.ensures.settled
      c.loop-i.invariant.ordered c.loop-i.invariant.settled;
}

pub returns-in_err-hist-clause-refused : goal.returns-in_err-hist-clause-refused
returns-in_err-hist-clause-refused c =
    let p = err_from_is_err_and c.from_residual-in_err-hist.result c.from_residual-in_err-hist.ensures.1 in
    rw (p.1, p.2) (refused-walk _ _ _ _ _ _ _ _ c.split_at.ensures.front c.split_at.ensures.back c.split_at-in-loop-i.ensures.back c.in_err-hist.ensures.refused
    c.loop-i.invariant.ordered)

pub returns-clause-whole : goal.returns-clause-whole
returns-clause-whole c = λ are.
    let all : length c.args.later.now ≤ c.loop-i.i = omega (arith, c.if-i-later.false) in
    whole-kept c.args.later.now c.loop-i.hists.items
    (c.loop-i.invariant.since.kept ∙ ap (λ z. map frame_of (map part_of z)) (take_all c.loop-i.i c.args.later.now all)) (c.loop-i.invariant.whole are.whole)
    (c.loop-i.invariant.range are.range) are

pub returns-clause-grown : goal.returns-clause-grown
returns-clause-grown c = λ one other.
    let all : length c.args.earlier.now ≤ c.loop-i.j = omega (arith, c.if-j-earlier.false) in
    grown c.args.later.now c.args.earlier.now one.ascending
    (subst (All (IsNoReason c.args.later.now)) (take_all c.loop-i.j c.args.earlier.now all) (c.loop-i.invariant.settled one.ascending other.ascending))
