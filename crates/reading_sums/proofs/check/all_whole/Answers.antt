use Rattle.std.proofs.Common.{◌<◌, length, refl, subst, arith}
use Rattle.std.specs.List.{All}
use Rattle.std.proofs.lemmas.List.{take_all}
use Rattle.std.proofs.lemmas.List.Elements.{All-more}
use Rattle.reading_sums.specs.Whole.{IsInRange, IsWholeHist}
use Rattle.reading_sums.proofs.check.all_whole.Goals as goal

pub loop-i-preserved : goal.loop-i-preserved
loop-i-preserved c =
    let within : c.loop-i.i < length c.args.hists.now = omega (arith, c.loop-i-test.true) in (
      All-more IsWholeHist c.args.hists.now c.loop-i.i c.index-hists-i.result within c.loop-i.invariant.0
          (subst IsWholeHist c.index-hists-i.is (c.in_ok-is_whole.ensures.whole.0 c.if-not-branch.false)),
      All-more IsInRange c.args.hists.now c.loop-i.i c.index-hists-i.result within c.loop-i.invariant.1
          (subst IsInRange c.index-hists-i.is (c.in_ok-is_whole.ensures.range c.if-not-branch.false)),
    )

pub returns-clause-whole : goal.returns-clause-whole
returns-clause-whole c = (
  λ e. subst (All IsWholeHist) (take_all c.loop-i.i c.args.hists.now (omega (arith, c.loop-i-test.false))) c.loop-i.invariant.0,
  λ all. refl,
)

pub returns-clause-range : goal.returns-clause-range
returns-clause-range c = λ e.
    subst (All IsInRange) (take_all c.loop-i.i c.args.hists.now (omega (arith, c.loop-i-test.false))) c.loop-i.invariant.1
