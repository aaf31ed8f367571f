-- Each sample counts nothing, or not all do.
use Rattle.std.proofs.Common.{All, arith, refl, subst}
use Rattle.std.proofs.lemmas.List.{take_all}
use Rattle.std.proofs.lemmas.List.Elements.{All-more}
use Rattle.image_adoption.specs.Conditions.{IsEmptySample}
use Rattle.image_adoption.proofs.samples.count_nothing.Goals as goal

pub loop-sample-preserved : goal.loop-sample-preserved
loop-sample-preserved c =
    All-more (IsEmptySample c.args.words.now) c.args.samples.now c.loop-sample.sample-index 0 c.loop-sample-test.true c.loop-sample.invariant
    (c.counts_nothing.ensures.0 c.if-not-counts_nothing.false)

pub returns : goal.returns
returns c = (
  λ found. subst (All (IsEmptySample c.args.words.now)) (take_all c.loop-sample.sample-index c.args.samples.now (omega arith)) c.loop-sample.invariant,
  λ all. refl,
)
