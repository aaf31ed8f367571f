-- Those that have the name of the first, up to one that has another, are the first group.
use Rattle.std.proofs.Common.{length, arith}
use Rattle.reading_sums.proofs.Groups.{run-group, other-name}
use Rattle.reading_sums.proofs.shown.run_length.Goals as goal

pub returns-then-ne-clause-group : goal.returns-then-ne-clause-group
returns-then-ne-clause-group c =
    run-group c.args.hists.now c.loop-i.i (omega (arith, c.loop-i.auto.i)) (omega (arith, c.loop-i-test.true)) c.loop-i.invariant
    (λ d more. other-name c.args.hists.now c.loop-i.i c.index-hists-i.result c.index-hists-0.result d more c.if-ne.ensures)

pub returns-clause-group : goal.returns-clause-group
returns-clause-group c =
    run-group c.args.hists.now (length c.args.hists.now) c.requires (omega arith) (λ k d below. c.loop-i.invariant k d (omega (arith, below, c.loop-i-test.false)))
    (λ d more same. absurd (omega (arith, more)))
