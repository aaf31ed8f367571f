use Rattle.std.proofs.Common.{arith, subst}
use Rattle.hist_core.proofs.Left.Adds.{finds_less}
use Rattle.hist_core.proofs.AddCall.Loads.{loads_so}
use Rattle.hist_core.proofs.add.Add.load_counts.Goals as goal
use Rattle.hist_core.specs.Add.{StandsAtStage}
use Rattle.hist_core.proofs.AddCall.Packs.{small_bucket}

pub count_in-requires : goal.count_in-requires
count_in-requires c =
    let small = small_bucket c.args.self.now _ (λ shape known amid a is. (subst (StandsAtStage shape known amid c.args.self.now a) c.requires.next is.stands).0) c.requires.stands in
    omega (arith, small)

pub returns-clause-steps : goal.returns-clause-steps
returns-clause-steps c = λ shape known amid a long is.
    loads_so shape known amid c.args.self.now a c.args.words.now is c.requires.next _ c.count_in.ensures

pub returns-clause-less : goal.returns-clause-less
returns-clause-less c = finds_less c.args.self.now c.args.words.now c.count_in.result c.requires.next
