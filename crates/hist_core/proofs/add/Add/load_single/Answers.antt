use Rattle.std.proofs.Common.{subst, arith}
use Rattle.hist_core.specs.Add.{StandsAtStage}
use Rattle.hist_core.proofs.Left.Adds.{loads_less}
use Rattle.hist_core.proofs.AddCall.Packs.{small_bucket, loads_single_so}
use Rattle.hist_core.proofs.add.Add.load_single.Goals as goal

pub behind_single-self-requires : goal.behind_single-self-requires
behind_single-self-requires c =
    let small = small_bucket c.args.self.now _ (λ shape known amid a is. (subst (StandsAtStage shape known amid c.args.self.now a) c.requires.next is.stands).0) c.requires.stands in
    omega (arith, small)

pub returns-clause-steps : goal.returns-clause-steps
returns-clause-steps c = λ shape known amid a long is.
    loads_single_so shape known amid c.args.self.now a c.args.words.now is c.requires.next _ c.behind_single-self.ensures

pub returns-clause-less : goal.returns-clause-less
returns-clause-less c = loads_less c.args.self.now c.args.words.now c.behind_single-self.result c.requires.next c.behind_single-self.ensures
