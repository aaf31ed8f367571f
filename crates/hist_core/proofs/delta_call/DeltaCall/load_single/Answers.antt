use Rattle.std.proofs.Common.{arith, length}
use Rattle.hist_core.proofs.Left.Deltas.{loads_less}
use Rattle.hist_core.proofs.DeltaCall.Going.{some_ranges}
use Rattle.hist_core.proofs.DeltaCall.Singles.{loads_single}
use Rattle.hist_core.proofs.delta_call.DeltaCall.load_single.Goals as goal

pub behind_single-self-requires : goal.behind_single-self-requires
behind_single-self-requires c = let inside = some_ranges c.args.self.now (length c.args.words.now) c.requires.stands in omega (arith, inside)

pub returns-clause-steps : goal.returns-clause-steps
returns-clause-steps c = λ shape known earlier a long order is.
    loads_single shape known earlier c.args.self.now a c.args.words.now is c.requires.next _ c.behind_single-self.ensures

pub returns-clause-less : goal.returns-clause-less
returns-clause-less c = loads_less c.args.self.now c.args.words.now c.behind_single-self.result c.requires.next c.behind_single-self.ensures
