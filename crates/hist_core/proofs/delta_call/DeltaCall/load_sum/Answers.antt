use Rattle.std.proofs.Common.{pos, rules}
use Rattle.hist_core.proofs.Left.Deltas.{sums_less}
use Rattle.hist_core.proofs.DeltaCall.Sums.{loads_sum}
use Rattle.hist_core.proofs.delta_call.DeltaCall.load_sum.Goals as goal

pub returns-clause-steps : goal.returns-clause-steps
returns-clause-steps c = λ shape known earlier a long order is.
    loads_sum shape known earlier c.args.self.now a c.args.words.now is c.requires.next _ (search rules)

pub returns-clause-less : goal.returns-clause-less
returns-clause-less c = sums_less c.args.self.now c.args.words.now (pos 0) c.requires.next
