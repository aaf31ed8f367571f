use Rattle.std.proofs.Common.{pos, rules}
use Rattle.hist_core.proofs.Left.Snapshots.{sums_less}
use Rattle.hist_core.proofs.SnapshotCall.Snapshots.{loads_sum}
use Rattle.hist_core.proofs.snapshot_call.SnapshotCall.load_sum.Goals as goal

pub returns-clause-steps : goal.returns-clause-steps
returns-clause-steps c = λ shape known a long order is.
    loads_sum shape known c.args.self.now a c.args.words.now is c.requires.next _ (search rules)

pub returns-clause-less : goal.returns-clause-less
returns-clause-less c = sums_less c.args.self.now c.args.words.now (pos 0) c.requires.next
