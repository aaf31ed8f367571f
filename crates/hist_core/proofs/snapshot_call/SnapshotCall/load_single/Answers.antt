use Rattle.std.proofs.Common.{arith}
use Rattle.hist_core.proofs.Left.Snapshots.{loads_less}
use Rattle.hist_core.proofs.SnapshotCall.Snapshots.{loads_single, some_few}
use Rattle.hist_core.proofs.snapshot_call.SnapshotCall.load_single.Goals as goal

pub behind_single-requires : goal.behind_single-requires
behind_single-requires c = let few = some_few c.args.self.now c.args.words.now c.requires.next c.requires.stands in omega (arith, few)

pub returns-clause-steps : goal.returns-clause-steps
returns-clause-steps c = λ shape known a long order is.
    loads_single shape known c.args.self.now a c.args.words.now is c.requires.next _ c.behind_single.ensures

pub returns-clause-less : goal.returns-clause-less
returns-clause-less c = loads_less c.args.self.now c.args.words.now c.requires.next c.behind_single.new.self c.behind_single.ensures
