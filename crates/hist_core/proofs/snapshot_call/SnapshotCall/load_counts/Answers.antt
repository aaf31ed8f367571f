use Rattle.std.proofs.Common.{refl}
use Rattle.hist_core.proofs.Left.Snapshots.{finds_less}
use Rattle.hist_core.proofs.SnapshotCall.Snapshots.{loads_counts}
use Rattle.hist_core.proofs.snapshot_call.SnapshotCall.load_counts.Goals as goal

pub returns-clause-steps : goal.returns-clause-steps
returns-clause-steps c = λ shape known a long order is.
    loads_counts shape known c.args.self.now a c.args.words.now is c.args.packed c.args.kept c.requires.next _ refl

pub returns-clause-less : goal.returns-clause-less
returns-clause-less c = finds_less c.args.self.now c.args.words.now c.args.packed c.args.kept (record { counts = 0; packed = c.args.packed; kept = c.args.kept }) c.requires.next
