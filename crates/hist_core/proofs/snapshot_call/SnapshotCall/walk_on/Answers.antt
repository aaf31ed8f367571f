use Rattle.hist_core.proofs.Left.Snapshots.{walks_less}
use Rattle.hist_core.proofs.SnapshotCall.ValuesSeen.{some_walk, walks_further}
use Rattle.hist_core.proofs.snapshot_call.SnapshotCall.walk_on.Goals as goal

pub step-met-requires : goal.step-met-requires
step-met-requires c = let inside = some_walk c.args.self.now c.args.words.now c.args.walk c.requires.next c.requires.stands in record { within = inside.0; few = inside.1 }

pub returns-clause-steps : goal.returns-clause-steps
returns-clause-steps c = λ shape known a long order is.
    walks_further shape known c.args.self.now a c.args.words.now is c.step-met.result c.meet.new.self c.meet.ensures c.args.walk c.requires.next c.step-met.ensures

pub returns-clause-less : goal.returns-clause-less
returns-clause-less c = walks_less c.args.self.now c.args.words.now c.args.walk c.step-met.result c.meet.new.self c.requires.next c.step-met.ensures c.meet.ensures
