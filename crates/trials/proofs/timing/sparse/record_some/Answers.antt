use Rattle.live_segment.proofs.Seating.Callers.{knows_same}
use Rattle.trials.proofs.timing.sparse.record_some.Goals as goal

pub loop-preserved : goal.loop-preserved
loop-preserved c = knows_same c.loop.recorder.state c.add.new.self.state c.args.histogram c.add.ensures.same c.loop.invariant
