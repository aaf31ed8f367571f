use Rattle.live_segment.proofs.Seating.Callers.{knows_same}
use Rattle.trials.proofs.timing.sparse.record_each.Goals as goal

pub loop-number-preserved : goal.loop-number-preserved
loop-number-preserved c = knows_same c.loop-number.recorder.state c.add.new.self.state c.args.histogram c.add.ensures.same c.loop-number.invariant
