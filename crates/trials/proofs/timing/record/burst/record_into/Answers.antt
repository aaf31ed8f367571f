use Rattle.live_segment.proofs.Seating.Callers.{knows_same}
use Rattle.trials.proofs.timing.record.burst.record_into.Goals as goal

pub loop-i-preserved : goal.loop-i-preserved
loop-i-preserved c = knows_same c.loop-i.recorder.state c.add.new.self.state c.args.histogram c.add.ensures.same c.loop-i.invariant
