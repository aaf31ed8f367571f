use Rattle.live_segment.specs.RecorderState.{Knows}
use Rattle.trials.proofs.timing.sparse.record_each.Given as goal

abbrev pub invariant-loop-number : goal.invariant-loop-number
invariant-loop-number l = Knows l.recorder.state l.histogram
