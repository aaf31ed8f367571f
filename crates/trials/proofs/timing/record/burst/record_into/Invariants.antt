use Rattle.live_segment.specs.RecorderState.{Knows}
use Rattle.trials.proofs.timing.record.burst.record_into.Given as goal

abbrev pub invariant-loop-i : goal.invariant-loop-i
invariant-loop-i l = Knows l.recorder.state l.histogram
