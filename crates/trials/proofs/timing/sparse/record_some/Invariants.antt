use Rattle.live_segment.specs.RecorderState.{Knows}
use Rattle.trials.proofs.timing.sparse.record_some.Given as goal

abbrev pub invariant-loop : goal.invariant-loop
invariant-loop l = Knows l.recorder.state l.histogram
