use Rattle.live_segment.specs.Holders.{IsMadeWith}
use Rattle.trials.proofs.timing.record.burst.prepare_all.Given as goal

abbrev pub invariant-loop-thread : goal.invariant-loop-thread
invariant-loop-thread l = IsMadeWith l.segment l.opener
