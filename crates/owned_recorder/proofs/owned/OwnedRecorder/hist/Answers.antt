use Rattle.std.proofs.Common.{subst}
use Rattle.live_segment.specs.declared.segment.Segment.{Segment}
use Rattle.live_segment.specs.Answers.{AnswersFirst}
use Rattle.owned_recorder.proofs.owned.OwnedRecorder.hist.Goals as goal

pub returns-clause-first : goal.returns-clause-first
returns-clause-first c = subst (λ (segment : Segment). AnswersFirst segment c.hist.result c.hist.new.self) c.deref.ensures c.hist.ensures.first
