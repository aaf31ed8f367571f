use Rattle.std.proofs.Common.{subst}
use Rattle.live_segment.specs.declared.segment.Segment.{Segment}
use Rattle.live_segment.specs.Answers.{AnswersList}
use Rattle.owned_recorder.proofs.owned.OwnedRecorder.records.Goals as goal

pub returns-clause-all : goal.returns-clause-all
returns-clause-all c = subst (λ (segment : Segment). AnswersList segment c.records.result c.records.new.self) c.deref.ensures c.records.ensures.all
