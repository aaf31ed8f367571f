use Rattle.std.proofs.Common.{subst}
use Rattle.live_segment.specs.declared.segment.Segment.{Segment}
use Rattle.live_segment.specs.Answers.{AnswersFront}
use Rattle.owned_recorder.proofs.owned.OwnedRecorder.next_shared.Goals as goal

pub returns-clause-shared : goal.returns-clause-shared
returns-clause-shared c = subst (λ (segment : Segment). AnswersFront segment c.args.cursor c.next_shared.result c.next_shared.new.self) c.deref.ensures c.next_shared.ensures.shared
