use Rattle.std.proofs.Common.{ℤ, w64, subst}
use Rattle.std.proofs.lemmas.Int.{to_z-of_z}
use Rattle.live_segment.specs.Answers.{AnswersBatch}
use Rattle.owned_recorder.proofs.owned.OwnedRecorder.batch.Goals as goal

pub returns-clause-answer : goal.returns-clause-answer
returns-clause-answer c =
    subst (λ (sum : ℤ). AnswersBatch c.args.histogram c.args.items.now sum c.args.self.now.state c.batch.result c.batch.new.self)
    (to_z-of_z w64 c.args.sum c.ranges.sum) c.batch.ensures.answer
