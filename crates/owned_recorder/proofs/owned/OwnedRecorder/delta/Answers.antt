use Rattle.std.proofs.Common.{subst}
use Rattle.live_segment.specs.declared.segment.Segment.{Segment}
use Rattle.live_segment.specs.Answers.{TakesEnough, TakesFewKeys}
use Rattle.owned_recorder.proofs.owned.OwnedRecorder.delta.Goals as goal

pub returns-clause-few : goal.returns-clause-few
returns-clause-few c = subst (λ (segment : Segment). TakesFewKeys segment c.args.histogram c.args.self.now.state c.delta.result) c.deref.ensures c.delta.ensures.few

pub returns-clause-owed : goal.returns-clause-owed
returns-clause-owed c = subst (λ (segment : Segment). TakesEnough segment c.args.histogram c.args.self.now.state c.delta.result c.delta.new.self) c.deref.ensures c.delta.ensures.owed
