use Rattle.std.proofs.Common.{subst}
use Rattle.live_segment.specs.declared.segment.Segment.{Segment}
use Rattle.live_segment.specs.Answers.{ShowsFewKeys, ShowsNoMore}
use Rattle.owned_recorder.proofs.owned.OwnedRecorder.snapshot.Goals as goal

pub returns-clause-few : goal.returns-clause-few
returns-clause-few c = subst (λ (segment : Segment). ShowsFewKeys segment c.args.histogram c.args.self.now.state c.snapshot.result) c.deref.ensures c.snapshot.ensures.few

pub returns-clause-most : goal.returns-clause-most
returns-clause-most c = subst (λ (segment : Segment). ShowsNoMore segment c.args.histogram c.args.self.now.state c.snapshot.result c.snapshot.new.self) c.deref.ensures c.snapshot.ensures.most
