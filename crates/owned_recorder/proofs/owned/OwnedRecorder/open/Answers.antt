use Rattle.std.proofs.Common.{subst}
use Rattle.live_segment.specs.declared.segment.Segment.{Segment}
use Rattle.live_segment.specs.Answers.{OpensFirst}
use Rattle.owned_recorder.proofs.owned.OwnedRecorder.open.Goals as goal

pub returns-clause-first : goal.returns-clause-first
returns-clause-first c = subst (λ (segment : Segment). OpensFirst segment c.open.result c.open.new.self) c.deref.ensures c.open.ensures.first
