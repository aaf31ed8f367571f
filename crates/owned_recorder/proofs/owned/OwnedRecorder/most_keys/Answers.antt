use Rattle.std.proofs.Common.{subst}
use Rattle.live_segment.specs.declared.segment.Segment.{Segment}
use Rattle.live_segment.specs.List.Values.{AreMostKeys}
use Rattle.owned_recorder.proofs.owned.OwnedRecorder.most_keys.Goals as goal

pub returns : goal.returns
returns c = λ known means. subst (λ (segment : Segment). AreMostKeys segment known c.most_keys.result) c.deref.ensures (c.most_keys.ensures known means)
