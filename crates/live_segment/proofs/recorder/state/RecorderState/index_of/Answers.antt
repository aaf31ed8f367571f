use Rattle.std.proofs.Common.{List, subst, sym}
use Rattle.std.specs.Prelude.{MatchOption}
use Rattle.live_segment.specs.declared.recorder.KnownHistogram.{KnownHistogram}
use Rattle.live_segment.specs.Hist.Answer.{IsKnownAt, NoneHasName}
use Rattle.live_segment.specs.Hist.KnownNames.{HasNames}
use Rattle.live_segment.proofs.recorder.state.RecorderState.index_of.Goals as goal

pub find-requires : goal.find-requires
find-requires c = subst (λ (l : List KnownHistogram). HasNames l c.args.self.now.names) (sym c.as_slice-known.ensures.value) c.requires.1.named

pub returns : goal.returns
returns c =
    subst (λ (l : List KnownHistogram). MatchOption c.find.result (NoneHasName l c.args.name.now) (IsKnownAt l c.args.name.now)) c.as_slice-known.ensures.value c.find.ensures
