use Rattle.live_segment.specs.declared.list.index.KeyKind.TheVariants.{Name, Sample}
use Rattle.live_segment.proofs.recorder.state.RecorderState.limit_indexes.Goals as goal

pub returns-clause-at : goal.returns-clause-at
returns-clause-at c = λ segment at. record {
  seated = at.seated;
  rests = at.rests;
  counted = at.counted;
  listed = at.listed;
  right = at.right;
  free = at.free;
  come = at.come;
  named = c.set_limit.ensures.still _ at.named;
  indexed = c.set_limit-2.ensures.still Name _ _ at.indexed;
  sampled = c.set_limit-3.ensures.still Sample _ _ at.sampled;
}
