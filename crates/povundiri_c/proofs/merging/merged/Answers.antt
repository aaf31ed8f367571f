use Rattle.std.proofs.Common.{◌∙◌}
use Rattle.povundiri_c.proofs.Merges.{merges_reading}
use Rattle.povundiri_c.proofs.merging.merged.Goals as goal

pub returns : goal.returns
returns c =
    merges_reading c.args.asked.reading.now c.args.owned c.of_parts.result c.merge-answer.result c.of_state-recorder.result c.merge-answer.new.recorder
    (c.of_parts.ensures.segment ∙ c.into_parts-segment.ensures.segment) (c.of_state-recorder.ensures.state ∙ c.into_parts-segment.ensures.state)
    (c.of_parts.ensures.state ∙ c.into_state-state.ensures.state) c.merge-answer.ensures.same c.merge-answer.ensures.answer
