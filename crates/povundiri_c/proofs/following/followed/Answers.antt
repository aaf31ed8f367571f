use Rattle.std.proofs.Common.{◌∙◌}
use Rattle.povundiri_c.proofs.Follows.{follows_reading}
use Rattle.povundiri_c.proofs.following.followed.Goals as goal

pub returns : goal.returns
returns c =
    follows_reading c.args.asked.reading c.args.asked.most c.args.asked.follower c.merge-answer.new.self c.args.owned c.of_parts.result c.merge-answer.result
    c.of_state-recorder.result c.merge-answer.new.recorder (c.of_parts.ensures.segment ∙ c.into_parts-segment.ensures.segment)
    (c.of_state-recorder.ensures.state ∙ c.into_parts-segment.ensures.state) (c.of_parts.ensures.state ∙ c.into_state-state.ensures.state)
    c.merge-answer.ensures.same c.merge-answer.ensures.order c.merge-answer.ensures.answer
