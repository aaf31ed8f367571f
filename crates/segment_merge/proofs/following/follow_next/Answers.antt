use Rattle.std.proofs.Common.{rules, ◌≡◌, ◌∙◌, true, refl, sym}
use Rattle.image_reader.specs.Views.{histogram_view}
use Rattle.live_segment.specs.Holders.{view_of_recorder}
use Rattle.segment_merge.specs.declared.following.FollowReport.{FollowReport}
use Rattle.segment_merge.proofs.FollowSteps.{follows_cut, going_on}
use Rattle.segment_merge.proofs.following.follow_next.Goals as goal

pub returns-in-Some-clause-answer : goal.returns-in-Some-clause-answer
returns-in-Some-clause-answer c =
    let before : FollowReport = c.args.report.now in
    let mid : FollowReport = record before { added = c.merge_next.new.added } in
    let yes : c.has_new.result ≡ true = search rules in
    follows_cut (histogram_view c.args.step.hist) before (view_of_recorder c.args.recorder.now) (view_of_recorder c.merge_next.new.recorder)
    (going_on before.stopped (sym c.is_some.ensures ∙ c.if-is_some.false)) (sym c.has_new.ensures ∙ yes)
    mid c.cut_short.new.report c.in-Some.stop (histogram_view c.cut_short.result) c.in-Some.ensures.answer refl refl
    c.cut_short.ensures.added c.cut_short.ensures.reported c.cut_short.ensures.noted
