use Rattle.std.proofs.Common.{◌≡◌, ◌∙◌, sym, map}
use Rattle.segment_image.specs.Checks.{first_fault}
use Rattle.live_segment.specs.Opener.{IsNewcomer}
use Rattle.live_segment.specs.Steps.{recorder_checks}
use Rattle.live_segment.specs.Holders.{view_of_opener, view_of_recorder}
use Rattle.persist_report_core.specs.Script.{hist_view}
use Rattle.persist_commands.proofs.Meetings.{not_refused, opened_so, table_kept}
use Rattle.persist_commands.proofs.opening.make_histograms.Goals as goal

pub join-requires : goal.join-requires
join-requires c = table_kept c.in-Ok.recorder c.ask_all.new.recorder c.ask_all.ensures.kept ∙ c.in-Ok.ensures.into ∙ sym c.recorder.ensures.made.table

pub returns-clause-opened : goal.returns-clause-opened
returns-clause-opened c =
    let theirs : (c.in-Ok.recorder.segment ≡ c.args.segment) × IsNewcomer 0 c.args.opener.now c.in-Ok.recorder.state =
    not_refused (first_fault (recorder_checks (view_of_opener c.args.opener.now) 0)) c.in-Ok.recorder c.in-Ok.ensures.theirs in
    opened_so (map hist_view c.args.hists.now) 0 (view_of_opener c.args.opener.now) (view_of_opener c.recorder.new.self) (view_of_recorder c.in-Ok.recorder)
    (view_of_recorder c.ask_all.new.recorder) (view_of_opener c.join.new.self) c.in-Ok.ensures.mine.1 theirs.1.0 c.in_ok-ask_all.ensures.asked c.join.ensures.takes.1
