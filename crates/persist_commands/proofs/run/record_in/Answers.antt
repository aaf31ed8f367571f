use Rattle.std.proofs.Common.{List, subst, map}
use Rattle.live_segment.specs.Holders.{view_of_opener}
use Rattle.persist_report_core.specs.declared.script.ScriptHist.{ScriptHist}
use Rattle.persist_report_core.specs.Script.{hist_view, script_view}
use Rattle.persist_commands.specs.Recording.{HasOpened}
use Rattle.persist_commands.proofs.Recorded.{is_image_from}
use Rattle.persist_commands.proofs.run.record_in.Goals as goal

pub returns-clause-image : goal.returns-clause-image
returns-clause-image g c =
    is_image_from (script_view c.args.script.now) c.args.workers c.args.segment.setting (view_of_opener c.args.opener) (view_of_opener c.make_histograms.new.opener)
    (view_of_opener c.work.new.opener) c.requires.some c.requires.opened
    (subst (λ (l : List ScriptHist). HasOpened (map hist_view l) (view_of_opener c.args.opener) (view_of_opener c.make_histograms.new.opener)) c.deref.ensures.value
    c.in_ok-make_histograms.ensures.opened)
    c.in_ok-work.ensures.run c.close.result c.close.ensures.image c.close.ensures.joined c.close.ensures.deltas
