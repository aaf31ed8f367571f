use Rattle.std.proofs.Common.{[], map, sym, subst, Option}
use Rattle.live_segment.specs.Holders.{view_of_recorder}
use Rattle.persist_report_core.specs.Script.{HistRecord, hist_view}
use Rattle.persist_commands.specs.Entries.{deeds_in}
use Rattle.persist_commands.specs.Recording.{HasRecorded}
use Rattle.persist_commands.proofs.Went.{recorded_twice}
use Rattle.persist_commands.proofs.worker.make_call.Goals as goal

pub returns-in-Ok-answer-clause-went : goal.returns-in-Ok-answer-clause-went
returns-in-Ok-answer-clause-went g c =
    let hists = map hist_view c.args.hists.now in
    let (hist, at, named) = c.in-Ok.ensures.found in
    let old = view_of_recorder c.args.recorder.now in
    let new = view_of_recorder c.record_call-answer.new.recorder in
    subst (λ (o : Option HistRecord). HasRecorded hists (deeds_in o c.args.call.now.kind) old new) (sym at)
    (recorded_twice hists [] _ old (view_of_recorder c.meet.new.recorder) new c.in-Ok.ensures.went (c.in-Ok-answer.ensures.went hists hist named))
