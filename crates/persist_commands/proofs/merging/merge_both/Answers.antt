use Rattle.std.proofs.Common.{map}
use Rattle.std.proofs.lemmas.Result.{err_from_is_err_and}
use Rattle.image_reader.specs.Views.{histogram_view}
use Rattle.live_segment.specs.Holders.{view_of_recorder}
use Rattle.persist_commands.proofs.MergeFaults.{merged_both, stop_both, stop_first}
use Rattle.persist_commands.proofs.merging.merge_both.Goals as goal

pub returns-in_err-merge_whole-clause-fault : goal.returns-in_err-merge_whole-clause-fault
returns-in_err-merge_whole-clause-fault c =
    let p = err_from_is_err_and c.from_residual.result c.from_residual.ensures.1 in
    rw (p.1, p.2)
    (stop_first (map histogram_view c.args.base.now.hists.items) (map histogram_view c.args.dead.now.hists.items) (view_of_recorder c.args.recorder.now)
    (view_of_recorder c.merge_whole.new.recorder) c.in_err-merge_whole.field-0.0 c.in_err-merge_whole.ensures.fault)

pub returns-clause-merged : goal.returns-clause-merged
returns-clause-merged c =
    merged_both c.merge_whole-2.result (map histogram_view c.args.base.now.hists.items) (map histogram_view c.args.dead.now.hists.items)
    (view_of_recorder c.args.recorder.now) (view_of_recorder c.merge_whole.new.recorder) (view_of_recorder c.merge_whole-2.new.recorder)
    c.in_ok-merge_whole.ensures.merged c.merge_whole-2.ensures.merged

pub returns-clause-fault : goal.returns-clause-fault
returns-clause-fault c =
    stop_both c.merge_whole-2.result (map histogram_view c.args.base.now.hists.items) (map histogram_view c.args.dead.now.hists.items)
    (view_of_recorder c.args.recorder.now) (view_of_recorder c.merge_whole.new.recorder) (view_of_recorder c.merge_whole-2.new.recorder)
    c.in_ok-merge_whole.ensures.merged c.merge_whole-2.ensures.fault
