use Rattle.std.proofs.Common.{List, map, sym, subst}
use Rattle.std.specs.Prelude.{MatchOption, Option}
use Rattle.bucket_ranges.specs.Reading.{Histogram}
use Rattle.image_reader.specs.Views.{histogram_view}
use Rattle.live_segment.specs.Holders.{view_of_recorder}
use Rattle.segment_machine.specs.declared.actor.Actor.{Actor}
use Rattle.segment_merge.specs.declared.merging.MergeStop.{MergeStop}
use Rattle.segment_merge.specs.Merge.{IsStopped, IsWholeMerge}
use Rattle.persist_commands.specs.MergeFiles.{HasStopped}
use Rattle.persist_commands.proofs.MergeFaults.{stop_among}
use Rattle.persist_commands.proofs.merging.merge_whole.Goals as goal

pub returns-clause-fault : goal.returns-clause-fault
returns-clause-fault c =
    let hists : List Histogram = map histogram_view c.args.reading.now.hists.items in
    let old : Actor = view_of_recorder c.args.recorder.now in
    let new : Actor = view_of_recorder c.merge.new.recorder in
    let stopped : IsStopped hists c.in-Ok.report c.in-Some.stop old new = subst (λ (o : Option MergeStop). MatchOption o (IsWholeMerge hists c.in-Ok.report old new)
    (λ stop. IsStopped hists c.in-Ok.report stop old new)) c.in-Some.is c.in-Ok.ensures.answer in
    subst (HasStopped hists old new) (sym c.fault_of.ensures) (stop_among hists c.in-Ok.report c.in-Some.stop old new stopped)
