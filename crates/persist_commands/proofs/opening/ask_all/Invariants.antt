use Rattle.std.proofs.Common.{◌≡◌, [], All, map, take}
use Rattle.live_segment.specs.Holders.{view_of_recorder}
use Rattle.persist_report_core.specs.Script.{hist_view}
use Rattle.persist_commands.specs.Recording.{KnowsOf, WentOn}
use Rattle.persist_commands.proofs.opening.ask_all.Given as goal

abbrev pub invariant-loop-hist : goal.invariant-loop-hist
invariant-loop-hist l =
    (l.recorder.segment ≡ l.fn.recorder.segment)
    × WentOn (map hist_view l.hists) [] (view_of_recorder l.fn.recorder) (view_of_recorder l.recorder)
    × All (KnowsOf (view_of_recorder l.recorder)) (map hist_view (take l.hist-index l.hists))
