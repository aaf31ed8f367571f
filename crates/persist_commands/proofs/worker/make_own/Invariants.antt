use Rattle.std.proofs.Common.{◌≡◌, length, map, take}
use Rattle.live_segment.specs.Holders.{view_of_recorder}
use Rattle.persist_report_core.specs.Script.{hist_view}
use Rattle.persist_commands.specs.Entries.{deeds_of}
use Rattle.persist_commands.specs.Parts.{part_of}
use Rattle.persist_commands.specs.Recording.{HaveMet, HasRecorded}
use Rattle.persist_commands.proofs.worker.make_own.Given as goal

abbrev pub invariant-loop-number : goal.invariant-loop-number
invariant-loop-number g l =
    (l.recorder.segment ≡ l.fn.recorder.segment) × (length l.met ≡ length l.hists) × HaveMet (map hist_view l.hists) l.recorder l.met
    × HasRecorded (map hist_view l.hists) (deeds_of (map hist_view l.hists) (part_of l.part.workers l.part.part (take l.number l.calls))) (view_of_recorder l.fn.recorder) (view_of_recorder l.recorder)
