use Rattle.std.proofs.Common.{◌≡◌, take}
use Rattle.live_reading.specs.Reading.{GoesOnLooking}
use Rattle.live_reading.proofs.Underway.{IsUnderWay}
use Rattle.live_reading.proofs.live_reading.reading.Given as goal

abbrev pub invariant-loop-reference : goal.invariant-loop-reference
invariant-loop-reference l =
    (l.recorder.segment ≡ l.fn.recorder.segment)
    × GoesOnLooking l.fn.recorder.state l.recorder.state
    × IsUnderWay l.fn.recorder.segment.now (take l.reference-index l.reference-items) l.hists.items l.initial.recorder.state l.recorder.state
