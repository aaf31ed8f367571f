use Rattle.std.proofs.Common.{[], ◌∷◌, refl}
use Rattle.segment_machine.specs.Examples.{marked, marked_frozen}
use Rattle.segment_promises.specs.WorkedReadings.{marked_reading}
use Rattle.segment_promises.proofs.Readings.Tried.{reads_along}
use Rattle.segment_promises.proofs.worked_readings.deltas_and_marks_read.Goals as goal

pub returns : goal.returns
returns c = (reads_along marked (16 ∷ []) marked_reading refl refl refl, reads_along marked_frozen (16 ∷ []) marked_reading refl refl refl)
