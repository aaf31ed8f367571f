use Rattle.std.proofs.Common.{[], ◌∷◌, refl}
use Rattle.segment_machine.specs.Examples.{taken_once, taken_once_frozen}
use Rattle.segment_promises.specs.WorkedReadings.{taken_reading}
use Rattle.segment_promises.proofs.Readings.Tried.{reads_along}
use Rattle.segment_promises.proofs.worked_readings.two_takers_read.Goals as goal

pub returns : goal.returns
returns c = (reads_along taken_once (16 ∷ []) taken_reading refl refl refl, reads_along taken_once_frozen (16 ∷ []) taken_reading refl refl refl)
