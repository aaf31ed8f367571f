use Rattle.std.proofs.Common.{[], ◌∷◌, refl}
use Rattle.segment_machine.specs.Examples.{in_transit, stopped_frozen}
use Rattle.segment_promises.specs.WorkedReadings.{transit_reading, stopped_reading}
use Rattle.segment_promises.proofs.Readings.Tried.{reads_along}
use Rattle.segment_promises.proofs.worked_readings.stopped_in_transit_reads.Goals as goal

pub returns : goal.returns
returns c = (reads_along in_transit (16 ∷ []) transit_reading refl refl refl, reads_along stopped_frozen (16 ∷ []) stopped_reading refl refl refl)
