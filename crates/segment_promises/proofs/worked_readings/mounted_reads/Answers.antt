use Rattle.std.proofs.Common.{[], ◌∷◌, refl}
use Rattle.segment_machine.specs.Examples.{mounted, frozen}
use Rattle.segment_promises.specs.WorkedReadings.{mounted_reading}
use Rattle.segment_promises.proofs.Readings.Tried.{reads_along}
use Rattle.segment_promises.proofs.worked_readings.mounted_reads.Goals as goal

pub returns : goal.returns
returns c = (reads_along mounted (16 ∷ []) mounted_reading refl refl refl, reads_along frozen (16 ∷ []) mounted_reading refl refl refl)
