use Rattle.std.proofs.Common.{[], ◌∷◌, refl}
use Rattle.segment_machine.specs.Worked.{worked}
use Rattle.segment_promises.specs.WorkedReadings.{joined_reading}
use Rattle.segment_promises.proofs.Readings.Tried.{reads_along}
use Rattle.segment_promises.proofs.worked_readings.joined_run_reads.Goals as goal

pub returns : goal.returns
returns c = (reads_along (worked 1).words (16 ∷ 42 ∷ 64 ∷ []) joined_reading refl refl refl, reads_along (worked 2).words (16 ∷ 42 ∷ 64 ∷ []) joined_reading refl refl refl)
