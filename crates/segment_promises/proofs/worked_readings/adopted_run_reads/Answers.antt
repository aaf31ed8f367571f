use Rattle.std.proofs.Common.{[], ◌∷◌, refl}
use Rattle.segment_machine.specs.Reached.{started}
use Rattle.segment_machine.proofs.Runs.Reached.{played_reached}
use Rattle.segment_promises.specs.WorkedReadings.{mounted_reading, taken_reading, adopted_mounted, records_one, recorded_one, adopted_stopped, records_zero, recorded_zero}
use Rattle.segment_promises.proofs.Readings.Tried.{reads_along}
use Rattle.segment_promises.proofs.worked_readings.adopted_run_reads.Goals as goal

pub returns : goal.returns
returns c = (
  refl,
  played_reached 2 adopted_mounted adopted_mounted records_one refl started,
  (refl, refl),
  refl,
  refl,
  refl,
  reads_along recorded_one.words (16 ∷ []) taken_reading refl refl refl,
  played_reached 2 adopted_stopped adopted_stopped records_zero refl started,
  (refl, refl),
  reads_along recorded_zero.words (16 ∷ []) mounted_reading refl refl refl,
)
