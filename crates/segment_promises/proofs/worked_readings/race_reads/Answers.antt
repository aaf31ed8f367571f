use Rattle.std.proofs.Common.{[], ◌∷◌, refl}
use Rattle.segment_machine.specs.Races.{race_words}
use Rattle.segment_promises.specs.WorkedReadings.{race_reading}
use Rattle.segment_promises.proofs.Readings.Tried.{reads_along}
use Rattle.segment_promises.proofs.worked_readings.race_reads.Goals as goal

pub returns : goal.returns
returns c = (reads_along (race_words 1) (16 ∷ 40 ∷ 32 ∷ []) race_reading refl refl refl, reads_along (race_words 2) (16 ∷ 40 ∷ 32 ∷ []) race_reading refl refl refl)
