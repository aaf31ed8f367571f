use Rattle.std.proofs.Common.{[], ◌∷◌, inl, inr, refl, arith}
use Rattle.segment_machine.proofs.Runs.Reached.{is_state}
use Rattle.segment_promises.specs.WorkedReadings.{summing, summed_words, summed_reading}
use Rattle.segment_promises.proofs.Readings.Tried.{reads_along}
use Rattle.segment_promises.proofs.worked_readings.units_of_sums_read.Goals as goal

pub returns : goal.returns
returns c = (
  (is_state 1 7 0 summing (inl refl) (omega arith) refl, refl, refl, reads_along (summed_words 1) (16 ∷ []) summed_reading refl refl refl),
  (is_state 2 7 0 summing (inr refl) (omega arith) refl, refl, refl, reads_along (summed_words 2) (16 ∷ []) summed_reading refl refl refl),
  refl,
  refl,
)
