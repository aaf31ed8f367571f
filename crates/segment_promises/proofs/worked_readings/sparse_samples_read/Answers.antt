use Rattle.segment_invariant.proofs.Prelude.Std.{[], ◌∷◌, refl, slice_set}
use Rattle.segment_machine.specs.Examples.{sparse_segment}
use Rattle.segment_promises.specs.WorkedReadings.{sparse_reading}
use Rattle.segment_promises.proofs.Readings.Tried.{reads_along}
use Rattle.segment_promises.proofs.worked_readings.sparse_samples_read.Goals as goal

pub returns : goal.returns
returns c = (reads_along sparse_segment (16 ∷ 32 ∷ 40 ∷ []) sparse_reading refl refl refl, reads_along (slice_set sparse_segment 1 2) (16 ∷ 32 ∷ 40 ∷ []) sparse_reading refl refl refl)
