use Rattle.std.proofs.Common.{inl, refl, arith}
use Rattle.segment_machine.specs.Looks.{sharing}
use Rattle.segment_machine.proofs.Runs.Reached.{is_state}
use Rattle.segment_machine.proofs.laws.cursor_run.Goals as goal

pub returns : goal.returns
returns c = (is_state 1 7 1 sharing (inl refl) (omega arith) refl, refl, refl, refl, refl)
