use Rattle.std.proofs.Common.{inl, inr, refl, arith}
use Rattle.segment_machine.specs.Races.{stopping}
use Rattle.segment_machine.proofs.Runs.Reached.{is_state}
use Rattle.segment_machine.proofs.laws.stopped_run.Goals as goal

pub returns : goal.returns
returns c = ((is_state 1 7 0 stopping (inl refl) (omega arith) refl, refl, refl), (is_state 2 7 0 stopping (inr refl) (omega arith) refl, refl, refl))
