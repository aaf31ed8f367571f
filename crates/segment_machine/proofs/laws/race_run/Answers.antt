use Rattle.std.proofs.Common.{inl, inr, refl, arith}
use Rattle.segment_machine.specs.Races.{racing}
use Rattle.segment_machine.proofs.Runs.Reached.{is_state}
use Rattle.segment_machine.proofs.laws.race_run.Goals as goal

pub returns : goal.returns
returns c = ((is_state 1 7 0 racing (inl refl) (omega arith) refl, refl), (is_state 2 7 0 racing (inr refl) (omega arith) refl, refl))
