use Rattle.segment_invariant.proofs.Prelude.Std.{zero, suc, inl, inr, refl, sym, ap, arith}
use Rattle.segment_invariant.proofs.Prelude.Machine.{is_off, Sighting}
use Rattle.segment_promises.specs.Deltas.{SawOpen}
use Rattle.segment_machine.specs.Examples.{known_a}
use Rattle.segment_machine.proofs.Delta.{done, took_all}
use Rattle.segment_promises.proofs.laws.delta_owes.Goals as goal

-- the one single word that it saw is not off
is_open : SawOpen done known_a
is_open word (zero, below, is) = ap (λ (s : Sighting). is_off s.word) (sym is)
is_open word (suc k, below, is) = absurd (omega (arith, below))

pub returns : goal.returns
returns c = (took_all, inr (inl is_open), refl, refl)
