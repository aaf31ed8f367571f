use Rattle.segment_invariant.proofs.Prelude.Std.{ℕ, [], ◌∷◌, zero, suc, Contains, ap, arith, one_in}
use Rattle.segment_invariant.proofs.Prelude.Machine.{buckets_of, Known}
use Rattle.segment_machine.specs.Examples.{known_a}
use Rattle.segment_invariant.proofs.laws.counts_loaded.Goals as goal

-- no record is at 57
not_met : Contains {X = ℕ} (16 ∷ 40 ∷ 56 ∷ []) 57 → ⊥
not_met (zero, below, is) = omega (arith, is)
not_met (suc zero, below, is) = omega (arith, is)
not_met (suc (suc zero), below, is) = omega (arith, is)
not_met (suc (suc (suc k)), below, is) = omega (arith, below)

pub returns : goal.returns
returns c = (
  λ (off, below, saw).
      let three = ap (λ (k : Known). buckets_of k.spec) (one_in known_a off.0.known off.0.knows.0) in
      omega (arith, below, three),
  λ (met, saw). not_met met.4,
)
