use Rattle.std.proofs.Common.{◌≡◌, ℕ, zero, suc, ◌+◌, [], ◌∷◌, Contains, inr, refl, subst, ⊎_elim, arith}
use Rattle.std.specs.Prelude.{negsuc}
use Rattle.bucket_ranges.specs.declared.spec.Spec.TheVariants as spec
use Rattle.segment_machine.specs.declared.actor.Known.{Known}
use Rattle.segment_machine.specs.Examples.{letter_s}
use Rattle.segment_machine.proofs.laws.samples_met.Goals as goal

abbrev known_s : Known
known_s = record { name = letter_s; spec = spec.Sparse; reference = 40 }

-- there is no record at 57
not_met : Contains {X = ℕ} (16 ∷ 40 ∷ 56 ∷ []) 57 → ⊥
not_met (zero, below, is) = omega (arith, is)
not_met (suc zero, below, is) = omega (arith, is)
not_met (suc (suc zero), below, is) = omega (arith, is)
not_met (suc (suc (suc k)), below, is) = omega (arith, below)

at_57 : (sample : ℕ) → Contains {X = ℕ} (16 ∷ 40 ∷ 56 ∷ []) sample → 63 ≡ sample + 6 → ⊥
at_57 sample met is =
    let here : sample ≡ 57 = omega (arith, is) in
    not_met (subst (λ (n : ℕ). Contains {X = ℕ} (16 ∷ 40 ∷ 56 ∷ []) n) here met)

pub returns : goal.returns
returns c = (
  inr (known_s, 56, negsuc 4, ((1, omega arith, refl), refl, refl), (2, omega arith, refl), (refl, refl, refl, refl), refl, refl, refl),
  λ either. ⊎_elim (λ t. ⊎_elim (λ off. cc off.0) (λ loaded. cc loaded.2) t.3) (λ t. at_57 t.1 t.4 t.6) either,
)
