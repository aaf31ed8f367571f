use Rattle.std.proofs.Common.{◌≡◌, ℕ, zero, suc, ◌<◌, true, false, [], ◌∷◌, refl, sym, true≢false, ⊎_elim, arith}
use Rattle.std.specs.Prelude.{slice_index_or}
use Rattle.segment_invariant.proofs.laws.flags_break.Goals as goal

-- the only actor has not set it, so nobody has
nobody : (k : ℕ) → k < 1 → slice_index_or (false ∷ []) k true ≡ true → ⊥
nobody zero below e = true≢false (sym e)
nobody (suc k) below e = absurd (omega (arith, below))

pub returns : goal.returns
returns c = (
  λ flags. ⊎_elim (λ e. absurd (omega (arith, e))) (λ set. nobody set.0 set.1 set.2) (flags.corrupt.0 refl),
  λ flags. let is = flags.noticed 0 _ refl (λ spent. cc spent) refl in absurd (omega (arith, is)),
)
