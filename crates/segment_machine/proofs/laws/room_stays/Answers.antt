use Rattle.std.proofs.Common.{◌≡◌, ◌∙◌, inl, inr, refl, sym, ap, ⊎_elim, arith}
use Rattle.segment_machine.specs.declared.place.Place.{Place}
use Rattle.segment_machine.specs.Allocating.{cookie_for, size_at, wanted_at}
use Rattle.segment_machine.proofs.laws.room_stays.Goals as goal

pub returns : goal.returns
returns c = (
  (refl, refl, (omega arith, omega arith, inl (16, refl))),
  (λ may. ⊎_elim (λ claim. cc claim.1) (λ waste. cc waste.1) may.2.2),
  (refl, refl, (omega arith, omega arith, inr (6, refl, refl))),
  λ may.
      let cookie : 0xC8799269 ≡ cookie_for 6 16 = may.3 ∙ ap (λ (place : Place). cookie_for (size_at place) (wanted_at place)) (sym may.2) in omega (arith, cookie),
)
