-- A recorder's own blocks: which one is at a word, and what a change of it leaves.
use Rattle.std.proofs.Common.{◌≡◌, ℕ, ◌==◌, Bool, true, false, not, List, [], ◌∷◌, refl, sym, ap, ◌∙◌, subst, eqb-true, arith, Contains, Some}
use Rattle.std.specs.Prelude.{if◌then◌else◌}
use Rattle.std.proofs.lemmas.List.Elements.{Contains-append_right}
use Rattle.segment_machine.specs.declared.actor.Own.{Own}
use Rattle.segment_machine.specs.Calls.{change_own, without}
use Rattle.segment_machine.specs.Publishing.{own_at}

module _ (at : ℕ) where
  -- a block that is found there is its own, and is there
  pub own_there : (list : List Own) (own : Own) → own_at list at ≡ Some own → Contains list own × (own.at ≡ at)
  own_there [] own is = cc is
  own_there (x ∷ rest) own is = by (x.at == at) refl (own_there rest own) is
    where
      by : (here : Bool) → (x.at == at) ≡ here → (own_at rest at ≡ Some own → Contains rest own × (own.at ≡ at))
          → (if here then Some x else own_at rest at) ≡ Some own → Contains (x ∷ rest) own × (own.at ≡ at)
      by true e behind found =
          let same : x ≡ own = cc found in
          (subst (λ (y : Own). Contains (x ∷ rest) y) same (0, omega arith, refl), ap (λ (y : Own). y.at) (sym same) ∙ eqb-true x.at at e)
      by false e behind found = let has = behind found in (Contains-append_right (x ∷ []) rest own has.0, has.1)

  -- it is found there changed, where it was found
  pub own_changed : (change : Own → Own) (list : List Own) (own : Own) → ((x : Own) → (change x).at ≡ x.at) → own_at list at ≡ Some own
      → own_at (change_own at change list) at ≡ Some (change own)
  own_changed change [] own stays is = cc is
  own_changed change (x ∷ rest) own stays is = by (x.at == at) refl (own_changed change rest own stays) is
    where
      by : (here : Bool) → (x.at == at) ≡ here → (own_at rest at ≡ Some own → own_at (change_own at change rest) at ≡ Some (change own))
          → (if here then Some x else own_at rest at) ≡ Some own
          → own_at (if here then change x ∷ rest else x ∷ change_own at change rest) at ≡ Some (change own)
      by true e behind found =
          ap (λ (b : Bool). if b then Some (change x) else own_at rest at) (ap (λ (n : ℕ). n == at) (stays x) ∙ e)
          ∙ ap (λ (y : Own). Some (change y)) (cc found)
      by false e behind found = ap (λ (b : Bool). if b then Some x else own_at (change_own at change rest) at) e ∙ behind found

  -- all others are unchanged
  pub others_stay : (change : Own → Own) (list : List Own) → ((x : Own) → (change x).at ≡ x.at)
      → without at (change_own at change list) ≡ without at list
  others_stay change [] stays = refl
  others_stay change (x ∷ rest) stays = by (x.at == at) refl (others_stay change rest stays)
    where
      kept : Bool → Own → List Own → List Own
      kept b y list = if not b then y ∷ list else list

      by : (here : Bool) → (x.at == at) ≡ here → without at (change_own at change rest) ≡ without at rest
          → without at (if here then change x ∷ rest else x ∷ change_own at change rest) ≡ without at (x ∷ rest)
      by true e behind =
          ap (λ (b : Bool). kept b (change x) (without at rest)) (ap (λ (n : ℕ). n == at) (stays x) ∙ e)
          ∙ sym (ap (λ (b : Bool). kept b x (without at rest)) e)
      by false e behind = ap (λ (list : List Own). kept (x.at == at) x list) behind
