-- Which of some pieces begins at a word, of those that are chosen.
use Rattle.segment_invariant.proofs.Prelude.Std.{◌≡◌, ℕ, zero, suc, Bool, true, false, List, [], ◌∷◌, refl, sym, ap, ◌∙◌, ◌==◌, ◌&&◌, if◌then◌else◌, and_from, and_parts, eq-eqb, eqb-true, some, none, some-injective, some-ne-none, get_elem?}
use Rattle.segment_invariant.proofs.Prelude.Invariant.{Body, plain, Piece}
use mathlib.Core.Option.{Option}

-- whether there is one, and what it is
abbrev pub is_there : Option Piece → Bool
is_there none = false
is_there (some p) = true

abbrev pub body_made : (Piece → Body) → Option Piece → Body
body_made made none = plain []
body_made made (some p) = made p

module _ (chosen : Piece → Bool) where
  -- the first of them that begins there
  abbrev pub chosen_at : List Piece → ℕ → Option Piece
  chosen_at [] at = none
  chosen_at (p ∷ rest) at = if (p.at == at) && chosen p then some p else chosen_at rest at

  -- a piece of a list begins there, and is chosen
  pub record IsChosen (pieces : List Piece) (at : ℕ) (p : Piece) : Type 0 where
    pub k : ℕ
    pub there : get_elem? pieces k ≡ some p
    pub place : p.at ≡ at
    pub passes : chosen p ≡ true

  pub chosen_is : (pieces : List Piece) (at : ℕ) (q : Piece) → chosen_at pieces at ≡ some q → IsChosen pieces at q
  chosen_is [] at q is = absurd (some-ne-none q (sym is))
  chosen_is (p ∷ rest) at q is = by_test (chosen_is rest at q) ((p.at == at) && chosen p) refl is
    where
      by_test : (chosen_at rest at ≡ some q → IsChosen rest at q) → (b : Bool) → ((p.at == at) && chosen p) ≡ b
          → (if b then some p else chosen_at rest at) ≡ some q → IsChosen (p ∷ rest) at q
      by_test later true passes is =
          let same : p ≡ q = some-injective p q is in
          let (place, chosen_p) = and_parts (p.at == at) (chosen p) passes in
          record { k = 0; there = ap some same; place = ap (λ (p : Piece). p.at) (sym same) ∙ eqb-true p.at at place; passes = ap chosen (sym same) ∙ chosen_p }
      by_test later false passes is =
          let rest_has = later is in
          record { k = suc rest_has.k; there = rest_has.there; place = rest_has.place; passes = rest_has.passes }

  -- one that is chosen is found, if no other begins there
  pub chosen_there : (pieces : List Piece) (k : ℕ) (p : Piece) → get_elem? pieces k ≡ some p → chosen p ≡ true
      → ((j : ℕ) (q : Piece) → get_elem? pieces j ≡ some q → q.at ≡ p.at → q ≡ p) → chosen_at pieces p.at ≡ some p
  chosen_there [] k p there passes alone = absurd (some-ne-none p (sym there))
  chosen_there (q ∷ rest) zero p there passes alone =
      let same : q ≡ p = some-injective q p there in
      ap (λ (b : Bool). if b then some q else chosen_at rest p.at)
      (and_from (q.at == p.at) (chosen q) (eq-eqb q.at p.at (ap (λ (p : Piece). p.at) same)) (ap chosen same ∙ passes)) ∙ ap some same
  chosen_there (q ∷ rest) (suc k) p there passes alone =
      by_test (chosen_there rest k p there passes (λ j z here place. alone (suc j) z here place)) ((q.at == p.at) && chosen q) refl
    where
      by_test : chosen_at rest p.at ≡ some p → (b : Bool) → ((q.at == p.at) && chosen q) ≡ b → (if b then some q else chosen_at rest p.at) ≡ some p
      by_test later true is = ap some (alone 0 q refl (eqb-true q.at p.at (and_parts (q.at == p.at) (chosen q) is).0))
      by_test later false is = later

  -- whether one is there says that it is
  pub one_there : (pieces : List Piece) (at : ℕ) → is_there (chosen_at pieces at) ≡ true → (p : Piece) × (chosen_at pieces at ≡ some p)
  one_there pieces at is = by_found (chosen_at pieces at) refl is
    where
      by_found : (o : Option Piece) → chosen_at pieces at ≡ o → is_there o ≡ true → (p : Piece) × (chosen_at pieces at ≡ some p)
      by_found none found is = cc is
      by_found (some p) found is = (p, found)
