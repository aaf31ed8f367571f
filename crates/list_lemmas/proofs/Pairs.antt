-- What holds of any two elements of a list, whatever their order.
use Rattle.std.proofs.Common.{◌≡◌, ◌≢◌, ◌⊎◌, ℕ, ◌<◌, List, [], ◌∷◌, length, set, get_or, IsPermutation, inl, inr, refl, ap, subst, ◌∙◌, arith}
use Rattle.std.specs.List.{swap}
use Rattle.std.proofs.lemmas.List.{get_or_default}
use Rattle.std.proofs.lemmas.List.Edits.{swap_is}
use Rattle.std.proofs.lemmas.List.Sorted.{IsPermutation-keeps}
use mathlib.Core.Option.{some}
use lib.ListN.{get_elem?}
use Rattle.atomic_table.proofs.Lists.{at_set, at_index}

-- it holds of the elements at any two places
abbrev pub AnyTwo : {X : Type 0} → (X → X → Type 0) → List X → Type 0
AnyTwo {X} R l = (i j : ℕ) (x y : X) → i ≢ j → get_elem? l i ≡ some x → get_elem? l j ≡ some y → R x y

-- where an element was before two were exchanged
abbrev IsFrom : ℕ → ℕ → ℕ → ℕ → Type 0
IsFrom i j now before =
    ((now ≡ j) × (before ≡ i)) ⊎ ((now ≢ j) × (now ≡ i) × (before ≡ j)) ⊎ ((now ≢ j) × (now ≢ i) × (before ≡ now))

-- two that are at different places were at different places
apart_before : (i j a b s t : ℕ) → IsFrom i j a s → IsFrom i j b t → a ≢ b → s ≢ t
apart_before i j a b s t (inl x) (inl y) ne same = ne (omega (arith, x, y))
apart_before i j a b s t (inl x) (inr (inl y)) ne same = y.0 (omega (arith, x, y, same))
apart_before i j a b s t (inl x) (inr (inr y)) ne same = y.1 (omega (arith, x, y, same))
apart_before i j a b s t (inr (inl x)) (inl y) ne same = x.0 (omega (arith, x, y, same))
apart_before i j a b s t (inr (inl x)) (inr (inl y)) ne same = ne (omega (arith, x, y, same))
apart_before i j a b s t (inr (inl x)) (inr (inr y)) ne same = y.0 (omega (arith, x, y, same))
apart_before i j a b s t (inr (inr x)) (inl y) ne same = x.1 (omega (arith, x, y, same))
apart_before i j a b s t (inr (inr x)) (inr (inl y)) ne same = x.0 (omega (arith, x, y, same))
apart_before i j a b s t (inr (inr x)) (inr (inr y)) ne same = ne (omega (arith, x, y, same))

-- the element at a place of a list
pub element_at : {X : Type 0} (l : List X) (k : ℕ) (d : X) → k < length l → get_elem? l k ≡ some (get_or l k d)
element_at l k d lt = at_index l k (get_or l k d) lt (get_or_default l k d (get_or l k d) lt)

module _ {X : Type 0} (l : List X) (i j : ℕ) (d : X) (p : i < length l) (q : j < length l) where
  -- an element of the list after the exchange was in it before
  stood : (a : ℕ) (x : X) → get_elem? (set (set l i (get_or l j d)) j (get_or l i d)) a ≡ some x
      → (s : ℕ) × (get_elem? l s ≡ some x) × IsFrom i j a s
  stood a x there = elim (at_set (set l i (get_or l j d)) j a (get_or l i d) x there) [
    | inl last ↦ (i, element_at l i d p ∙ ap some last.1, inl (last.0, refl))
    | inr before ↦ elim (at_set l i a (get_or l j d) x before.1) [
      | inl first ↦ (j, element_at l j d q ∙ ap some first.1, inr (inl (before.0, first.0, refl)))
      | inr other ↦ (a, other.1, inr (inr (before.0, other.0, refl)))
    ]
  ]

  swapped : (R : X → X → Type 0) → AnyTwo R l → AnyTwo R (swap l i j)
  swapped R all = subst (AnyTwo R) (swap_is l i j d p q) (λ a b x y ne there here.
      let first = stood a x there in
      let second = stood b y here in
      all first.0 second.0 x y (apart_before i j a b first.0 second.0 first.2 second.2 ne) first.1 second.1)

-- so it holds in any order
pub any_two_permuted : {X : Type 0} (R : X → X → Type 0) (xs ys : List X) → IsPermutation xs ys → AnyTwo R xs → AnyTwo R ys
any_two_permuted {X} R xs ys is h = IsPermutation-keeps xs (AnyTwo R) h step ys is
  where
    step : (l : List X) (i j : ℕ) → i < length l → j < length l → AnyTwo R l → AnyTwo R (swap l i j)
    step [] i j p q all = absurd (omega (arith, p))
    step (d ∷ l) i j p q all = swapped (d ∷ l) i j d p q R all
