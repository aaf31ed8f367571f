-- What is in a list, compared with a map of it, a front of it and a longer list; and what a fold over appended logs is.
use Rattle.std.proofs.Common.{◌≡◌, ◌≢◌, ◌⊎◌, ℕ, zero, suc, ◌+◌, ◌<◌, ◌≤◌, List, [], ◌∷◌, ◌++◌, map, length, take, drop, set, inl, inr, ⊎_elim, sym, refl, ap, ◌∙◌, subst, subst₂, length-set, take-append-drop, arith}
use Rattle.std.specs.List.{Contains, All}
use Rattle.std.proofs.lemmas.List.{get_or-map, length-map}
use Rattle.std.proofs.lemmas.List.Elements.{All-contains, All-map, Contains-append_left}
use mathlib.Core.Option.{some, some-injective}
use lib.ListN.{get_elem?}
use Rattle.atomic_table.proofs.Lists.{at_set}
use Rattle.list_lemmas.proofs.Elements.{below_length, at_snoc_index, all_of}

module _ {X Y : Type 0} (f : X → Y) where
  pub contains_map : (xs : List X) (x : X) → Contains xs x → Contains (map f xs) (f x)
  contains_map xs x there =
      let long = length-map xs f in
      let below = there.1 in
      (there.0, omega (arith, long, below), get_or-map f xs there.0 x (f x) below ∙ ap f there.2)

  pub contains_mapped : (xs : List X) (y : Y) → Contains (map f xs) y → (x : X) × Contains xs x × (f x ≡ y)
  contains_mapped xs y there =
      let holds : Y → Type 0 = λ z. (x : X) × Contains xs x × (f x ≡ z) in
      All-contains holds (map f xs) y
      (All-map holds f xs (all_of (λ x. holds (f x)) xs (λ x is. (x, is, refl))))
      there

-- a map of what a map did not change is the same
pub map_after : {X Y : Type 0} (h : X → X) (g : X → Y) → ((x : X) → g (h x) ≡ g x) → (xs : List X) → map g (map h xs) ≡ map g xs
map_after {X} {Y} h g same [] = refl
map_after {X} {Y} h g same (x ∷ xs) = ap (λ (y : Y). y ∷ map g (map h xs)) (same x) ∙ ap (λ (list : List Y). g x ∷ list) (map_after h g same xs)

module _ {X : Type 0} where
  pub contains_take : (n : ℕ) (xs : List X) (x : X) → Contains (take n xs) x → Contains xs x
  contains_take n xs x there = subst (λ (list : List X). Contains list x) (take-append-drop n xs) (Contains-append_left (take n xs) (drop n xs) x there)

  -- after two elements were replaced, each element is one of these two, or was there before
  pub at_two : (xs : List X) (i j k : ℕ) (x y z : X) → get_elem? (set (set xs i x) j y) k ≡ some z
      → ((k ≡ j) × (y ≡ z)) ⊎ ((k ≡ i) × (x ≡ z)) ⊎ ((k ≢ j) × (k ≢ i) × (get_elem? xs k ≡ some z))
  at_two xs i j k x y z e = ⊎_elim
      (λ last. inl last)
      (λ rest. inr (⊎_elim (λ first. inl first) (λ old. inr (rest.0, old.0, old.1)) (at_set xs i k x z rest.1)))
      (at_set (set xs i x) j k y z e)

  -- there is one element at a place
  pub one_at : (xs : List X) (i : ℕ) (x y : X) → get_elem? xs i ≡ some x → get_elem? xs i ≡ some y → x ≡ y
  one_at xs i x y first last = some-injective x y (sym first ∙ last)

  -- so what holds of both, and of all that were there and were not replaced, holds of each
  pub each_of_two : (holds : ℕ → X → Type 0) (xs : List X) (i j : ℕ) (x y : X) → holds i x → holds j y
      → ((k : ℕ) (z : X) → k ≢ j → k ≢ i → get_elem? xs k ≡ some z → holds k z)
      → (k : ℕ) (z : X) → get_elem? (set (set xs i x) j y) k ≡ some z → holds k z
  each_of_two holds xs i j x y first last rest k z e = ⊎_elim
      (λ t. subst₂ holds (sym t.0) t.1 last)
      (λ other. ⊎_elim (λ t. subst₂ holds (sym t.0) t.1 first) (λ t. rest k z t.0 t.1 t.2) other)
      (at_two xs i j k x y z e)

  -- and what holds of one that was changed, of one more, and of the others, holds of each
  pub each_of_more : (holds : ℕ → X → Type 0) (xs : List X) (i : ℕ) (x y : X) → holds i x → holds (length xs) y
      → ((k : ℕ) (z : X) → k < length xs → k ≢ i → get_elem? xs k ≡ some z → holds k z)
      → (k : ℕ) (z : X) → get_elem? (set xs i x ++ y ∷ []) k ≡ some z → holds k z
  each_of_more holds xs i x y first last rest k z e = ⊎_elim
      (λ t. ⊎_elim
      (λ same. subst₂ holds (sym same.0) same.1 first)
      (λ old. rest k z (below_length xs k z old.1) old.0 old.1)
      (at_set xs i k x z t))
      (λ t. subst₂ holds (sym (t.0 ∙ length-set xs i x)) t.1 last)
      (at_snoc_index (set xs i x) y z k e)

  -- an element of two lists in a row is one of the first or one of the second
  pub at_either : (xs ys : List X) (i : ℕ) (x : X) → get_elem? (xs ++ ys) i ≡ some x
      → (get_elem? xs i ≡ some x) ⊎ ((j : ℕ) × (i ≡ length xs + j) × (get_elem? ys j ≡ some x))
  at_either [] ys i x e = inr (i, omega arith, e)
  at_either (z ∷ zs) ys zero x e = inl e
  at_either (z ∷ zs) ys (suc i) x e = ⊎_elim
      (λ first. inl first)
      (λ t. let behind = t.1 in inr (t.0, omega (arith, behind), t.2))
      (at_either zs ys i x e)

  -- what holds of all of two lists in a row holds of all of the first, and of all that follows it
  pub all_left : (holds : X → Type 0) (xs ys : List X) → All holds (xs ++ ys) → All holds xs
  all_left holds xs ys all = all_of holds xs (λ x there. All-contains holds (xs ++ ys) x all (Contains-append_left xs ys x there))

  pub drop_left : (n : ℕ) (xs ys : List X) → (rest : List X) × (drop n (xs ++ ys) ≡ drop n xs ++ rest)
  drop_left zero xs ys = (ys, refl)
  drop_left (suc n) [] ys = (drop (suc n) ys, refl)
  drop_left (suc n) (x ∷ xs) ys = drop_left n xs ys

  -- of two fronts of one list the shorter one is a front of the other
  pub front_of_front : (xs more ys rest : List X) → xs ++ more ≡ ys ++ rest → length xs ≤ length ys → (others : List X) × (ys ≡ xs ++ others)
  front_of_front [] more ys rest same short = (ys, refl)
  front_of_front (x ∷ xs) more [] rest same short = absurd (omega (arith, short))
  front_of_front (x ∷ xs) more (y ∷ ys) rest same short =
      let first : y ≡ x = cc same in
      let behind = front_of_front xs more ys rest (cc same) (omega (arith, short)) in
      (behind.0, λ i. first i ∷ behind.1 i)
