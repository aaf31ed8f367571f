-- Sums of whole numbers over lists.
use Rattle.std.proofs.Common.{◌≡◌, Bool, ◌||◌, ℕ, ◌+◌, suc, ℤ, pos, negsuc, ◌+ℤ◌, List, [], ◌∷◌, ◌++◌, sum_by, refl, ap, sym, ◌∙◌, arith}
use Rattle.std.specs.List.{flat_map, list_any}
use Rattle.std.specs.List.Sorted.{IsPermutation}
use Rattle.std.proofs.Math.IntN.{+ℤ_assoc, +ℤ_idl, +ℤ_idr}
use Rattle.std.proofs.lemmas.Int.{ints}
use Rattle.std.proofs.lemmas.List.Sums.{sum_by-cons}
use Rattle.std.proofs.lemmas.List.Sorted.{sum_by-IsPermutation}
use Rattle.std.proofs.lemmas.List.Folds.{list_any-append}

-- the sum of a function over a list
abbrev pub isum : {X : Type 0} → (X → ℤ) → List X → ℤ
isum f [] = pos 0
isum f (x ∷ xs) = f x +ℤ isum f xs

pub isum-append : {X : Type 0} (f : X → ℤ) (xs ys : List X) → isum f (xs ++ ys) ≡ isum f xs +ℤ isum f ys
isum-append f [] ys = sym (+ℤ_idl (isum f ys))
isum-append f (x ∷ xs) ys = ap (λ n. f x +ℤ n) (isum-append f xs ys) ∙ sym (+ℤ_assoc (f x) (isum f xs) (isum f ys))

pub isum-flat_map : {X Y : Type 0} (f : Y → ℤ) (g : X → List Y) (xs : List X) → isum f (flat_map g xs) ≡ isum (λ x. isum f (g x)) xs
isum-flat_map f g [] = refl
isum-flat_map f g (x ∷ xs) = isum-append f (g x) (flat_map g xs) ∙ ap (λ n. isum f (g x) +ℤ n) (isum-flat_map f g xs)

pub any-flat_map : {X Y : Type 0} (p : Y → Bool) (g : X → List Y) (xs : List X) → list_any p (flat_map g xs) ≡ list_any (λ x. list_any p (g x)) xs
any-flat_map p g [] = refl
any-flat_map p g (x ∷ xs) = list_any-append p (g x) (flat_map g xs) ∙ ap (λ b. list_any p (g x) || b) (any-flat_map p g xs)

-- ---- in any order

-- how far a number is above 0, and how far below
above : ℤ → ℕ
above (pos n) = n
above (negsuc n) = 0

below : ℤ → ℕ
below (pos n) = 0
below (negsuc n) = suc n

both-sides : (x : ℤ) → x +ℤ pos (below x) ≡ pos (above x)
unfolding above below
both-sides (pos n) = +ℤ_idr (pos n)
both-sides (negsuc n) = omega (arith, ints)

sides-more : (x t : ℤ) (b a m p : ℕ) → x +ℤ pos b ≡ pos a → t +ℤ pos m ≡ pos p → (x +ℤ t) +ℤ pos (b + m) ≡ pos (a + p)
sides-more x t b a m p one rest = omega (arith, ints)

isum-sides : {X : Type 0} (f : X → ℤ) (xs : List X) → isum f xs +ℤ pos (sum_by (λ x. below (f x)) xs) ≡ pos (sum_by (λ x. above (f x)) xs)
isum-sides f [] = refl
isum-sides f (x ∷ xs) =
    ap (λ n. (f x +ℤ isum f xs) +ℤ pos n) (sum_by-cons (λ x. below (f x)) x xs)
    ∙ (sides-more (f x) (isum f xs) (below (f x)) (above (f x)) (sum_by (λ x. below (f x)) xs) (sum_by (λ x. above (f x)) xs)
    (both-sides (f x)) (isum-sides f xs)
    ∙ sym (ap pos (sum_by-cons (λ x. above (f x)) x xs)))

same-sides : (s t : ℤ) (m n p q : ℕ) → s +ℤ pos m ≡ pos p → t +ℤ pos n ≡ pos q → n ≡ m → q ≡ p → s ≡ t
same-sides s t m n p q one other ms ps = omega (arith, ints)

pub isum-permutation : {X : Type 0} (f : X → ℤ) (xs ys : List X) → IsPermutation xs ys → isum f xs ≡ isum f ys
isum-permutation f xs ys moved =
    same-sides (isum f xs) (isum f ys) (sum_by (λ x. below (f x)) xs) (sum_by (λ x. below (f x)) ys)
    (sum_by (λ x. above (f x)) xs) (sum_by (λ x. above (f x)) ys) (isum-sides f xs) (isum-sides f ys)
    (sum_by-IsPermutation (λ x. below (f x)) xs ys moved) (sum_by-IsPermutation (λ x. above (f x)) xs ys moved)
