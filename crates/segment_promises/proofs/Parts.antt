-- The tallies of the parts of a list add up to that of the list, whatever is added up.
use Rattle.segment_invariant.proofs.Prelude.Std.{◌≡◌, ◌≢◌, ℕ, zero, suc, ◌+◌, ◌%◌, ◌<◌, ◌≤◌, Bool, true, false, ◌&&◌, eq-eqb, ne_eqb, ℤ, pos, ◌+ℤ◌, List, [], ◌∷◌, map, refl, sym, ap, ◌∙◌, arith, dite, ℕ_discrete, if◌then◌else◌, fold, sum_by, range_with_len, filter, +ℤ_idl, sum_by-cons, int_eq}
use Rattle.segment_invariant.proofs.Prelude.Machine.{Entry, is_of}
use Rattle.std.proofs.Common.{eqb}
use Rattle.std.specs.List.{enumerate_from}
use Rattle.list_lemmas.proofs.Sums.{IsAddition, numbers, amounts, amounts_total}
use Rattle.segment_promises.specs.Tallies.{part, PartsAddUp}

-- ---- whatever is added up

module _ {M : Type 0} (nothing : M) (add : M → M → M) (is : IsAddition ◌≡◌ add) (left : (x : M) → add nothing x ≡ x) where
  -- the sum of what a function gives of a list
  abbrev pub total : {X : Type 0} → (X → M) → List X → M
  total f [] = nothing
  total f (x ∷ xs) = add (f x) (total f xs)

  pub total_same : {X : Type 0} (f g : X → M) → ((x : X) → f x ≡ g x) → (xs : List X) → total f xs ≡ total g xs
  total_same f g same [] = refl
  total_same f g same (x ∷ xs) = is.both _ _ _ _ (same x) (total_same f g same xs)

  pub total_nothing : {X : Type 0} (xs : List X) → total (λ (x : X). nothing) xs ≡ nothing
  total_nothing [] = refl
  total_nothing (x ∷ xs) = left _ ∙ total_nothing xs

  -- of two summands the sums add up
  crossed : (a b c d : M) → add (add a b) (add c d) ≡ add (add a c) (add b d)
  crossed a b c d =
      is.brackets a b (add c d) ∙ ap (add a) (sym (is.brackets b c d) ∙ ap (λ x. add x d) (is.order b c) ∙ is.brackets c b d)
      ∙ sym (is.brackets a c (add b d))

  pub total_both : {X : Type 0} (f g : X → M) (xs : List X) → total (λ x. add (f x) (g x)) xs ≡ add (total f xs) (total g xs)
  total_both f g [] = sym (left nothing)
  total_both f g (x ∷ xs) = ap (add (add (f x) (g x))) (total_both f g xs) ∙ crossed (f x) (g x) (total f xs) (total g xs)

  -- what one number alone of a row has
  abbrev pub alone : ℕ → M → ℕ → M
  alone m x k = if eqb m k then x else nothing

  pub is_alone : (m k : ℕ) (x : M) → m ≡ k → alone m x k ≡ x
  is_alone m k x e = λ i. if eq-eqb m k e i then x else nothing

  pub not_alone : (m k : ℕ) (x : M) → m ≢ k → alone m x k ≡ nothing
  not_alone m k x ne = λ i. if ne_eqb m k ne i then x else nothing

  before_row : (m a n : ℕ) (x : M) → m < a → total (alone m x) (range_with_len a n) ≡ nothing
  before_row m a zero x less = refl
  before_row m a (suc n) x less =
      ap (λ y. add y (total (alone m x) (range_with_len (a + 1) n))) (not_alone m a x (λ e. omega (arith, less, e)))
      ∙ (left _ ∙ before_row m (a + 1) n x (omega (arith, less)))

  pub in_row : (m a n : ℕ) (x : M) → a ≤ m → m < a + n → total (alone m x) (range_with_len a n) ≡ x
  in_row m a zero x least less = absurd (omega (arith, least, less))
  in_row m a (suc n) x least less = dite (ℕ_discrete m a)
      (λ e. is.both _ _ _ _ (is_alone m a x e) (before_row m (a + 1) n x (omega (arith, e))) ∙ (is.order x nothing ∙ left x))
      (λ ne. ap (λ y. add y (total (alone m x) (range_with_len (a + 1) n))) (not_alone m a x ne)
      ∙ (left _ ∙ in_row m (a + 1) n x (omega (arith, least, ne)) (omega (arith, less))))

  -- ---- parts of a list

  module _ {X : Type 0} (n : ℕ) (some : 0 < n) (g : X → M) where
    -- a part of a list whose first element has a number
    abbrev part_from : ℕ → ℕ → List X → List X
    part_from i k list = map (λ (numbered : ℕ × X). numbered.1) (filter (λ (numbered : ℕ × X). eqb (numbered.0 % n) k) (enumerate_from i list))

    longer : (i k : ℕ) (x : X) (rest : List X)
        → total g (part_from i k (x ∷ rest)) ≡ add (alone (i % n) (g x) k) (total g (part_from (i + 1) k rest))
    longer i k x rest = by (eqb (i % n) k)
      where
        others : List (ℕ × X)
        others = filter (λ (numbered : ℕ × X). eqb (numbered.0 % n) k) (enumerate_from (i + 1) rest)

        by : (b : Bool) → total g (map (λ (numbered : ℕ × X). numbered.1) (if b then (i, x) ∷ others else others))
            ≡ add (if b then g x else nothing) (total g (map (λ (numbered : ℕ × X). numbered.1) others))
        by true = refl
        by false = sym (left _)

    parts_from : (i : ℕ) (list : List X) → total (λ k. total g (part_from i k list)) (range_with_len 0 n) ≡ total g list
    parts_from i [] = total_nothing (range_with_len 0 n)
    parts_from i (x ∷ rest) =
        total_same _ _ (λ k. longer i k x rest) (range_with_len 0 n)
        ∙ (total_both (alone (i % n) (g x)) (λ k. total g (part_from (i + 1) k rest)) (range_with_len 0 n)
        ∙ is.both _ _ _ _ (in_row (i % n) 0 n (g x) (omega arith) (omega (arith, some))) (parts_from (i + 1) rest))

    pub parts : (list : List X) → total (λ k. total g (part n k list)) (range_with_len 0 n) ≡ total g list
    parts list = parts_from 0 list

-- ---- numbers and amounts

pub zero_left : (n : ℕ) → 0 + n ≡ n
zero_left n = omega arith

pub total_of_numbers : {X : Type 0} (f : X → ℕ) (xs : List X) → sum_by f xs ≡ total 0 ◌+◌ numbers zero_left f xs
total_of_numbers f [] = refl
total_of_numbers f (x ∷ xs) = sum_by-cons f x xs ∙ ap (λ (n : ℕ). f x + n) (total_of_numbers f xs)

pub total_of_amounts : {X : Type 0} (f : X → ℤ) (xs : List X) → fold ◌+ℤ◌ (pos 0) (map f xs) ≡ total (pos 0) ◌+ℤ◌ amounts +ℤ_idl f xs
total_of_amounts f [] = refl
total_of_amounts f (x ∷ xs) =
    amounts_total f (x ∷ []) xs ∙ ap (λ (z : ℤ). z +ℤ fold ◌+ℤ◌ (pos 0) (map f xs)) (+ℤ_idl (f x)) ∙ ap (λ (z : ℤ). f x +ℤ z) (total_of_amounts f xs)

-- the sum over parts of numbers
numbers_of_parts : (n : ℕ) → 0 < n → (g : Entry → ℕ) (entries : List Entry)
    → sum_by (λ k. sum_by g (part n k entries)) (range_with_len 0 n) ≡ sum_by g entries
numbers_of_parts n some g entries =
    total_of_numbers _ (range_with_len 0 n)
    ∙ (total_same 0 ◌+◌ numbers zero_left _ _ (λ k. total_of_numbers g (part n k entries)) (range_with_len 0 n)
    ∙ (parts 0 ◌+◌ numbers zero_left n some g entries ∙ sym (total_of_numbers g entries)))

pub parts_add_up : PartsAddUp
parts_add_up n entries name some = (
  λ key. numbers_of_parts n some (λ e. if is_of name e && int_eq e.key key then e.units else 0) entries,
  total_of_amounts _ (range_with_len 0 n)
      ∙ (total_same (pos 0) ◌+ℤ◌ amounts +ℤ_idl _ _ (λ k. total_of_amounts amount (part n k entries)) (range_with_len 0 n)
      ∙ (parts (pos 0) ◌+ℤ◌ amounts +ℤ_idl n some amount entries ∙ sym (total_of_amounts amount entries))),
  numbers_of_parts n some (λ e. if is_of name e then e.units else 0) entries,
)
  where
    amount : Entry → ℤ
    amount e = if is_of name e then e.amount else pos 0
