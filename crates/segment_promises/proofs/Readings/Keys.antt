-- Numbers that are listed under keys: if each key occurs once, and what is held of any key is listed under it, the numbers of a key add up
-- to what is held of it.
use Rattle.segment_invariant.proofs.Prelude.Std.{◌≡◌, ◌≢◌, ◌⊎◌, Bool, true, false, if◌then◌else◌, ℕ, zero, suc, ℤ, List, [], ◌∷◌, map, inl, inr, ⊎_elim, refl, sym, ap, ◌∙◌, sum_by, int_eq, Decides-int_eq, some, some-injective, get_elem?, none_at}
use Rattle.segment_invariant.proofs.Prelude.Machine.{units_listed}
use Rattle.std.specs.List.{zip}
use Rattle.segment_invariant.proofs.Lists.FewTerms.{sum_none, sum_one}
use Rattle.segment_promises.proofs.Counts.{sum_of_map}

-- under another number nothing is counted
pub int_test : (a b : ℤ) (n : ℕ) → a ≢ b → (if int_eq a b then n else 0) ≡ 0
int_test a b n apart = by_test (int_eq a b) (Decides-int_eq a b).0
  where
    by_test : (t : Bool) → (t ≡ true → a ≡ b) → (if t then n else 0) ≡ 0
    by_test true same = absurd (apart (same refl))
    by_test false same = refl

module _ {X : Type 0} (key : X → ℤ) where
  -- an element of a list has a key
  abbrev pub IsUnder : List X → ℤ → Type 0
  IsUnder list k = (i : ℕ) × (x : X) × (get_elem? list i ≡ some x) × (key x ≡ k)

  pub under_or_not : (list : List X) (k : ℤ) → IsUnder list k ⊎ (¬ (IsUnder list k))
  under_or_not [] k = inr (λ (i, x, there, same). none_at i x there)
  under_or_not (x ∷ rest) k = by_first (int_eq (key x) k) (Decides-int_eq (key x) k) (under_or_not rest k)
    where
      behind : (key x ≢ k) → (¬ (IsUnder rest k)) → ¬ (IsUnder (x ∷ rest) k)
      behind apart none (zero, y, there, same) = apart (ap key (some-injective x y there) ∙ same)
      behind apart none (suc i, y, there, same) = none (i, y, there, same)

      by_first : (t : Bool) → (t ≡ true → key x ≡ k) × (key x ≡ k → t ≡ true) → IsUnder rest k ⊎ (¬ (IsUnder rest k))
          → IsUnder (x ∷ rest) k ⊎ (¬ (IsUnder (x ∷ rest) k))
      by_first true test others = inl (0, x, refl, test.0 refl)
      by_first false test (inl (i, y, there, same)) = inl (suc i, y, there, same)
      by_first false test (inr none) = inr (behind (λ same. cc (test.1 same)) none)

  -- each key occurs once, an element has the number that is held of its key, and nothing is held of a key that no element has
  pub record IsListing (number : X → ℕ) (held : ℤ → ℕ) (list : List X) : Type 0 where
    pub apart : (i j : ℕ) (x y : X) → get_elem? list i ≡ some x → get_elem? list j ≡ some y → key x ≡ key y → i ≡ j
    pub holds : (i : ℕ) (x : X) → get_elem? list i ≡ some x → number x ≡ held (key x)
    pub others : (k : ℤ) → ¬ (IsUnder list k) → held k ≡ 0

module _ {X : Type 0} (key : X → ℤ) (number : X → ℕ) (held : ℤ → ℕ) (list : List X) (is : IsListing key number held list) where
  listed_sum : (k : ℤ) → sum_by (λ x. if int_eq (key x) k then number x else 0) list ≡ held k
  listed_sum k = ⊎_elim
      (λ (i, x, there, same).
      sum_one (λ x. if int_eq (key x) k then number x else 0) list i x there
      (λ j y here other. int_test (key y) k (number y) (λ its. other (is.apart j i y x here there (its ∙ sym same))))
      ∙ (ap (λ (t : Bool). if t then number x else 0) ((Decides-int_eq (key x) k).1 same) ∙ (is.holds i x there ∙ ap held same)))
      (λ none.
      sum_none (λ x. if int_eq (key x) k then number x else 0) list (λ j y here _. int_test (key y) k (number y) (λ its. none (j, y, here, its)))
      ∙ sym (is.others k none))
      (under_or_not key list k)

  -- the units of a list of keys, each with its number
  pub units_are_held : (k : ℤ) → units_listed (map (λ x. (key x, number x)) list) k ≡ held k
  units_are_held k = sum_of_map (λ (count : ℤ × ℕ). if int_eq count.0 k then count.1 else 0) (λ x. (key x, number x)) list ∙ listed_sum k

  -- and those of numbers that are listed in place of others under the keys
  beside : (others : X → ℕ) (list : List X) → zip (map (λ (count : ℤ × ℕ). count.0) (map (λ x. (key x, others x)) list)) (map number list) ≡ map (λ x. (key x, number x)) list
  beside others [] = refl
  beside others (x ∷ rest) = ap (λ (l : List (ℤ × ℕ)). (key x, number x) ∷ l) (beside others rest)

  pub marks_are_held : (others : X → ℕ) (k : ℤ)
      → units_listed (zip (map (λ (count : ℤ × ℕ). count.0) (map (λ x. (key x, others x)) list)) (map number list)) k ≡ held k
  marks_are_held others k = ap (λ (l : List (ℤ × ℕ)). units_listed l k) (beside others list) ∙ units_are_held k
