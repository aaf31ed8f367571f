-- Lists of numbers that are less.
use Rattle.std.proofs.Common.{◌≡◌, ◌⊎◌, ℕ, zero, suc, ◌+◌, ◌<◌, ◌≤◌, ◌==◌, ◌||◌, ◌&&◌, Bool, true, true≢false, List, [], ◌∷◌, length, inl, inr, ⊎_elim, sym, ap, subst, arith, eq-eqb}
use Rattle.std.specs.Prelude.{nat_lt}
use Rattle.std.proofs.lemmas.Bool.{and_from, and_parts, eqb-true, lt-ltb, ltb-true, or_cases, or_right}
use Rattle.hist_core.specs.Left.{is_less}

pub less_first : (x y : ℕ) (xs ys : List ℕ) → x < y → is_less (x ∷ xs) (y ∷ ys) ≡ true
less_first x y xs ys below = ap (λ (b : Bool). b || ((x == y) && is_less xs ys)) (lt-ltb x y below)

pub less_next : (x y : ℕ) (xs ys : List ℕ) → x ≡ y → is_less xs ys ≡ true → is_less (x ∷ xs) (y ∷ ys) ≡ true
less_next x y xs ys same less = or_right (nat_lt x y) ((x == y) && is_less xs ys) (and_from (x == y) (is_less xs ys) (eq-eqb x y same) less)

-- ---- they end

first : List ℕ → ℕ
first [] = 0
first (x ∷ xs) = x

rest : List ℕ → List ℕ
rest [] = []
rest (x ∷ xs) = xs

-- how the one is less: by its first number, or by the others
less_by : (a b : List ℕ) → is_less a b ≡ true → (first a < first b) ⊎ ((first a ≡ first b) × (is_less (rest a) (rest b) ≡ true))
unfolding first rest
less_by [] b less = absurd (true≢false (sym less))
less_by (x ∷ xs) [] less = absurd (true≢false (sym less))
less_by (x ∷ xs) (y ∷ ys) less = ⊎_elim
    (λ below. inl (ltb-true x y below))
    (λ both. let parts = and_parts (x == y) (is_less xs ys) both in inr (eqb-true x y parts.0, parts.1))
    (or_cases (nat_lt x y) ((x == y) && is_less xs ys) less)

rest_long : (size : ℕ) (a : List ℕ) → length a ≡ suc size → length (rest a) ≡ size
unfolding rest
rest_long size [] long = absurd (omega (arith, long))
rest_long size (x ∷ xs) long = omega (arith, long)

-- no lists of this length are each less than the one before for ever
abbrev pub Ends : ℕ → Type 0
Ends size = (lists : ℕ → List ℕ) → ((n : ℕ) → length (lists n) ≡ size) → ((n : ℕ) → is_less (lists (suc n)) (lists n) ≡ true) → ⊥

module _ (size : ℕ) (shorter : Ends size) (lists : ℕ → List ℕ) (long : (n : ℕ) → length (lists n) ≡ suc size)
    (less : (n : ℕ) → is_less (lists (suc n)) (lists n) ≡ true) where
  -- the first numbers do not rise
  falls : (n k : ℕ) → first (lists (k + n)) ≤ first (lists n)
  falls n zero = let e = ap (λ (m : ℕ). first (lists m)) (let i : 0 + n ≡ n = omega arith in i) in omega (arith, e)
  falls n (suc k) =
      let most = falls n k in
      let e = ap (λ (m : ℕ). first (lists m)) (let i : suc k + n ≡ suc (k + n) = omega arith in i) in
      ⊎_elim (λ below. omega (arith, most, e, below)) (λ both. let same = both.0 in omega (arith, most, e, same)) (less_by (lists (suc (k + n))) (lists (k + n)) (less (k + n)))

  same_place : (n k : ℕ) → suc k + n ≡ suc (k + n)
  same_place n k = omega arith

  -- from any place on one of them is less
  level : (n : ℕ) → ((k : ℕ) → first (lists (suc (k + n))) < first (lists (k + n)) → ⊥) → ⊥
  level n stays = shorter (λ k. rest (lists (k + n))) (λ k. rest_long size (lists (k + n)) (long (k + n))) (λ k. ⊎_elim
      (λ lower. absurd (stays k lower))
      (λ both. subst (λ (m : ℕ). is_less (rest (lists m)) (rest (lists (k + n))) ≡ true) (sym (same_place n k)) both.1)
      (less_by (lists (suc (k + n))) (lists (k + n)) (less (k + n))))

  none : (bound n : ℕ) → first (lists n) ≤ bound → ⊥
  none zero n low = level n (λ k lower. let most = falls n k in omega (arith, lower, most, low))
  none (suc bound) n low = level n (λ k lower. let most = falls n k in none bound (suc (k + n)) (omega (arith, lower, most, low)))

pub ends : (size : ℕ) → Ends size
ends zero lists long less = by (lists 1) (lists 0) (long 1) (less 0)
  where
    by : (a b : List ℕ) → length a ≡ 0 → is_less a b ≡ true → ⊥
    by [] b short is = true≢false (sym is)
    by (x ∷ xs) b short is = omega (arith, short)
ends (suc size) lists long less = none size (ends size) lists long less (first (lists 0)) 0 (omega arith)
