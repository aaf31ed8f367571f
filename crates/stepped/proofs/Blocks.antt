-- The first block that is looked for.
use Rattle.std.proofs.Common.{◌≡◌, ℕ, zero, suc, ◌+◌, ◌≤◌, List, length, refl, sym, ap, subst, add-one, arith}
use Rattle.std.specs.Prelude.{Bool, true, false, ◌&&◌, nat_lt, Some, None}
use mathlib.Core.Logic.{dite}
use native.Mathlib.Decide.{ℕ_discrete}
use Rattle.stepped.specs.declared.meaning.Sought.{Sought}
use Rattle.stepped.specs.Meaning.{is_at, is_sought, least, spot}

-- what was found below a bound is found below a greater one
pub least_kept : (test : ℕ → Bool) (n m i : ℕ) → n ≤ m → least test n ≡ Some i → least test m ≡ Some i
least_kept test n zero i near found = let none : n ≡ 0 = omega (arith, near) in subst (λ (k : ℕ). least test k ≡ Some i) none found
least_kept test n (suc m) i near found =
    dite (ℕ_discrete n (suc m)) (λ same. subst (λ (k : ℕ). least test k ≡ Some i) same found)
    (λ apart. let before : least test m ≡ Some i = least_kept test n m i (omega (arith, near, apart)) found in rw before refl)

-- what was not found below a bound, and is at none from there on, is not found
pub least_lacks : (test : ℕ → Bool) (n m : ℕ) → n ≤ m → least test n ≡ None → ((k : ℕ) → n ≤ k → test k ≡ false) → least test m ≡ None
least_lacks test n zero near none later = refl
least_lacks test n (suc m) near none later =
    dite (ℕ_discrete n (suc m)) (λ same. subst (λ (k : ℕ). least test k ≡ None) same none)
    (λ apart. let here : n ≤ m = omega (arith, near, apart) in let before : least test m ≡ None = least_lacks test n m here none later in
    let fails : test m ≡ false = later m here in rw before (rw fails refl))

-- the number at which the test holds is the one
pub least_here : (test : ℕ → Bool) (n : ℕ) → least test n ≡ None → test n ≡ true → least test (suc n) ≡ Some n
least_here test n none holds = rw none (rw holds refl)

-- or none is, so far
pub least_none : (test : ℕ → Bool) (n : ℕ) → least test n ≡ None → test n ≡ false → least test (n + 1) ≡ None
least_none test n none fails = subst (λ (k : ℕ). least test k ≡ None) (sym (add-one n)) (rw none (rw fails refl))

-- spots rise
pub spot_rises : (words : List ℕ) (n m : ℕ) → n ≤ m → spot words n ≤ spot words m
spot_rises words n zero near = let none : 0 ≡ n = omega (arith, near) in let same : spot words 0 ≤ spot words 0 = omega arith in subst (λ (k : ℕ). spot words k ≤ spot words 0) none same
spot_rises words n (suc m) near =
    dite (ℕ_discrete n (suc m)) (λ same. let here : spot words n ≤ spot words n = omega arith in subst (λ (k : ℕ). spot words n ≤ spot words k) same here)
    (λ apart. let before : spot words n ≤ spot words m = spot_rises words n m (omega (arith, near, apart)) in omega (arith, before))

-- after the end of the words there is no block
pub none_behind : (words : List ℕ) (sought : Sought) (n : ℕ) → length words ≤ spot words n → (k : ℕ) → n ≤ k → is_at words sought k ≡ false
none_behind words sought n ended k near =
    let rises : spot words n ≤ spot words k = spot_rises words n k near in
    let far : nat_lt (spot words k) (length words) ≡ false = grind (arith, rises, ended) in ap (λ (b : Bool). b && is_sought words sought (spot words k)) far

-- nor from the last one on, if that is not the one
pub none_from : (words : List ℕ) (sought : Sought) (n : ℕ) → is_at words sought n ≡ false → length words ≤ spot words (suc n) → (k : ℕ) → n ≤ k
    → is_at words sought k ≡ false
none_from words sought n fails ended k near =
    dite (ℕ_discrete n k) (λ same. subst (λ (i : ℕ). is_at words sought i ≡ false) same fails)
    (λ apart. none_behind words sought (suc n) ended k (omega (arith, near, apart)))
