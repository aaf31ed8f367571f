-- How far along a chain a block occurs for the last time.
use Rattle.segment_invariant.proofs.Prelude.Std.{◌≡◌, ◌⊎◌, ⊎_elim, ℕ, zero, suc, ◌+◌, ◌-◌, ◌<◌, ◌≤◌, ◌==◌, Bool, true, false, List, [], ◌∷◌, ◌++◌, length, slice_index, inl, inr, refl, sym, ap, subst, ◌∙◌, arith, length-append, eq-eqb, eqb-true, if◌then◌else◌, nat_lt, lt-ltb, ltb-true, ltb-false, dite, ℕ_discrete}
use Rattle.segment_invariant.proofs.Prelude.Machine.{stops}
use Rattle.list_core.specs.Walk.{stands_behind}
use Rattle.list_core.proofs.Walks.{place_of}
use Rattle.segment_promises.specs.Values.{NoRepeats}

-- the number of elements up to the last one that is this, and with it; 0 if none is
abbrev pub last_of : List ℕ → ℕ → ℕ
last_of [] at = 0
last_of (x ∷ rest) at = if nat_lt 0 (last_of rest at) then suc (last_of rest at) else (if x == at then 1 else 0)

pub last_most : (chain : List ℕ) (at : ℕ) → last_of chain at ≤ length chain
last_most [] at = omega arith
last_most (x ∷ rest) at = by (nat_lt 0 (last_of rest at)) (x == at) (last_most rest at)
  where
    by : (some_there here : Bool) → last_of rest at ≤ length rest → (if some_there then suc (last_of rest at) else (if here then 1 else 0)) ≤ suc (length rest)
    by true here most = omega (arith, most)
    by false true most = omega arith
    by false false most = omega arith

-- the last one is no earlier than a place where there is one
pub last_least : (chain : List ℕ) (k at : ℕ) → k < length chain → slice_index chain k ≡ at → k < last_of chain at
last_least [] k at inside is = absurd (omega (arith, inside))
last_least (x ∷ rest) zero at inside is = by (nat_lt 0 (last_of rest at)) (x == at) (eq-eqb x at is)
  where
    by : (some_there here : Bool) → here ≡ true → 0 < (if some_there then suc (last_of rest at) else (if here then 1 else 0))
    by true here e = omega arith
    by false true e = omega arith
    by false false e = absurd (cc e)
last_least (x ∷ rest) (suc k) at inside is =
    let least = last_least rest k at (omega (arith, inside)) is in
    subst (λ (b : Bool). suc k < (if b then suc (last_of rest at) else (if x == at then 1 else 0))) (sym (lt-ltb 0 (last_of rest at) (omega (arith, least))))
    (omega (arith, least))

-- what is there last is there
pub last_there : (chain : List ℕ) (at n : ℕ) → last_of chain at ≡ suc n → (n < length chain) × (slice_index chain n ≡ at)
last_there [] at n is = absurd (omega (arith, is))
last_there (x ∷ rest) at n is = by (nat_lt 0 (last_of rest at)) (x == at) refl refl (last_there rest at (n - 1)) is
  where
    by : (some_there here : Bool) → nat_lt 0 (last_of rest at) ≡ some_there → (x == at) ≡ here
        → (last_of rest at ≡ suc (n - 1) → (n - 1 < length rest) × (slice_index rest (n - 1) ≡ at))
        → (if some_there then suc (last_of rest at) else (if here then 1 else 0)) ≡ suc n → (n < length (x ∷ rest)) × (slice_index (x ∷ rest) n ≡ at)
    by true here e f behind is =
        let some_there = ltb-true 0 (last_of rest at) e in
        let (inside, there) = behind (omega (arith, is, some_there)) in
        let place : n ≡ suc (n - 1) = omega (arith, is, some_there) in
        (omega (arith, inside, place), ap (slice_index (x ∷ rest)) place ∙ there)
    by false true e f behind is =
        let place : n ≡ 0 = omega (arith, is) in
        (omega (arith, place), ap (slice_index (x ∷ rest)) place ∙ eqb-true x at f)
    by false false e f behind is = absurd (omega (arith, is))

below_or : (m n : ℕ) → (m < n) ⊎ (n ≤ m)
below_or m n = by (nat_lt m n) refl
  where
    by : (b : Bool) → nat_lt m n ≡ b → (m < n) ⊎ (n ≤ m)
    by true e = inl (ltb-true m n e)
    by false e = inr (ltb-false m n e)

-- if no block occurs twice, a walk has come as far as the block where it is
pub last_stands : (given rest chain : List ℕ) → chain ≡ given ++ rest → NoRepeats chain → last_of chain (stands_behind given) ≤ length given
last_stands given rest chain is once = by (last_of chain (stands_behind given)) refl
  where
    long : length chain ≡ length given + length rest
    long = ap length is ∙ length-append given rest

    by : (k : ℕ) → last_of chain (stands_behind given) ≡ k → last_of chain (stands_behind given) ≤ length given
    by zero none = omega (arith, none)
    by (suc n) there = dite (ℕ_discrete (suc n) (length given))
        (λ same. omega (arith, there, same))
        (λ apart.
        let (inside, stands) = last_there chain (stands_behind given) n there in
        let place : stands_behind given ≡ slice_index (stops chain) (length given) = sym (place_of given rest chain is) in
        let both : slice_index (stops chain) (suc n) ≡ slice_index (stops chain) (length given) = stands ∙ place in
        ⊎_elim (λ before. absurd (once (suc n) (length given) before (omega (arith, long)) both))
        (λ behind. absurd (once (length given) (suc n) (omega (arith, behind, apart)) (omega (arith, inside)) (sym both)))
        (below_or (suc n) (length given)))
