-- How often a segment is in lists, and what of them is not named.
use Rattle.std.proofs.Common.{◌≡◌, ℕ, ◌+◌, ◌≤◌, ◌<◌, Bool, true, false, not, cond, ◌&&◌, ◌||◌, ◌==◌, ◌⊎◌, inl, inr, List, [], ◌∷◌, ◌++◌, ap, sym, ◌∙◌, subst, arith, refl}
use Rattle.std.specs.List.{count_by, filter, list_any}
use Rattle.std.proofs.lemmas.Bool.{cases_Bool, and_parts, and_from, eqb-true, eq-eqb, not_from_true, not_from_false, both_ways, false_from_ne_true}
use Rattle.std.proofs.lemmas.List.Sums.{sum_by-cons, sum_by-append}
use Rattle.recording_folders.specs.Segments.{is_same, times, is_named, unnamed}

-- ---- segments

pair_same : (a b : ℕ × ℕ) → a.0 ≡ b.0 → a.1 ≡ b.1 → a ≡ b
pair_same a b p q = ap (λ (n : ℕ). let pair : ℕ × ℕ = (n, a.1) in pair) p ∙ ap (λ (n : ℕ). let pair : ℕ × ℕ = (b.0, n) in pair) q

-- what is the same by the test is the same
pub same_is : (a b : ℕ × ℕ) → is_same a b ≡ true → a ≡ b
same_is a b h =
    let parts = and_parts (a.0 == b.0) (a.1 == b.1) h in
    pair_same a b (eqb-true a.0 b.0 parts.0) (eqb-true a.1 b.1 parts.1)

pub same_self : (a : ℕ × ℕ) → is_same a a ≡ true
same_self a = and_from (a.0 == a.0) (a.1 == a.1) (eq-eqb a.0 a.0 refl) (eq-eqb a.1 a.1 refl)

-- ---- counts of what a test keeps

count_cons : {X : Type 0} (p : X → Bool) (x : X) (xs : List X) → count_by p (x ∷ xs) ≡ cond (p x) 1 0 + count_by p xs
count_cons p x xs = sum_by-cons (λ y. cond (p y) 1 0) x xs

count_cons_no : {X : Type 0} (p : X → Bool) (x : X) (xs : List X) → p x ≡ false → count_by p (x ∷ xs) ≡ count_by p xs
count_cons_no p x xs unlike =
    let e : ◌≡◌ {A = ℕ} (cond (p x) 1 0) 0 = ap (λ b. cond b 1 0) unlike in
    omega (arith, count_cons p x xs, e)

pub count_cons_yes : {X : Type 0} (p : X → Bool) (x : X) (xs : List X) → p x ≡ true → count_by p (x ∷ xs) ≡ 1 + count_by p xs
count_cons_yes p x xs alike =
    let e : ◌≡◌ {A = ℕ} (cond (p x) 1 0) 1 = ap (λ b. cond b 1 0) alike in
    omega (arith, count_cons p x xs, e)

none_step : {X : Type 0} (p : X → Bool) (x : X) (rest : List X) (kept : Bool) → (kept ≡ true → p x ≡ false) → count_by p rest ≡ 0
    → count_by p (cond kept (x ∷ rest) rest) ≡ 0
none_step p x rest true unlike e = count_cons_no p x rest (unlike refl) ∙ e
none_step p x rest false unlike e = e

pub filter_none : {X : Type 0} (p q : X → Bool) → ((x : X) → q x ≡ true → p x ≡ false) → (xs : List X) → count_by p (filter q xs) ≡ 0
filter_none p q unlike [] = refl
filter_none p q unlike (x ∷ xs) = none_step p x (filter q xs) (q x) (unlike x) (filter_none p q unlike xs)

all_step : {X : Type 0} (p : X → Bool) (x : X) (rest xs : List X) (kept : Bool) → (kept ≡ false → p x ≡ false) → count_by p rest ≡ count_by p xs
    → count_by p (cond kept (x ∷ rest) rest) ≡ count_by p (x ∷ xs)
all_step p x rest xs true unlike e = count_cons p x rest ∙ ap (λ n. cond (p x) 1 0 + n) e ∙ sym (count_cons p x xs)
all_step p x rest xs false unlike e = e ∙ sym (count_cons_no p x xs (unlike refl))

pub filter_all : {X : Type 0} (p q : X → Bool) → ((x : X) → q x ≡ false → p x ≡ false) → (xs : List X) → count_by p (filter q xs) ≡ count_by p xs
filter_all p q unlike [] = refl
filter_all p q unlike (x ∷ xs) = all_step p x (filter q xs) xs (q x) (unlike x) (filter_all p q unlike xs)

le_step : {X : Type 0} (p : X → Bool) (x : X) (rest xs : List X) (kept : Bool) → count_by p rest ≤ count_by p xs
    → count_by p (cond kept (x ∷ rest) rest) ≤ count_by p (x ∷ xs)
le_step p x rest xs true e = omega (arith, count_cons p x rest, count_cons p x xs)
le_step p x rest xs false e = omega (arith, count_cons p x xs)

pub filter_le : {X : Type 0} (p q : X → Bool) (xs : List X) → count_by p (filter q xs) ≤ count_by p xs
filter_le p q [] = omega arith
filter_le p q (x ∷ xs) = le_step p x (filter q xs) xs (q x) (filter_le p q xs)

-- ---- names

-- what is in a list is found in it, and what is found is in it
pub named_times : (names : List (ℕ × ℕ)) (s : ℕ × ℕ) → is_named names s ≡ true → 0 < times s names
named_times [] s h = absurd (both_ways false refl h)
named_times (x ∷ names) s h =
    elim (cases_Bool (is_same s x)) [
      | inl alike ↦ omega (arith, count_cons_yes (is_same s) x names alike)
      | inr unlike ↦ omega (arith, count_cons_no (is_same s) x names unlike, named_times names s (ap (λ b. b || is_named names s) (sym unlike) ∙ h))
    ]

pub times_named : (names : List (ℕ × ℕ)) (s : ℕ × ℕ) → 0 < times s names → is_named names s ≡ true
times_named [] s h = absurd (omega arith)
times_named (x ∷ names) s h =
    elim (cases_Bool (is_same s x)) [
      | inl alike ↦ ap (λ b. b || is_named names s) alike
      | inr unlike ↦ ap (λ b. b || is_named names s) unlike ∙ times_named names s (omega (arith, count_cons_no (is_same s) x names unlike))
    ]

-- ---- what is not named

pub named_is_left_out : (names segments : List (ℕ × ℕ)) (s : ℕ × ℕ) → is_named names s ≡ true → times s (unnamed names segments) ≡ 0
named_is_left_out names segments s named =
    filter_none (is_same s) (λ x. not (is_named names x))
    (λ x kept. false_from_ne_true (is_same s x) (λ same. both_ways (not (is_named names x)) (not_from_true (is_named names x) (ap (is_named names) (sym (same_is s x same)) ∙ named)) kept))
    segments

pub other_is_kept : (names segments : List (ℕ × ℕ)) (s : ℕ × ℕ) → is_named names s ≡ false → times s (unnamed names segments) ≡ times s segments
other_is_kept names segments s other =
    filter_all (is_same s) (λ x. not (is_named names x))
    (λ x left. false_from_ne_true (is_same s x) (λ same. both_ways (not (is_named names x)) left (not_from_false (is_named names x) (ap (is_named names) (sym (same_is s x same)) ∙ other))))
    segments

pub times_append : (s : ℕ × ℕ) (xs ys : List (ℕ × ℕ)) → times s (xs ++ ys) ≡ times s xs + times s ys
times_append s xs ys = sum_by-append (λ x. cond (is_same s x) 1 0) xs ys

pub times_cons_yes : (s x : ℕ × ℕ) (xs : List (ℕ × ℕ)) → is_same s x ≡ true → times s (x ∷ xs) ≡ 1 + times s xs
times_cons_yes s x xs alike = count_cons_yes (is_same s) x xs alike

pub times_cons_no : (s x : ℕ × ℕ) (xs : List (ℕ × ℕ)) → is_same s x ≡ false → times s (x ∷ xs) ≡ times s xs
times_cons_no s x xs unlike = count_cons_no (is_same s) x xs unlike
