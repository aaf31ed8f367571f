-- One more step of what is written, counted or looked for.
use Rattle.std.proofs.Common.{◌≡◌, ◌∙◌, ℕ, zero, suc, ◌+◌, ◌<◌, Bool, true, false, ◌||◌, cond, List, [], ◌∷◌, ◌++◌, length, take, get_or, Option, Some, None, ap, refl, replicate, arith}
use Rattle.std.specs.List.{flat_map, find, list_any, range_with_len, sum_by}
use Rattle.std.proofs.lemmas.Grind.{replicate_next}
use Rattle.std.proofs.lemmas.List.{take_more}
use Rattle.std.proofs.lemmas.List.Folds.{find-append, list_any-append}
use Rattle.std.proofs.lemmas.List.FromFn.{get_or-range_with_len, length-range_with_len}
use Rattle.std.proofs.lemmas.List.Sums.{sum_by-append}
use Rattle.reading_overviews.proofs.Texts.{flat_map-push, range-more}
use Rattle.reading_shows.specs.Columns.{times}

-- a piece once more
pub times-more : (n : ℕ) (piece : List ℕ) → times (n + 1) piece ≡ times n piece ++ piece
times-more n piece = ap (flat_map (λ one. one)) (replicate_next n piece) ∙ flat_map-push (λ one. one) (replicate n piece) piece

-- the sum with one more number
pub sum-more : (f : ℕ → ℕ) (n : ℕ) → sum_by f (range_with_len 0 (n + 1)) ≡ sum_by f (range_with_len 0 n) + f n
sum-more f n = ap (sum_by f) (range-more n) ∙ (sum_by-append f (range_with_len 0 n) (n ∷ []) ∙ ap (λ k. sum_by f (range_with_len 0 n) + k) (omega arith))

-- a test with one more number
pub none-more : (p : ℕ → Bool) (n : ℕ) → list_any p (range_with_len 0 n) ≡ false → p n ≡ false → list_any p (range_with_len 0 (n + 1)) ≡ false
none-more p n before here =
    ap (list_any p) (range-more n) ∙ (list_any-append p (range_with_len 0 n) (n ∷ []) ∙ (ap (λ b. b || (p n || false)) before ∙ ap (λ b. b || false) here))

-- what holds of an element holds of some
or-true : (b : Bool) → (b || true) ≡ true
or-true true = refl
or-true false = refl

pub any_at : {X : Type 0} (p : X → Bool) (xs : List X) (i : ℕ) (d : X) → i < length xs → p (get_or xs i d) ≡ true → list_any p xs ≡ true
any_at p [] i d h passes = absurd (omega (arith, h))
any_at p (x ∷ xs) zero d h passes = ap (λ b. b || list_any p xs) passes
any_at p (x ∷ xs) (suc i) d h passes = ap (λ b. p x || b) (any_at p xs i d (omega (arith, h)) passes) ∙ or-true (p x)

pub any_in_range : (p : ℕ → Bool) (n i : ℕ) → i < n → p i ≡ true → list_any p (range_with_len 0 n) ≡ true
any_in_range p n i h passes =
    any_at p (range_with_len 0 n) i 0 (rw length-range_with_len h) (ap p (get_or-range_with_len 0 n i 0 h ∙ omega arith) ∙ passes)

-- the first that passes a test is found
found-here : {X : Type 0} (b : Bool) (x : X) (rest : Option X) → b ≡ true → cond b (Some x) rest ≡ Some x
found-here true x rest passes = refl
found-here false x rest passes = absurd (cc passes)

found-later : {X : Type 0} (b : Bool) (x : X) (before rest : Option X) (y : X) → cond b (Some x) before ≡ None → (before ≡ None → rest ≡ Some y) → cond b (Some x) rest ≡ Some y
found-later true x before rest y none h = absurd (cc none)
found-later false x before rest y none h = h none

pub found_at : {X : Type 0} (p : X → Bool) (xs : List X) (i : ℕ) (d : X) → i < length xs → find p (take i xs) ≡ None → p (get_or xs i d) ≡ true → find p xs ≡ Some (get_or xs i d)
found_at p [] i d h none passes = absurd (omega (arith, h))
found_at p (x ∷ xs) zero d h none passes = found-here (p x) x (find p xs) passes
found_at p (x ∷ xs) (suc i) d h none passes =
    found-later (p x) x (find p (take i xs)) (find p xs) (get_or xs i d) none (λ before. found_at p xs i d (omega (arith, h)) before passes)

-- what is not found is still not found after one more element that fails
pub unfound-more : {X : Type 0} (p : X → Bool) (xs : List X) (i : ℕ) (d : X) → i < length xs → find p (take i xs) ≡ None → p (get_or xs i d) ≡ false → find p (take (i + 1) xs) ≡ None
unfound-more p xs i d h none fails = cc (take_more xs i d h, find-append p (take i xs) (get_or xs i d ∷ []), none, fails)
