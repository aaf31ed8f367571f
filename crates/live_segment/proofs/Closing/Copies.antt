-- The words of a closed table, copied into a row one by one.
use Rattle.std.proofs.Common.{◌≡◌, ℕ, zero, suc, ◌+◌, ◌<◌, List, [], ◌∷◌, length, take, drop, set, sym, ap, ap₂, ◌∙◌, arith}
use mathlib.Core.Option.{some, some-injective, some-ne-none}
use lib.ListN.{get_elem?}

copied_at : (row words : List ℕ) (i x : ℕ) → i < length row → get_elem? words i ≡ some x → take i row ≡ take i words
    → take (suc i) (set row i x) ≡ take (suc i) words
copied_at [] words i x lt at same = absurd (omega arith)
copied_at (y ∷ ys) [] i x lt at same = absurd (some-ne-none x (sym at))
copied_at (y ∷ ys) (w ∷ ws) zero x lt at same = ap (λ (n : ℕ). n ∷ []) (sym (some-injective w x at))
copied_at (y ∷ ys) (w ∷ ws) (suc i) x lt at same =
    let both : y ∷ take i ys ≡ w ∷ take i ws = same in
    let head : y ≡ w = cc in
    let tail : take i ys ≡ take i ws = cc in
    ap₂ (λ (n : ℕ) (l : List ℕ). n ∷ l) head (copied_at ys ws i x (omega arith) at tail)

-- one more word of those after the first
pub copied : (row words : List ℕ) (i x : ℕ) → i < length row → get_elem? words (i + 1) ≡ some x → take i row ≡ take i (drop 1 words)
    → take (i + 1) (set row i x) ≡ take (i + 1) (drop 1 words)
copied row [] i x lt at same = absurd (some-ne-none x (sym at))
copied row (w ∷ ws) i x lt at same =
    let e : i + 1 ≡ suc i = omega arith in
    ap (λ (n : ℕ). take n (set row i x)) e ∙ copied_at row ws i x lt (ap (get_elem? (w ∷ ws)) (sym e) ∙ at) same
    ∙ ap (λ (n : ℕ). take n ws) (sym e)
