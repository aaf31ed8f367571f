-- A chain of one record, at 16.
use Rattle.segment_invariant.proofs.Prelude.Std.{◌≡◌, ℕ, List, [], ◌∷◌, ◌++◌, length, refl, sym, ap, subst, ◌∙◌, arith, length-append, slice_index}
use Rattle.segment_invariant.proofs.Prelude.Machine.{field_at, name_of}
use Rattle.segment_invariant.proofs.Prelude.Invariant.{IsHistogram}

-- the histogram of its name is that record
pub the_one : (words name : List ℕ) → field_at words 16 2 ≡ 1 → name_of words 16 ≡ name → IsHistogram words (16 ∷ []) name 16
the_one words name tag named = ([], [], refl, λ k d below. absurd (omega (arith, below)), (tag, named))

-- where the record is
places : (front behind : List ℕ) (at : ℕ) → 16 ∷ [] ≡ front ++ at ∷ behind → 16 ≡ at
places [] behind at e = ap (λ list. slice_index list 0) e
places (x ∷ front) behind at e =
    let n = ap length e in
    let m = length-append front (at ∷ behind) in
    absurd (omega (arith, n, m))

-- what holds of it, under its name, holds of each histogram of the chain
pub of_the_one : (words name : List ℕ) (holds : List ℕ → ℕ → Type 0) → name_of words 16 ≡ name → holds name 16
    → (other : List ℕ) (at : ℕ) → IsHistogram words (16 ∷ []) other at → holds other at
of_the_one words name holds named it other at (front, behind, stands, first, its) =
    let e = places front behind at stands in
    let here = subst (λ (k : ℕ). name_of words k ≡ other) (sym e) its.1 in
    subst (λ (k : ℕ). holds other k) e (subst (λ (list : List ℕ). holds list 16) (sym named ∙ here) it)
