-- Words have one chain.
use Rattle.segment_invariant.proofs.Prelude.Std.{◌≡◌, ℕ, zero, suc, ◌+◌, ◌<◌, ◌≤◌, List, length, inl, inr, refl, sym, ap, ◌∙◌, arith, slice_index, cases_order}
use Rattle.segment_invariant.proofs.Prelude.Machine.{word_at, stops, IsLinked}
use Rattle.std.proofs.lemmas.List.{ext_get_or}
use Rattle.list_core.proofs.Chains.{no_queue, next_inside, next_last}

same_stops : (words a b : List ℕ) → IsLinked words a → IsLinked words b → (i : ℕ) → i ≤ length a → i ≤ length b
    → slice_index (stops a) i ≡ slice_index (stops b) i
same_stops words a b first second zero low high = refl
same_stops words a b first second (suc i) low high =
    sym (next_inside words a i first (omega (arith, low)))
    ∙ ap (λ (at : ℕ). word_at words (at + 3)) (same_stops words a b first second i (omega (arith, low)) (omega (arith, high)))
    ∙ next_inside words b i second (omega (arith, high))

-- none ends before another
no_shorter : (words a b : List ℕ) → IsLinked words a → IsLinked words b → length a < length b → ⊥
no_shorter words a b first second less =
    no_queue words b (length a) second less
    (sym (next_inside words b (length a) second less)
    ∙ ap (λ (at : ℕ). word_at words (at + 3)) (sym (same_stops words a b first second (length a) (omega arith) (omega (arith, less))))
    ∙ next_last words a first)

pub one_chain : (words a b : List ℕ) → IsLinked words a → IsLinked words b → a ≡ b
one_chain words a b first second = ext_get_or 0 a b as_long
    (λ i below. same_stops words a b first second (suc i) (omega (arith, below)) (omega (arith, below, as_long)))
  where
    as_long : length a ≡ length b
    as_long = elim (cases_order (length a) (length b)) [
      | inl here ↦ here
      | inr apart ↦ elim apart [
        | inl less ↦ absurd (no_shorter words a b first second less)
        | inr more ↦ absurd (no_shorter words b a second first more)
      ]
    ]
