-- The records that the nexts of a copy give: if each next gives the record after it, or ends the list, they are the front of a chain.
use Rattle.segment_invariant.proofs.Prelude.Std.{◌≡◌, ◌⊎◌, ℕ, zero, suc, ◌+◌, ◌-◌, ◌<◌, ◌≤◌, Bool, true, false, List, [], ◌∷◌, ◌++◌, take, drop, length, refl, sym, ap, ◌∙◌, arith, slice_index, if◌then◌else◌, ⊎_elim, dite, ℕ_discrete, subst}
use Rattle.segment_invariant.proofs.Prelude.Machine.{stops, IsPrefix}
use Rattle.std.proofs.Math.Decide.{dec_lt}
use Rattle.std.proofs.Math.Seq.{drop-cons, take-append-add}
use Rattle.std.proofs.lemmas.List.{take-append-drop}
use Rattle.segment_image.specs.Blocks.{is_placed}
use Rattle.segment_image.specs.declared.head.SegmentHead.{SegmentHead}
use Rattle.bucket_ranges.specs.Listed.{next_of}
use Rattle.segment_looks.specs.Looks.{records_from}

module _ (head : SegmentHead) (two chain : List ℕ) where
  -- the next at a place of the chain
  abbrev pub next_at : ℕ → ℕ
  next_at k = next_of two (slice_index (stops chain) k)

  -- it gives the record after it
  pub record Gives (k : ℕ) : Type 0 where
    pub within : k < length chain
    pub is : next_at k ≡ slice_index chain k
    pub placed : is_placed head (slice_index chain k) ≡ true

  -- it ends the list
  abbrev pub Ends : ℕ → Type 0
  Ends k = is_placed head (next_at k) ≡ false

  module _ (least : ℕ) (gives : (k : ℕ) → k < least → Gives k) (leads : (k : ℕ) → k ≤ length chain → Gives k ⊎ Ends k) where
    -- a front of the chain after a place, which reaches as far as all nexts give records
    abbrev Front : ℕ → ℕ → Type 0
    Front most k = (n : ℕ) × (k + n ≤ length chain) × (least ≤ k + n) × (records_from head two most (next_at k) ≡ take n (drop k chain))
        × ((j : ℕ) → k ≤ j → j < k + n → Gives j)

    one_more : (most k : ℕ) → Gives k → Front most (suc k) → Front (suc most) k
    one_more most k g (n, within, enough, is, each) = (
      suc n,
      omega (arith, within),
      omega (arith, enough),
      ap (records_from head two (suc most)) g.is
          ∙ (ap (λ (b : Bool). if b then slice_index chain k ∷ records_from head two most (next_of two (slice_index chain k)) else []) g.placed
          ∙ (ap (λ (rest : List ℕ). slice_index chain k ∷ rest) is ∙ ap (take (suc n)) (sym (drop-cons chain k 0 g.within)))),
      λ j from below. dite (ℕ_discrete j k)
          (λ here. subst Gives (sym here) g)
          (λ behind. each j (omega (arith, from, behind)) (omega (arith, below))),
    )

    at_end : (most k : ℕ) → k ≤ length chain → (k < least → ⊥) → Ends k → Front (suc most) k
    at_end most k le far ends = (
      0,
      omega (arith, le),
      omega (arith, far),
      ap (λ (b : Bool). if b then next_at k ∷ records_from head two most (next_of two (next_at k)) else []) ends,
      λ j from below. absurd (omega (arith, from, below)),
    )

    pub front : (most k : ℕ) → k ≤ length chain → least ≤ k + most → Front most k
    front zero k le few = (0, omega (arith, le), omega (arith, few), refl, λ j from below. absurd (omega (arith, from, below)))
    front (suc most) k le few = elim (dec_lt k least) [
      | yes lt ↦ let g = gives k lt in one_more most k g (front most (suc k) g.within (omega (arith, few)))
      | no far ↦ ⊎_elim
          (λ g. one_more most k g (front most (suc k) g.within (omega (arith, few))))
          (λ ends. at_end most k le far ends)
          (leads k le)
    ]

-- fronts of one list, the one no longer than the other
pub fronts : (one whole rest : List ℕ) (n : ℕ) → whole ≡ one ++ rest → length one ≤ n → IsPrefix one (take n whole)
fronts one whole rest n is le =
    let more : n ≡ length one + (n - length one) = omega (arith, le) in
    (take (n - length one) rest, ap (take n) is ∙ (ap (λ (m : ℕ). take m (one ++ rest)) more ∙ take-append-add one rest (n - length one)))

pub front_of : (n : ℕ) (whole : List ℕ) → IsPrefix (take n whole) whole
front_of n whole = (drop n whole, sym (take-append-drop n whole))
