-- Lists that a loop makes over an index.
use Rattle.std.proofs.Common.{◌≡◌, ℕ, ◌+◌, List, [], ◌∷◌, ◌++◌, map, ap, sym, ◌∙◌, arith}
use Rattle.std.specs.List.{range_with_len}
use Rattle.std.proofs.lemmas.List.FromFn.{map-range_with_len_more}

-- a loop that puts the values of a function of the index one after the other
pub map-range-push : {X : Type 0} (f : ℕ → X) (i : ℕ) (old new : List X) (x : X) → old ≡ map f (range_with_len 0 i)
    → new ≡ old ++ x ∷ [] → x ≡ f i → new ≡ map f (range_with_len 0 (i + 1))
map-range-push f i old new x before pushed value =
    pushed ∙ (ap (λ xs. xs ++ x ∷ []) before ∙ (ap (λ y. map f (range_with_len 0 i) ++ y ∷ []) value
    ∙ sym (map-range_with_len_more f 0 i i (omega arith))))
