-- Which keys are the buckets of a spec.
use Rattle.std.proofs.Common.{◌≡◌, ◌<◌, ◌≤◌, ℕ, ℤ, pos, List, map, take, length, get_or, ap, sym, ◌∙◌, arith}
use Rattle.std.proofs.lemmas.List.{get_or-map, get_or-take, length-take-le}
use Rattle.reading_sums.specs.declared.key.KeySum.{KeySum}
use Rattle.reading_sums.specs.Whole.{values_of}

-- one bucket
pub bucket-here : (keys : List KeySum) (bounds : List ℕ) (i n : ℕ) (d : KeySum) → i < length keys → i < n → n ≤ length bounds
    → values_of keys ≡ map pos (take n bounds) → (get_or keys i d).value ≡ pos (get_or bounds i 0)
bucket-here keys bounds i n d within below short same =
    let long : length (take n bounds) ≡ n = length-take-le n bounds short in
    sym (get_or-map (λ (key : KeySum). key.value) keys i d (pos 0) within)
    ∙ (ap (λ (l : List ℤ). get_or l i (pos 0)) same
    ∙ (get_or-map pos (take n bounds) i 0 (pos 0) (omega (arith, long, below)) ∙ ap pos (get_or-take n bounds i 0 below)))
