-- The records of a list, each with those before it, and with one more at the end.
use Rattle.std.proofs.Common.{◌≡◌, ℕ, ◌<◌, List, [], ◌∷◌, ◌++◌, map, length, take, refl, ap, sym, ◌∙◌, arith}
use Rattle.std.specs.Prelude.{slice_index}
use Rattle.std.specs.List.{range_with_len}
use Rattle.std.proofs.lemmas.List.{get_or_push, get_or_append_left, length_push, same_lists, take-append-le, take_all}
use Rattle.std.proofs.lemmas.List.FromFn.{length-map-range_with_len, get_or-map-range_with_len, map-range_with_len_more}
use Rattle.bucket_ranges.specs.Reading.{with_earlier}

-- two functions that agree on the indexes below n
map-range-agree : {X : Type 0} (f g : ℕ → X) (n : ℕ) → ((i : ℕ) → i < n → f i ≡ g i)
    → map f (range_with_len 0 n) ≡ map g (range_with_len 0 n)
map-range-agree f g n same =
    let long : length (map f (range_with_len 0 n)) ≡ n = length-map-range_with_len f 0 n in
    same_lists (map f (range_with_len 0 n)) (map g (range_with_len 0 n))
    (long ∙ sym (length-map-range_with_len g 0 n))
    (λ k d lt.
    let within : k < n = omega (arith, long, lt) in
    get_or-map-range_with_len f 0 n k k d within (omega arith)
    ∙ (same k within ∙ sym (get_or-map-range_with_len g 0 n k k d within (omega arith))))

-- the new one comes after all others, and what comes before each of these is unchanged
pub with_earlier-push : (references : List ℕ) (reference : ℕ)
    → with_earlier (references ++ reference ∷ []) ≡ with_earlier references ++ (references, reference) ∷ []
with_earlier-push references reference =
    let more : List ℕ = references ++ reference ∷ [] in
    let n : ℕ = length references in
    let old : ℕ → List ℕ × ℕ = λ i. (take i references, slice_index references i) in
    let new : ℕ → List ℕ × ℕ = λ i. (take i more, slice_index more i) in
    let all : take n more ≡ references = take-append-le n references (reference ∷ []) (omega arith) ∙ take_all n references (omega arith) in
    let last : slice_index more n ≡ reference = get_or_push references reference 0 n refl in
    ap (λ k. map new (range_with_len 0 k)) (length_push references reference)
    ∙ (map-range_with_len_more new 0 n n (omega arith)
    ∙ (ap (λ xs. xs ++ new n ∷ []) (map-range-agree new old n
    (λ i lt j. (take-append-le i references (reference ∷ []) (omega arith) j, get_or_append_left references (reference ∷ []) 0 i lt j)))
    ∙ (λ j. map old (range_with_len 0 n) ++ (all j, last j) ∷ [])))
