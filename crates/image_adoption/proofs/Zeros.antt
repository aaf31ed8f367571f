-- Words that are all 0.
use Rattle.std.proofs.Common.{◌≡◌, ℕ, ◌+◌, ◌-◌, ◌<◌, ◌≤◌, List, length, drop, get_or, refl, sym, ap, ◌∙◌, arith, length-drop, length-take}
use Rattle.std.specs.Prelude.{◌==◌, Decides}
use Rattle.std.specs.List.{list_all, slice_range}
use Rattle.std.proofs.lemmas.Bool.Decides.{Decides-eqb, Decides-like, Decides-by_and}
use Rattle.std.proofs.lemmas.List.{get_or_default, get_or-drop, get_or-take}
use Rattle.image_adoption.specs.Conditions.{AreZerosFrom}

-- of a list
zeros_of : (words : List ℕ) → Decides (list_all (λ word. word == 0) words) ((i : ℕ) → i < length words → get_or words i 0 ≡ 0)
zeros_of words =
    Decides-like (list_all (λ word. word == 0) words)
    (λ all i below. all i 0 below)
    (λ each k d below. get_or_default words k d 0 below ∙ each k below)
    (Decides-by_and (λ word. word == 0) (λ word. word ≡ 0) (list_all (λ word. word == 0)) (λ word. Decides-eqb word 0) refl (λ _ _. refl) words)

-- from a word on
pub zeros_from : (words : List ℕ) (free : ℕ) → free ≤ length words → Decides (list_all (λ word. word == 0) (drop free words)) (AreZerosFrom words free)
zeros_from words free within =
    Decides-like (list_all (λ word. word == 0) (drop free words))
    (λ each i from below.
    let there : i ≡ free + (i - free) = omega (arith, from) in
    ap (λ (i : ℕ). get_or words i 0) there ∙ (sym (get_or-drop free words (i - free) 0) ∙ each (i - free) (omega (arith, length-drop free words, from, below))))
    (λ zeros k below. get_or-drop free words k 0 ∙ zeros (free + k) (omega arith) (omega (arith, length-drop free words, below, within)))
    (zeros_of (drop free words))

-- `n` words from a word on
pub zeros_in : (words : List ℕ) (first n : ℕ) → first + n ≤ length words
    → Decides (list_all (λ word. word == 0) (slice_range words first (first + n))) ((i : ℕ) → i < n → get_or words (first + i) 0 ≡ 0)
zeros_in words first n within =
    let many : length (slice_range words first (first + n)) ≡ n = omega (arith, length-take (first + n - first) (drop first words), length-drop first words, within) in
    let is = λ (i : ℕ) (below : i < n). get_or-take (first + n - first) (drop first words) i 0 (omega (arith, below)) ∙ get_or-drop first words i 0 in
    Decides-like (list_all (λ word. word == 0) (slice_range words first (first + n)))
    (λ each i below. sym (is i below) ∙ each i (omega (arith, many, below)))
    (λ zeros k below. let inside : k < n = omega (arith, many, below) in is k inside ∙ zeros k inside)
    (zeros_of (slice_range words first (first + n)))
