-- Texts of elements with their numbers, one after the other.
use Rattle.std.proofs.Common.{◌≡◌, ◌∙◌, ℕ, ◌+◌, ◌<◌, ◌≤◌, List, ◌++◌, length, take, get_or, map, ap, sym, arith}
use Rattle.std.specs.List.{flat_map, enumerate_from}
use Rattle.std.proofs.lemmas.List.{get_or-map, length-map}
use Rattle.std.proofs.lemmas.List.FromFn.{length-enumerate_from, get_or-enumerate_from}
use Rattle.reading_texts.proofs.Adding.{written-each, written-more}

-- the step of a loop that writes the text of each numbered image
pub numbered-more : {X Y : Type 0} (f : ℕ × Y → List ℕ) (g : X → Y) (xs : List X) (i : ℕ) (x : X) (first : List ℕ) {second third : List ℕ} → i < length xs
    → x ≡ get_or xs i x → second ≡ first ++ flat_map f (take i (enumerate_from 0 (map g xs))) → third ≡ second ++ f (i, g x)
    → third ≡ first ++ flat_map f (take (i + 1) (enumerate_from 0 (map g xs)))
numbered-more f g xs i x first {second} h is before after =
    let within : i < length (map g xs) = rw length-map h in
    let here : i < length (enumerate_from 0 (map g xs)) = rw (length-enumerate_from 0 (map g xs)) within in
    let zeroth : 0 + i ≡ i = omega arith in
    let image : get_or (map g xs) i (g x) ≡ g x = get_or-map g xs i x (g x) h ∙ ap g (sym is) in
    let numbered : get_or (enumerate_from 0 (map g xs)) i (i, g x) ≡ (i, g x) =
    get_or-enumerate_from 0 (map g xs) i (i, g x) within ∙ (ap (λ k. (k, get_or (map g xs) i (g x))) zeroth ∙ ap (λ y. (i, y)) image) in
    written-more f (enumerate_from 0 (map g xs)) i (i, g x) first here before (after ∙ ap (λ one. second ++ f one) (sym numbered))

-- the end of such a loop
pub numbered-all : {X Y : Type 0} (f : ℕ × Y → List ℕ) (g : X → Y) (xs : List X) (i : ℕ) (first : List ℕ) {last : List ℕ} → length xs ≤ i
    → last ≡ first ++ flat_map f (take i (enumerate_from 0 (map g xs))) → last ≡ first ++ flat_map f (enumerate_from 0 (map g xs))
numbered-all f g xs i first h written =
    written-each f (enumerate_from 0 (map g xs)) i first (rw (length-enumerate_from 0 (map g xs), length-map) h) written
