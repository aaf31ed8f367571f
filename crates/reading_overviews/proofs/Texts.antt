-- Texts of numbers, with one more of them.
use Rattle.std.proofs.Common.{◌≡◌, ◌∙◌, ℕ, ◌+◌, List, [], ◌∷◌, ◌++◌, ap, sym, arith}
use Rattle.std.specs.List.{flat_map, range_with_len}
use Rattle.std.proofs.lemmas.List.{append-nil, map-id}
use Rattle.std.proofs.lemmas.List.Concat.{flat_map-append}
use Rattle.std.proofs.lemmas.List.FromFn.{map-range_with_len_more}
use Rattle.reading_texts.specs.Exporting.{joined}
use Rattle.reading_texts.proofs.Adding.{joined-more}

-- the text with one more element
pub flat_map-push : {X Y : Type 0} (f : X → List Y) (xs : List X) (x : X) → flat_map f (xs ++ x ∷ []) ≡ flat_map f xs ++ f x
flat_map-push f xs x = flat_map-append f xs (x ∷ []) ∙ ap (λ s. flat_map f xs ++ s) (append-nil (f x))

-- one more number
pub range-more : (n : ℕ) → range_with_len 0 (n + 1) ≡ range_with_len 0 n ++ n ∷ []
range-more n =
    sym (map-id (range_with_len 0 (n + 1)))
    ∙ (map-range_with_len_more (λ k. k) 0 n n (omega arith) ∙ ap (λ s. s ++ n ∷ []) (map-id (range_with_len 0 n)))

-- the text with one more number
pub texts-more : (f : ℕ → List ℕ) (n : ℕ) → flat_map f (range_with_len 0 (n + 1)) ≡ flat_map f (range_with_len 0 n) ++ f n
texts-more f n = ap (flat_map f) (range-more n) ∙ flat_map-push f (range_with_len 0 n) n

-- two more of the parts that are written one after the other
pub joined-two : (first : List ℕ) (parts : List (List ℕ)) (a b : List ℕ) {second third fourth : List ℕ} → second ≡ first ++ joined parts → third ≡ second ++ a
    → fourth ≡ third ++ b → fourth ≡ first ++ joined ((parts ++ a ∷ []) ++ b ∷ [])
joined-two first parts a b before one two = joined-more first (parts ++ a ∷ []) b (joined-more first parts a before one) two

-- none of them
pub joined-none : (first : List ℕ) → first ≡ first ++ joined []
joined-none first = sym (append-nil first)
