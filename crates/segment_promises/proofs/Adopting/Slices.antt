-- Runs of words: the words from a place on, one by one, and several runs in order.
use Rattle.std.proofs.Common.{◌≡◌, ℕ, zero, suc, ◌+◌, ◌≤◌, List, [], ◌∷◌, ◌++◌, length, take, drop, refl, sym, ap, ◌∙◌, arith, drop-cons, append_assoc}
use Rattle.std.proofs.Math.Seq.{take-nil}
use Rattle.std.proofs.lemmas.List.{drop-drop, length-take-le, length-drop}
use Rattle.segment_image.specs.Blocks.{field_at}

-- a front of `m + n` elements is a front of `m`, and then a front of what follows it
pub take_more : {X : Type 0} (m n : ℕ) (xs : List X) → take (m + n) xs ≡ take m xs ++ take n (drop m xs)
take_more {X} zero n xs = ap (λ (k : ℕ). take k xs) none
  where
    none : 0 + n ≡ n
    none = omega arith
take_more {X} (suc m) n [] = take-nil (suc m + n) ∙ sym (take-nil n)
take_more {X} (suc m) n (x ∷ xs) =
    ap (λ (k : ℕ). take k (x ∷ xs)) next ∙ ap (λ (ys : List X). x ∷ ys) (take_more m n xs)
  where
    next : suc m + n ≡ suc (m + n)
    next = omega arith

module _ (words : List ℕ) where
  -- so a run of words is its front and what follows it
  pub run_more : (at m n k : ℕ) → m + n ≡ k → take k (drop at words) ≡ take m (drop at words) ++ take n (drop (at + m) words)
  run_more at m n k sum =
      ap (λ (k : ℕ). take k (drop at words)) (sym sum)
      ∙ (take_more m n (drop at words) ∙ ap (λ (ws : List ℕ). take m (drop at words) ++ take n ws) (drop-drop m at words))

  -- three runs, each right after the one before, are one
  pub three_runs : (i j k a b c all : ℕ) → j ≡ i + a → k ≡ j + b → a + (b + c) ≡ all
      → (take a (drop i words) ++ take b (drop j words)) ++ take c (drop k words) ≡ take all (drop i words)
  three_runs i j k a b c all second third sum =
      append_assoc (take a (drop i words)) (take b (drop j words)) (take c (drop k words))
      ∙ sym (run_more i a (b + c) all sum
      ∙ ap (λ (ws : List ℕ). take a (drop i words) ++ ws) (
      ap (λ (j : ℕ). take (b + c) (drop j words)) (sym second)
      ∙ (run_more j b c (b + c) refl ∙ ap (λ (k : ℕ). take b (drop j words) ++ take c (drop k words)) (sym third))))

  -- how long a run is
  pub run_long : (at n : ℕ) → at + n ≤ length words → length (take n (drop at words)) ≡ n
  run_long at n within = length-take-le n (drop at words) (let long = length-drop at words in omega (arith, long, within))

  -- words of a block, from its word `j` on
  abbrev pub fields : ℕ → ℕ → ℕ → List ℕ
  fields at j zero = []
  fields at j (suc n) = field_at words at j ∷ fields at (suc j) n

  pub fields_run : (at j n : ℕ) → at + j + n ≤ length words → take n (drop (at + j) words) ≡ fields at j n
  fields_run at j zero within = refl
  fields_run at j (suc n) within =
      ap (take (suc n)) (drop-cons words (at + j) 0 (omega (arith, within)))
      ∙ ap (λ (ws : List ℕ). field_at words at j ∷ ws)
      (ap (λ (k : ℕ). take n (drop k words)) next ∙ fields_run at (suc j) n (omega (arith, within)))
    where
      next : suc (at + j) ≡ at + suc j
      next = omega arith
