-- The words ahead of a reader, as blocks come from it.
use Rattle.std.proofs.Common.{◌≡◌, ◌⊎◌, ℕ, ◌+◌, ◌-◌, ◌/◌, ◌%◌, ◌<◌, ◌≤◌, Option, None, Some, List, ◌++◌, length, sym, ap, ◌∙◌, append_assoc, append-nil, arith, inl, inr}
use Rattle.std.proofs.lemmas.List.{length-append}
use Rattle.std.specs.Io.KnownBytes.{Consumes, IsAtEnd, Keeps}
use Rattle.segment_image.specs.Words.{words_in}
use Rattle.segment_image.proofs.WordsOfBytes.{length-words_in, words_in-append}
use Rattle.segment_search.specs.Places.{ahead}

-- a block of whole words, or the last one, goes from the reader to the words ahead
pub ahead-block : (a b : Option (List ℕ)) (words new block : List ℕ) → Consumes a b block → (length block % 8 ≡ 0) ⊎ IsAtEnd b
    → new ≡ words ++ words_in block → Keeps (ahead words a) (ahead new b)
ahead-block None b words new block gave last e = tt
ahead-block (Some x) None words new block gave last e = absurd gave
ahead-block (Some x) (Some y) words new block gave (inl whole) e =
    ap (λ l. l ++ words_in y) e ∙ append_assoc words (words_in block) (words_in y)
    ∙ ap (λ l. words ++ l) (sym (words_in-append block y whole) ∙ ap words_in (sym gave))
ahead-block (Some x) (Some y) words new block gave (inr end) e =
    ap (λ l. new ++ words_in l) end ∙ append-nil new ∙ e
    ∙ ap (λ l. words ++ words_in l) (sym (gave ∙ ap (λ l. block ++ l) end ∙ append-nil block))

-- once a block with a word has come, fewer words are missing
pub fewer_missing : (count : ℕ) (words new block : List ℕ) → length words < count → new ≡ words ++ words_in block → 8 ≤ length block
    → count - length new < count - length words
fewer_missing count words new block missing e one =
    let sum : length new ≡ length words + length block / 8 = ap length e ∙ length-append words (words_in block) ∙ ap (λ n. length words + n) (length-words_in block) in
    omega (arith, missing, sum, one)
